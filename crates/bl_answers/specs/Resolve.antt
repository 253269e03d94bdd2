-- Why resolve is refused, of accepted files: each check by itself, and then one behind another in the order of
-- refusals. The opening of files is not in it. This project's own.
use Rattle.std.specs.Prelude.{ℕ, ◌&&◌, List, [], ◌∷◌, map, Option, unwrap_or, Bool, ◌==◌, option_map, option_and_then, is_none}
use Rattle.std.specs.List.{find, list_any}
use Rattle.bl_format.specs.Words.{find_map}
use Rattle.bl_selection.specs.Selection.{selection_clash}
use Rattle.bl_linking.specs.Append.{catalogue_in, name_in, placeholders}
use Rattle.bl_linking.specs.Resolve.{OpenFile, open_file_at, original_of, needed_placeholders, other_files, placeholder_path, resolved_draft}
use Rattle.bl_commands.specs.declared.ending.Ending.{Ending}
use Rattle.bl_commands.specs.declared.ending.Ending.TheVariants.{Missing}
use Rattle.bl_commands.specs.declared.ending.Lack.TheVariants.{MissingDatablock}
use Rattle.bl_commands.specs.Checks.{first_ending}
use Rattle.bl_answers.specs.Merges.{unfit_struct, no_struct_ending}
use Rattle.bl_answers.specs.Writing.{float_cast_ending}

-- the open files in the order in which missing datablocks are looked for: IN, and then by name
abbrev pub file_order : List OpenFile → List ℕ
file_order os = 0 ∷ other_files os

-- the first needed placeholder that stands for nothing, as file and node: by file, and then by node
unfoldable pub missing_datablock : List OpenFile → Option (ℕ × ℕ)
missing_datablock os = find_map first_in (file_order os)
  where
    is_missing : ℕ → ℕ → Bool
    is_missing i p =
        list_any (λ (q : ℕ × ℕ). q.0 == i && q.1 == p) (needed_placeholders os) && is_none (original_of os i p)

    first_in : ℕ → Option (ℕ × ℕ)
    first_in i = option_map (λ p. (i, p)) (find (is_missing i) (placeholders (open_file_at os i)))

-- the struct that resolve misses: that of the first ID that a placeholder of IN stands for and that is none
-- under IN's catalogue
unfoldable pub resolve_no_struct : List OpenFile → Option (List ℕ)
resolve_no_struct os = find_map unfit_at (placeholders (open_file_at os 0))
  where
    unfit_here : ℕ × ℕ → Option (List ℕ)
    unfit_here p = unfit_struct (catalogue_in (open_file_at os 0)) (open_file_at os p.0) p.1

    unfit_at : ℕ → Option (List ℕ)
    unfit_at p = option_and_then unfit_here (original_of os 0 p)

-- why resolve is refused, of such files, where each file that is needed is open
unfoldable pub resolve_refusal : List OpenFile → Option Ending
resolve_refusal os =
    let c = catalogue_in (open_file_at os 0) in
    let clash = selection_clash (map (λ (o : OpenFile). o.at.file) os) (resolved_draft os) in
    first_ending (
    option_map missing (missing_datablock os)
    ∷ option_map no_struct_ending (resolve_no_struct os)
    ∷ option_map (float_cast_ending c) clash
    ∷ [])
  where
    missing : ℕ × ℕ → Ending
    missing q =
        let path = unwrap_or (placeholder_path os q) [] in
        Missing (MissingDatablock (name_in (open_file_at os q.0) q.1) path)
