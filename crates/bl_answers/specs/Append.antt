-- Why append is refused, of accepted files: each check by itself, and then one behind another in the order of
-- refusals. The opening of files is not in it. This project's own.
use Rattle.std.specs.Prelude.{ℕ, nat_lt, if◌then◌else◌, List, [], ◌∷◌, length, map, flat_map, Option, None, zero, suc, not, ◌==◌, filter, option_map, option_and_then}
use Rattle.std.specs.Option.{option_or}
use Rattle.bl_format.specs.declared.catalogue.Catalogue.{Catalogue}
use Rattle.bl_format.specs.Words.{find_map}
use Rattle.bl_selection.specs.Selection.{selection_clash}
use Rattle.bl_linking.specs.References.{name_capacity}
use Rattle.bl_linking.specs.Append.{catalogue_in, name_in, path_in, local_named, Merge, Branch, branches, appended_draft}
use Rattle.bl_commands.specs.declared.ending.Ending.{Ending}
use Rattle.bl_commands.specs.Checks.{first_ending}
use Rattle.bl_answers.specs.Merges.{missing_struct, unfit_struct, no_struct_ending, missing_root, no_datablock_ending, overlong_length, path_capacity, LongText, LongPath, LongName, long_text_ending, too_many_libraries}
use Rattle.bl_answers.specs.Writing.{float_cast_ending}

-- the libraries and placeholders of the output, in order, each as file and node
abbrev pub branch_nodes : List Branch → List (ℕ × ℕ)
branch_nodes bs = flat_map (λ (x : Branch). x.library ∷ x.placeholders) bs

-- the nodes of LIB among them
abbrev pub added_nodes : List Branch → List ℕ
added_nodes bs = map (λ (p : ℕ × ℕ). p.1) (filter (λ (p : ℕ × ℕ). not (p.0 == 0)) (branch_nodes bs))

-- the struct of the root of a name, where it is no ID under INTO's catalogue
abbrev pub unfit_root : Merge → List ℕ → Option (List ℕ)
unfit_root m name = option_and_then (unfit_struct (catalogue_in m.a) m.b) (local_named m.b name)

-- the struct that append misses first: one that new libraries and placeholders need, then that of the first
-- of these that is no ID, then that of the first such root
unfoldable pub append_no_struct : Merge → List (List ℕ) → Option (List ℕ)
append_no_struct m roots =
    let c = catalogue_in m.a in
    let news = added_nodes (branches m) in
    option_or (if nat_lt 0 (length news) then missing_struct c else None)
    (option_or (find_map (unfit_struct c m.b) news) (find_map (unfit_root m) roots))

-- the first text of a branch that is new and too long
abbrev pub first_long_text : Merge → Branch → Option LongText
first_long_text m x = option_or (long_path x.library) (find_map long_name x.placeholders)
  where
    c : Catalogue
    c = catalogue_in m.a

    long_path : ℕ × ℕ → Option LongText
    long_path (zero, l) = None
    long_path (suc i, l) = option_map LongPath (overlong_length (path_in m.b l) (path_capacity c))

    long_name : ℕ × ℕ → Option LongText
    long_name (zero, p) = None
    long_name (suc i, p) = option_map LongName (overlong_length (name_in m.b p) (name_capacity c))

-- the first text of append that is too long
unfoldable pub append_too_long : Merge → Option LongText
append_too_long m = find_map (first_long_text m) (branches m)

-- why append is refused, of accepted files that aren't refused by themselves
unfoldable pub append_refusal : Merge → List (List ℕ) → Option Ending
append_refusal m roots =
    let clash = selection_clash (m.a.file ∷ m.b.file ∷ []) (appended_draft m) in
    first_ending (
    option_map (no_datablock_ending roots) (missing_root m.b roots)
    ∷ option_map no_struct_ending (append_no_struct m roots)
    ∷ option_map long_text_ending (append_too_long m)
    ∷ too_many_libraries (length (branches m))
    ∷ option_map (float_cast_ending (catalogue_in m.a)) clash
    ∷ [])
