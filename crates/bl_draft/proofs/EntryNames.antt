-- What addresses name from the entries of a draft says nothing of the bytes of its source.
use Rattle.std.proofs.Common.{◌≡◌, ℕ, zero, suc, cond, List, [], ◌∷◌, Option, Some, None, refl, ap}
use Rattle.std.specs.Prelude.{◌==◌, ◌||◌, map, option_and_then}
use Rattle.std.proofs.Math.Path.{fun_ext}
use Rattle.bl_format.specs.Nodes.{File, marks, group_of, is_id}
use Rattle.bl_format.specs.Graph.{file_codes, file_names}
use Rattle.bl_selection.specs.declared.draft.Draft.{Draft}
use Rattle.bl_selection.specs.declared.draft.Entry.{Entry}
use Rattle.bl_selection.specs.declared.draft.Entry.TheVariants as entries
use Rattle.bl_selection.specs.Selection.{entry_at, entry_code, entry_codes, entry_count, entry_index, entry_is_id, image_of, target_in_scope, entry_names}
use Rattle.bl_file.specs.declared.outline.Outline.{Outline}
use Rattle.bl_draft.specs.Own.{outlined}

module _ (o : Outline) (d : Draft) (b : List ℕ) where
  -- the file without its bytes
  abbrev bare : List File
  bare = outlined o [] ∷ []

  -- the file with them
  abbrev whole : List File
  whole = outlined o b ∷ []

  code_same : (x : Entry) → entry_code bare x ≡ entry_code whole x
  code_same (entries.Source zero n) = refl
  code_same (entries.Source (suc i) n) = refl
  code_same (entries.Made m) = refl
  code_same (entries.Raw code bytes) = refl

  count_same : (x : Entry) → entry_count bare x ≡ entry_count whole x
  count_same (entries.Source zero n) = refl
  count_same (entries.Source (suc i) n) = refl
  count_same (entries.Made m) = refl
  count_same (entries.Raw code bytes) = refl

  index_same : (x : Entry) → entry_index bare d.catalogue x ≡ entry_index whole d.catalogue x
  index_same (entries.Source zero n) = refl
  index_same (entries.Source (suc i) n) = refl
  index_same (entries.Made m) = refl
  index_same (entries.Raw code bytes) = refl

  codes_same : entry_codes bare d ≡ entry_codes whole d
  codes_same = ap (λ (code : Entry → List ℕ). map code d.entries) (fun_ext code_same)

  is_id_same : (e : ℕ) → entry_is_id bare d e ≡ entry_is_id whole d e
  unfolding entry_is_id
  is_id_same e =
      let x : Entry = entry_at d e in
      λ i. is_id d.catalogue (code_same x i) (count_same x i) (index_same x i)

  scope_same : (e to : ℕ) → target_in_scope bare d e to ≡ target_in_scope whole d e to
  scope_same e to = λ i. cond (group_of (codes_same i) to == group_of (codes_same i) e || is_id_same to i) (Some to) None

  -- an address names the same from an entry
  pub names_without : (e n : ℕ) → entry_names bare d e 0 n ≡ entry_names whole d e 0 n
  unfolding entry_names marks
  names_without e n =
      let target : ℕ → Option ℕ = λ (address : ℕ). file_names (outlined o b) (group_of (file_codes (outlined o b)) n) address in
      ap (λ (scope : ℕ → Option ℕ). λ (address : ℕ). option_and_then scope (option_and_then (image_of d 0) (target address))) (fun_ext (scope_same e))
