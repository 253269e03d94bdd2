-- In a catalogue that can be read no two structs have one name, so the struct of a struct's name is that struct.
use Rattle.std.proofs.Common.{◌≡◌, ◌≢◌, ℕ, zero, suc, ◌+◌, ◌<◌, Bool, true, false, cond, AllPairs, List, [], ◌∷◌, length, get_or, Option, Some, refl, sym, ap, ◌∙◌, arith, inl, inr}
use Rattle.std.specs.Prelude.{unwrap_or}
use Rattle.std.specs.List.{position_from}
use Rattle.std.specs.Str.{bytes_eq}
use Rattle.std.proofs.lemmas.Bool.{cases_lt}
use Rattle.std.proofs.lemmas.Slice.Eq.{bytes_eq-Decides}
use Rattle.bl_format.specs.declared.catalogue.Catalogue.{Catalogue}
use Rattle.bl_format.specs.declared.catalogue.StructEntry.{StructEntry}
use Rattle.bl_format.specs.declared.catalogue.TypeEntry.{TypeEntry}
use Rattle.bl_format.specs.Schema.{CanBeRead, IsCatalogue}
use Rattle.bl_format.specs.Layout.{type_entry, struct_name, struct_named, struct_number}
use Rattle.bl_format.proofs.CatalogueRead.{IsCatalogue-can_be_read}
use Rattle.bl_format.proofs.CatalogueBack.{text_ne}

-- the first that passes is the one before which none does
first_is : {X : Type 0} (p : X → Bool) (xs : List X) (i k : ℕ) (d : X) → k < length xs → p (get_or xs k d) ≡ true
    → ((j : ℕ) → j < k → p (get_or xs j d) ≡ false) → position_from p i xs ≡ Some (i + k)
first_is p [] i k d lt own others = absurd (omega arith)
first_is p (x ∷ xs) i zero d lt own others =
    let here : i ≡ i + 0 = omega arith in
    ap (λ b. cond b (Some i) (position_from p (i + 1) xs)) own ∙ ap Some here
first_is p (x ∷ xs) i (suc k) d lt own others =
    let further : i + 1 + k ≡ i + suc k = omega arith in
    ap (λ b. cond b (Some i) (position_from p (i + 1) xs)) (others 0 (omega arith))
    ∙ first_is p xs (i + 1) k d (omega arith) own (λ j below. others (suc j) (omega arith)) ∙ ap Some further

-- what differs for each pair in order differs for any two places
apart : {X : Type 0} (f : X → List ℕ) (xs : List X) (i j : ℕ) (d : X) → AllPairs (λ x y. f x ≢ f y) xs → i ≢ j
    → i < length xs → j < length xs → f (get_or xs i d) ≢ f (get_or xs j d)
apart f xs i j d pairs other lt within = elim (cases_lt i j) [
  | inl less ↦ pairs i j d less within
  | inr le ↦ elim (cases_lt j i) [
    | inl more ↦ (λ same. pairs j i d more lt (sym same))
    | inr ge ↦ absurd (other (omega arith))
  ]
]

module _ (c : Catalogue) (is : IsCatalogue c) (s : ℕ) (lt : s < length c.structs) where
  -- a struct before has another name
  earlier : (d : StructEntry) (j : ℕ) → j < s
      → bytes_eq (type_entry c (get_or c.structs j d).type_number).name (type_entry c (get_or c.structs s d).type_number).name ≡ false
  earlier d j below =
      let first = is.structs j d (omega (arith, below, lt)) in
      let second = is.structs s d lt in
      let t : ℕ = (get_or c.structs j d).type_number in
      let u : ℕ = (get_or c.structs s d).type_number in
      text_ne (type_entry c t).name (type_entry c u).name
      (apart (λ (x : TypeEntry). x.name) c.types t u (record { name = []; length = 0 }) is.type_names_differ
      (is.struct_types_differ j s d below lt) first.type_number second.type_number)

  named_own : struct_named c (struct_name c s) ≡ Some s
  unfolding struct_named
  named_own =
      let none : StructEntry = record { type_number = length c.types; members = [] } in
      let same : 0 + s ≡ s = omega arith in
      first_is (λ (x : StructEntry). bytes_eq (type_entry c x.type_number).name (struct_name c s)) c.structs 0 s none lt
      ((bytes_eq-Decides (struct_name c s) (struct_name c s)).1 refl) (earlier none) ∙ ap Some same

-- the struct of a struct's name is that struct
pub struct_number-own : (c : Catalogue) (s : ℕ) → CanBeRead c → s < length c.structs → struct_number c (struct_name c s) ≡ s
struct_number-own c s read lt = ap (λ (o : Option ℕ). unwrap_or o 0) (named_own c (IsCatalogue-can_be_read c read) s lt)
