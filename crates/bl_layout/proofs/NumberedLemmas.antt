-- The names and types that a number of 16 bits may mean.
use Rattle.std.proofs.Common.{◌≡◌, ℕ, ◌<◌, ◌^◌, List, [], length, get_or, map, take, sym, ◌∙◌, ap, arith, inl, inr}
use Rattle.std.specs.Prelude.{min, All}
use Rattle.std.proofs.lemmas.Bool.{cases_lt}
use Rattle.std.proofs.lemmas.List.{length-take, get_or-take, take_all, get_or-map}
use Rattle.bl_format.specs.declared.catalogue.Catalogue.{Catalogue}
use Rattle.bl_format.specs.declared.catalogue.StructEntry.{StructEntry}
use Rattle.bl_format.specs.Schema.{IsCatalogue}
use Rattle.bl_layout.specs.declared.member_names.NameEntry.{NameEntry}
use Rattle.bl_layout.specs.MemberNames.{entry_of_name, name_parts}
use Rattle.bl_layout.specs.Identifiers.{identifier_of}
use Rattle.bl_layout.specs.Tables.{numbered}

-- as many as there are, and at most 2^16
pub length-numbered : {A : Type 0} (xs : List A) → length (numbered xs) ≡ min (2 ^ 16) (length xs)
unfolding numbered
length-numbered xs = length-take (2 ^ 16) xs

-- what a number may mean is among them
pub numbered_inside : {A : Type 0} (xs : List A) (n : ℕ) → n < length xs → n < 2 ^ 16 → n < length (numbered xs)
numbered_inside xs n lt small = omega (arith, length-numbered xs)

-- and is what it means
pub numbered_at : {A : Type 0} (xs : List A) (n : ℕ) (d : A) → n < 2 ^ 16 → get_or (numbered xs) n d ≡ get_or xs n d
unfolding numbered
numbered_at xs n d small = get_or-take (2 ^ 16) xs n d small

-- the part that the code takes
pub numbered_cut : {A : Type 0} (xs : List A) (n : ℕ) → n ≡ min (length xs) (2 ^ 16) → take n xs ≡ numbered xs
unfolding numbered
numbered_cut xs n is = elim (cases_lt (length xs) (2 ^ 16)) [
  | inl less ↦ (let all : n ≡ length xs = omega (arith, is) in
      ap (λ (k : ℕ). take k xs) all ∙ take_all (length xs) xs (omega arith) ∙ sym (take_all (2 ^ 16) xs (omega arith)))
  | inr most ↦ (let full : n ≡ 2 ^ 16 = omega (arith, is) in ap (λ (k : ℕ). take k xs) full)
]

-- the entry of the name that a number means
pub name_at : (names : List (List ℕ)) (n : ℕ) (d : NameEntry) → n < length names → n < 2 ^ 16
    → get_or (map entry_of_name (numbered names)) n d ≡ entry_of_name (get_or names n [])
name_at names n d lt small =
    get_or-map entry_of_name (numbered names) n [] d (numbered_inside names n lt small)
    ∙ ap (λ (x : List ℕ). entry_of_name x) (numbered_at names n [] small)

-- the identifier of the name that a number means
pub identifier_at : (names : List (List ℕ)) (n : ℕ) → n < 2 ^ 16 → identifier_of (numbered names) n ≡ identifier_of names n
identifier_at names n small = ap (λ (x : List ℕ). (name_parts x).identifier) (numbered_at names n [] small)

-- the types of structs are among them
pub struct_types_inside : (c : Catalogue) → IsCatalogue c → All (λ s. s.type_number < length (numbered c.types)) c.structs
struct_types_inside c is k d lt =
    let s : StructEntry = get_or c.structs k d in
    let fits = is.structs k d lt in
    numbered_inside c.types s.type_number fits.type_number fits.type_number_fits
