-- What a name or a key finds is there: a struct of this name, and a member, with which another one meets.
use Rattle.std.proofs.Common.{◌≡◌, ◌<◌, ℕ, suc, ◌+◌, Bool, true, false, cond, List, [], ◌∷◌, length, Some, refl, arith}
use Rattle.std.specs.Prelude.{◌==◌}
use Rattle.std.specs.List.{position_from}
use Rattle.std.specs.Str.{bytes_eq}
use Rattle.std.proofs.lemmas.Slice.Eq.{bytes_eq-Decides}
use Rattle.bl_num.specs.declared.number.Width.{Width}
use Rattle.bl_format.specs.declared.catalogue.Catalogue.{Catalogue}
use Rattle.bl_format.specs.declared.catalogue.StructEntry.{StructEntry}
use Rattle.bl_format.specs.Words.{numbers_below}
use Rattle.bl_format.specs.Layout.{member_count, member_size, name_of, struct_name, struct_named, type_entry}
use Rattle.bl_format.proofs.MemberPasses.{StandsAt}
use Rattle.bl_format.proofs.NumbersBelow.{length-numbers_below}
use Rattle.bl_selection.specs.Fate.{fate_of, member_of_key, pair_fate}

found_at : {X : Type 0} (p : X → Bool) (i : ℕ) (xs : List X) (t : ℕ) → position_from p i xs ≡ Some t → StandsAt p i xs t
found_at p i [] t e = absurd (cc)
found_at {X} p i (x ∷ xs) t e = go (p x) refl e (found_at p (i + 1) xs t)
  where
    go : (b : Bool) → p x ≡ b → cond b (Some i) (position_from p (i + 1) xs) ≡ Some t
        → (position_from p (i + 1) xs ≡ Some t → StandsAt p (i + 1) xs t) → StandsAt p i (x ∷ xs) t
    go true is e later = record { number = 0; place = (let same : i ≡ t = cc in omega arith); within = omega arith; passes = λ d. is }
    go false is e later =
        let h = later e in
        record { number = suc h.number; place = omega (arith, h.place); within = omega (arith, h.within); passes = h.passes }

-- the member of a key is one of the struct's
pub member_found : (c : Catalogue) (s : ℕ) (key : List ℕ) (k : ℕ) → member_of_key c s key ≡ Some k → k < member_count c s
member_found c s key k is =
    let at = found_at (λ j. bytes_eq (name_of c s j).key key) 0 (numbers_below (member_count c s)) k is in
    omega (arith, at.place, at.within, length-numbers_below (member_count c s))

module _ (c : Catalogue) (name : List ℕ) (s : ℕ) (is : struct_named c name ≡ Some s) where
  stands : StandsAt (λ (x : StructEntry). bytes_eq (type_entry c x.type_number).name name) 0 c.structs s
  unfolding struct_named
  stands = found_at (λ (x : StructEntry). bytes_eq (type_entry c x.type_number).name name) 0 c.structs s is

  same : s ≡ stands.number
  same = omega (arith, stands.place)

  -- the struct of a name is one of the catalogue's
  pub struct_found : s < length c.structs
  struct_found = omega (arith, same, stands.within)

  -- and has that name
  pub struct_so_named : struct_name c s ≡ name
  struct_so_named =
      (bytes_eq-Decides (struct_name c s) name).0
      (rw same (stands.passes (record { type_number = length c.types; members = [] })))

-- the fate of a member that meets one, where neither is empty
pub met_fate : (from : Catalogue) (v : Width) (s : ℕ) (to : Catalogue) (w : Width) (t k j : ℕ) → member_of_key from s (name_of to t k).key ≡ Some j
    → (member_size from v s j == 0) ≡ false → (member_size to w t k == 0) ≡ false → pair_fate from s j to t k ≡ fate_of from v s to w t k
unfolding fate_of
met_fate from v s to w t k j found full full' = rw (found, full, full') refl
