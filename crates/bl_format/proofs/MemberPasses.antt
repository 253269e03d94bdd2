-- What a layout without a fault of a member says of each member: it passes all checks. And what a struct that stands
-- in another by value is: one of the catalogue's, whose length is the member's element size.
use Rattle.std.proofs.Common.{◌≡◌, ℕ, zero, suc, ◌+◌, ◌<◌, Bool, true, false, cond, List, [], ◌∷◌, ◌++◌, length, get_or, Option, Some, None, refl, sym, ap, ◌∙◌, arith, inl, inr, eqb-true}
use Rattle.std.specs.Prelude.{◌==◌}
use Rattle.std.specs.List.{position_from}
use Rattle.std.specs.Option.{option_or}
use Rattle.std.proofs.lemmas.Bool.{cases_lt}
use Rattle.std.proofs.lemmas.List.{get_or_past}
use Rattle.bl_num.specs.declared.number.Width.{Width}
use Rattle.bl_format.specs.declared.catalogue.Catalogue.{Catalogue}
use Rattle.bl_format.specs.declared.catalogue.StructEntry.{StructEntry}
use Rattle.bl_format.specs.declared.layout.LayoutFault.{LayoutFault}
use Rattle.bl_format.specs.declared.layout.LayoutFault.TheVariants.{BadName, BasicLength, Overrun, Cyclic, DuplicateMember}
use Rattle.bl_format.specs.Words.{numbers_below, find_map}
use Rattle.bl_format.specs.Layout.{Basic, type_entry, struct_entry, member_entry, member_count, member_numbers, struct_length, struct_of_type, struct_or_bytes, basic_or_struct, basic_named, struct_of_content, content_of, name_of, inner_struct, element_size, has_bad_name, is_duplicate, has_bad_length, leads_back, overruns, member_fault, first_fault, layout_fault, depth_fault, leaves_fault}

-- member k of struct s passes the checks of a layout
pub record MemberPasses (c : Catalogue) (w : Width) (s k : ℕ) : Type 0 where
  pub name : has_bad_name c s k ≡ false
  pub identifier : is_duplicate c s k ≡ false
  pub basic_length : has_bad_length c s k ≡ false
  pub not_cyclic : leads_back c s (inner_struct c s k) ≡ false
  pub within : overruns c w s k ≡ false

-- what is found in two lists, one behind the other, is what is found in the first, else in the second
pub find_map-append : {X Y : Type 0} (f : X → Option Y) (xs ys : List X)
    → find_map f (xs ++ ys) ≡ option_or (find_map f xs) (find_map f ys)
find_map-append f [] ys = refl
find_map-append {X} {Y} f (x ∷ xs) ys = rw (find_map-append f xs ys) (go (f x))
  where
    go : (o : Option Y) → option_or o (option_or (find_map f xs) (find_map f ys)) ≡ option_or (option_or o (find_map f xs)) (find_map f ys)
    go None = refl
    go (Some y) = refl

-- where nothing is found in either of two places, nothing is in each
pub neither : {Y : Type 0} (a b : Option Y) → option_or a b ≡ None → (a ≡ None) × (b ≡ None)
neither None b e = (refl, e)
neither (Some y) b e = absurd (cc)

-- a function that gives nothing for the numbers below n gives nothing for one of them
pub none_below : {Y : Type 0} (f : ℕ → Option Y) (n k : ℕ) → find_map f (numbers_below n) ≡ None → k < n → f k ≡ None
none_below f zero k e lt = absurd (omega arith)
none_below {Y} f (suc n) k e lt =
    let both = neither (find_map f (numbers_below n)) (option_or (f n) None) (sym (find_map-append f (numbers_below n) (n ∷ [])) ∙ e) in
    elim (cases_lt k n) [
      | inl below ↦ none_below f n k both.0 below
      | inr le ↦ (let same : k ≡ n = omega arith in rw same (neither (f n) None both.1).0)
    ]

-- a check before the others didn't fail
passed : (failed : Bool) (fault : LayoutFault) (rest : Option LayoutFault) → cond failed (Some fault) rest ≡ None → (failed ≡ false) × (rest ≡ None)
passed true fault rest e = absurd (cc)
passed false fault rest e = (refl, e)

passes : (c : Catalogue) (w : Width) (s k : ℕ) → member_fault c w s k ≡ None → MemberPasses c w s k
unfolding member_fault
passes c w s k e =
    let over : Option LayoutFault = cond (overruns c w s k) (Some (Overrun s k)) None in
    let cyclic : Option LayoutFault = cond (leads_back c s (inner_struct c s k)) (Some (Cyclic s k)) over in
    let basic : Option LayoutFault = cond (has_bad_length c s k) (Some (BasicLength s k)) cyclic in
    let duplicate : Option LayoutFault = cond (is_duplicate c s k) (Some (DuplicateMember s k)) basic in
    let a = passed (has_bad_name c s k) (BadName s k) duplicate e in
    let b = passed (is_duplicate c s k) (DuplicateMember s k) basic a.1 in
    let d = passed (has_bad_length c s k) (BasicLength s k) cyclic b.1 in
    let f = passed (leads_back c s (inner_struct c s k)) (Cyclic s k) over d.1 in
    let g = passed (overruns c w s k) (Overrun s k) None f.1 in
    record { name = a.0; identifier = b.0; basic_length = d.0; not_cyclic = f.0; within = g.0 }

-- a struct with a member is one of the catalogue's
pub struct_exists : (c : Catalogue) (s k : ℕ) → k < member_count c s → s < length c.structs
struct_exists c s k lt =
    elim (cases_lt s (length c.structs)) [
      | inl is ↦ is
      | inr le ↦ absurd (
          let none : StructEntry = record { type_number = length c.types; members = [] } in
          let e : struct_entry c s ≡ none = get_or_past c.structs s none le in
          let z : member_count c s ≡ 0 = ap (λ (x : StructEntry). length x.members) e in
          omega (arith, z))
    ]

-- where no member has a fault, each one passes the checks
pub member_passes : (c : Catalogue) (w : Width) (s k : ℕ)
    → first_fault c w ≡ None → k < member_count c s → MemberPasses c w s k
unfolding first_fault
member_passes c w s k e lt =
    passes c w s k (none_below (member_fault c w s) (member_count c s) k (none_below (λ t. find_map (member_fault c w t) (member_numbers c t)) (length c.structs) s e (struct_exists c s k lt)) lt)

-- a layout without a fault has none of a member
pub first_fault-none : (c : Catalogue) (w : Width) → layout_fault c w ≡ None → first_fault c w ≡ None
unfolding layout_fault
first_fault-none c w e = (neither (first_fault c w) (option_or (depth_fault c) (leaves_fault c w)) e).0

-- ---- structs by value

-- an element stands at this place of a list and passes a test
pub record StandsAt {X : Type 0} (p : X → Bool) (i : ℕ) (xs : List X) (t : ℕ) : Type 0 where
  pub number : ℕ
  pub place : t ≡ i + number
  pub within : number < length xs
  pub passes : (d : X) → p (get_or xs number d) ≡ true

place_of : {X : Type 0} (p : X → Bool) (i : ℕ) (xs : List X) (t : ℕ) → position_from p i xs ≡ Some t → StandsAt p i xs t
place_of p i [] t e = absurd (cc)
place_of {X} p i (x ∷ xs) t e = go (p x) refl e (place_of p (i + 1) xs t)
  where
    go : (b : Bool) → p x ≡ b → cond b (Some i) (position_from p (i + 1) xs) ≡ Some t
        → (position_from p (i + 1) xs ≡ Some t → StandsAt p (i + 1) xs t) → StandsAt p i (x ∷ xs) t
    go true is e later = record { number = 0; place = (let same : i ≡ t = cc in omega arith); within = omega arith; passes = λ d. is }
    go false is e later =
        let h = later e in
        record { number = suc h.number; place = omega (arith, h.place); within = omega (arith, h.within); passes = h.passes }

-- the struct of a type is one of the catalogue's, and has that type
pub record IsStructOf (c : Catalogue) (type_number s : ℕ) : Type 0 where
  pub within : s < length c.structs
  pub type_number_is : (struct_entry c s).type_number ≡ type_number

-- the struct that is found for a type has that type
pub is_struct_of : (c : Catalogue) (t s : ℕ) → struct_of_type c t ≡ Some s → IsStructOf c t s
is_struct_of c t s e =
    let h = place_of (λ (x : StructEntry). x.type_number == t) 0 c.structs s e in
    let same : s ≡ h.number = omega (arith, h.place) in
    record {
      within = omega (arith, h.within);
      type_number_is = rw same (eqb-true _ t (h.passes (record { type_number = length c.types; members = [] })));
    }

-- member k of struct s is struct t by value
pub record IsInside (c : Catalogue) (s k t : ℕ) : Type 0 where
  pub by_value : (name_of c s k).pointer ≡ false
  pub basic : basic_named (type_entry c (member_entry c s k).type_number).name ≡ None
  pub is_struct : IsStructOf c (member_entry c s k).type_number t

-- what stands in a struct by value is a struct of the catalogue, of the member's type
pub inner_struct-some : (c : Catalogue) (s k t : ℕ) → inner_struct c s k ≡ Some t → IsInside c s k t
unfolding inner_struct content_of
inner_struct-some c s k t e = by_pointer (name_of c s k).pointer refl e
  where
    by_struct : (o : Option ℕ) → struct_of_content (struct_or_bytes o) ≡ Some t → o ≡ Some t
    by_struct None e = absurd (cc)
    by_struct (Some u) e = e

    by_basic : (b : Option Basic) (o : Option ℕ) → struct_of_content (basic_or_struct b o) ≡ Some t → (b ≡ None) × (o ≡ Some t)
    by_basic (Some b) o e = absurd (cc)
    by_basic None o e = (refl, by_struct o e)

    by_pointer : (p : Bool) → (name_of c s k).pointer ≡ p → cond p None (struct_of_content (content_of c (member_entry c s k).type_number)) ≡ Some t → IsInside c s k t
    by_pointer true is e = absurd (cc)
    by_pointer false is e =
        let both = by_basic (basic_named (type_entry c (member_entry c s k).type_number).name) (struct_of_type c (member_entry c s k).type_number) e in
        record { by_value = is; basic = both.0; is_struct = is_struct_of c (member_entry c s k).type_number t both.1 }

-- the elements of a member that is a struct by value are as long as that struct
pub element_size-inner : (c : Catalogue) (w : Width) (s k t : ℕ)
    → inner_struct c s k ≡ Some t → element_size c w s k ≡ struct_length c t
unfolding element_size
element_size-inner c w s k t e =
    let h = inner_struct-some c s k t e in
    rw (h.by_value, ← h.is_struct.type_number_is) refl
