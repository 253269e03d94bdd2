-- What the leaves of a struct meet, as it is put member by member.
use Rattle.std.proofs.Common.{◌≡◌, ◌<◌, ◌≤◌, ℕ, suc, List, [], ◌++◌, length, get_or, Option, sym, ap, subst, ◌∙◌, arith}
use Rattle.std.specs.Prelude.{map, flat_map}
use Rattle.std.proofs.lemmas.List.{length-map, length-append, map-append}
use Rattle.bl_num.specs.declared.number.Width.{Width}
use Rattle.bl_format.specs.declared.catalogue.Catalogue.{Catalogue}
use Rattle.bl_format.specs.Words.{numbers_below}
use Rattle.bl_format.specs.Layout.{NamedLeaf, no_leaf, member_count, named_leaves, first_member}
use Rattle.bl_layout.proofs.UnfoldLemmas.{named_leaves-members}
use Rattle.bl_plan.specs.SourcePlaces.{source_place, member_of_leaf}
use Rattle.bl_plan.proofs.NumberedLists.{BeginsAt, begins_at, all-before, flat_map-more}
use Rattle.bl_plan.proofs.LeafWays.{member_begins, first_member-begins}
use Rattle.bl_plan.proofs.MemberFound.{IsLaid, leaves_in}

-- some places are what the leaves of the members below a number meet
pub record AreUpTo (xs : List NamedLeaf) (d : Catalogue) (w : Width) (t : ℕ) (places : List (Option ℕ)) : Type 0 where
  pub member : ℕ
  pub within : member ≤ member_count d t
  pub are : places ≡ map (source_place xs) (flat_map (leaves_in d w t) (numbers_below member))

-- at the start there are none
pub up_to_none : (xs : List NamedLeaf) (d : Catalogue) (w : Width) (t : ℕ) (places : List (Option ℕ)) → places ≡ []
    → AreUpTo xs d w t places
up_to_none xs d w t places none = record { member = 0; within = omega arith; are = none }

-- as many leaves as places
length-up_to_now : (xs : List NamedLeaf) (d : Catalogue) (w : Width) (t : ℕ) (places : List (Option ℕ)) → (up : AreUpTo xs d w t places)
    → length places ≡ length (flat_map (leaves_in d w t) (numbers_below up.member))
length-up_to_now xs d w t places up =
    ap length up.are ∙ length-map (flat_map (leaves_in d w t) (numbers_below up.member)) (source_place xs)

-- the leaf whose place is next is the first of its member
pub member-next : (xs : List NamedLeaf) (d : Catalogue) (w : Width) (t : ℕ) (places : List (Option ℕ)) → IsLaid d w t
    → (up : AreUpTo xs d w t places) → length places < length (named_leaves d w t)
    → BeginsAt (leaves_in d w t) up.member (member_count d t) (member_of_leaf d w t (length places))
member-next xs d w t places laid up more =
    let f : ℕ → List NamedLeaf = leaves_in d w t in
    let all : named_leaves d w t ≡ flat_map f (numbers_below (member_count d t)) = named_leaves-members d w t laid.no_fault laid.deep laid.within in
    let at : length places ≡ length (flat_map f (numbers_below up.member)) = length-up_to_now xs d w t places up in
    let long : length (named_leaves d w t) ≡ length (flat_map f (numbers_below (member_count d t))) = ap length all in
    let same : first_member (get_or (named_leaves d w t) (length places) no_leaf).way
    ≡ first_member (get_or (flat_map f (numbers_below (member_count d t))) (length (flat_map f (numbers_below up.member))) no_leaf).way =
    λ i. first_member (get_or (all i) (at i) no_leaf).way in
    subst (BeginsAt f up.member (member_count d t)) (sym same)
    (begins_at f (λ (x : NamedLeaf). first_member x.way) up.member (member_count d t) no_leaf
    (λ k z e below. first_member-begins d t k (get_or (f k) z e) (member_begins (named_leaves d w) d w t k z e below)) up.within (omega (arith, at, long, more)))

-- with what the leaves of one member more meet
pub up_to_more : (xs : List NamedLeaf) (d : Catalogue) (w : Width) (t k : ℕ) (old new : List (Option ℕ)) → (up : AreUpTo xs d w t old)
    → BeginsAt (leaves_in d w t) up.member (member_count d t) k → new ≡ old ++ map (source_place xs) (leaves_in d w t k)
    → AreUpTo xs d w t new
up_to_more xs d w t k old new up begins is = record {
  member = suc k;
  within = omega (arith, begins.below);
  are = is
      ∙ ap (λ os. os ++ map (source_place xs) (leaves_in d w t k)) (up.are ∙ ap (map (source_place xs)) (sym begins.same))
      ∙ sym (ap (map (source_place xs)) (flat_map-more (leaves_in d w t) k)
      ∙ map-append (source_place xs) (flat_map (leaves_in d w t) (numbers_below k)) (leaves_in d w t k));
}

-- there are more places then
pub longer : (xs : List NamedLeaf) (ys : List NamedLeaf) (old new : List (Option ℕ)) → 0 < length ys
    → new ≡ old ++ map (source_place xs) ys → length old < length new
longer xs ys old new some is =
    omega (arith, some, ap length is, length-append old (map (source_place xs) ys), length-map ys (source_place xs))

-- a member that the code puts next has leaves
pub next_some : (xs : List NamedLeaf) (d : Catalogue) (w : Width) (t k : ℕ) (old : List (Option ℕ)) → IsLaid d w t
    → AreUpTo xs d w t old → length old < length (named_leaves d w t) → k ≡ member_of_leaf d w t (length old) → 0 < length (leaves_in d w t k)
next_some xs d w t k old laid up more is =
    subst (λ j. 0 < length (leaves_in d w t j)) (sym is) (member-next xs d w t old laid up more).some

-- and with what they meet the places are those of one member more
pub next_up_to : (xs : List NamedLeaf) (d : Catalogue) (w : Width) (t k : ℕ) (old new : List (Option ℕ)) → IsLaid d w t
    → AreUpTo xs d w t old → length old < length (named_leaves d w t) → k ≡ member_of_leaf d w t (length old)
    → new ≡ old ++ map (source_place xs) (leaves_in d w t k) → AreUpTo xs d w t new
next_up_to xs d w t k old new laid up more is put =
    up_to_more xs d w t k old new up
    (subst (BeginsAt (leaves_in d w t) up.member (member_count d t)) (sym is) (member-next xs d w t old laid up more)) put

-- as many places as leaves are those of all
pub up_to_all : (xs : List NamedLeaf) (d : Catalogue) (w : Width) (t : ℕ) (places : List (Option ℕ)) → IsLaid d w t
    → AreUpTo xs d w t places → length (named_leaves d w t) ≤ length places → places ≡ map (source_place xs) (named_leaves d w t)
up_to_all xs d w t places laid up all =
    let f : ℕ → List NamedLeaf = leaves_in d w t in
    let members : named_leaves d w t ≡ flat_map f (numbers_below (member_count d t)) = named_leaves-members d w t laid.no_fault laid.deep laid.within in
    up.are ∙ ap (map (source_place xs)) (sym (members
    ∙ all-before f up.member (member_count d t) up.within (omega (arith, all, ap length members, length-up_to_now xs d w t places up))))
