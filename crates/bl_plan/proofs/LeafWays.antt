-- How the ways of a struct's leaves begin: each with an element of one of its members. And members of one struct have
-- keys of their own.
use Rattle.std.proofs.Common.{◌≡◌, ◌≢◌, ℕ, zero, suc, ◌+◌, ◌*◌, ◌<◌, Bool, true, false, cond, All, List, [], ◌∷◌, length, get_or, Option, Some, None, refl, sym, ap, ◌∙◌, arith, inl, inr}
use Rattle.std.specs.Prelude.{◌==◌, ◌&&◌, map, flat_map}
use Rattle.std.specs.List.{list_any}
use Rattle.std.specs.Str.{bytes_eq}
use Rattle.std.proofs.lemmas.Bool.{cases_lt}
use Rattle.std.proofs.lemmas.List.{length-map}
use Rattle.std.proofs.lemmas.List.Elements.{All-nil, All-cons, All-map}
use Rattle.std.proofs.lemmas.List.Folds.{list_any_at}
use Rattle.std.proofs.lemmas.Slice.Eq.{bytes_eq-Decides}
use Rattle.bl_num.specs.declared.number.Width.{Width}
use Rattle.bl_format.specs.declared.catalogue.Catalogue.{Catalogue}
use Rattle.bl_format.specs.Limits.{deepest_nesting}
use Rattle.bl_format.specs.Words.{numbers_below}
use Rattle.bl_format.specs.Layout.{MemberStep, NamedLeaf, struct_name, name_of, member_count, member_size, member_offset, element_size, inner_struct, leaf_behind, member_step, own_leaf, inner_leaves, leaves_by, member_leaves, leaves_within, named_leaves, first_member, first_fault}
use Rattle.bl_format.proofs.MemberPasses.{member_passes}
use Rattle.bl_format.proofs.LeafKinds.{each_number}
use Rattle.bl_format.proofs.NumbersBelow.{length-numbers_below, get_or-by}
use Rattle.bl_selection.specs.Fate.{ways_meet}
use Rattle.bl_selection.proofs.OwnFormWays.{same_key-same_identifier}

-- ---- the first step

-- the way of a leaf begins with an element of member k of struct s
pub record Begins (c : Catalogue) (s k : ℕ) (x : NamedLeaf) : Type 0 where
  pub element : ℕ
  pub steps : List MemberStep
  pub way_is : x.way ≡ member_step c s k element ∷ steps

elements_begin : (inside : List NamedLeaf) (c : Catalogue) (w : Width) (s k n : ℕ)
    → All (Begins c s k) (flat_map (inner_leaves inside c w s k) (numbers_below n))
elements_begin inside c w s k n =
    each_number (Begins c s k) (inner_leaves inside c w s k) n
    (λ e lt. All-map (Begins c s k) (leaf_behind (member_step c s k e) (member_offset c w s k + e * element_size c w s k)) inside
    (λ i d below. record { element = e; steps = (get_or inside i d).way; way_is = refl }))

-- the ways of a member's leaves begin with it
pub member_begins : (inside : ℕ → List NamedLeaf) (c : Catalogue) (w : Width) (s k : ℕ)
    → All (Begins c s k) (member_leaves inside c w s k)
unfolding member_leaves
member_begins inside c w s k = unless_empty (member_size c w s k == 0)
  where
    by_inner : (o : Option ℕ) → All (Begins c s k) (leaves_by inside c w s k o)
    by_inner (Some t) = elements_begin (inside t) c w s k (name_of c s k).count
    by_inner None =
        All-cons (Begins c s k) (own_leaf c w s k) [] (record { element = 0; steps = []; way_is = refl }) (All-nil (Begins c s k))

    unless_empty : (b : Bool) → All (Begins c s k) (cond b [] (leaves_by inside c w s k (inner_struct c s k)))
    unless_empty true = All-nil (Begins c s k)
    unless_empty false = by_inner (inner_struct c s k)

-- the way of a leaf begins with one of the struct's members
pub record IsLeafOf (c : Catalogue) (s : ℕ) (x : NamedLeaf) : Type 0 where
  pub member : ℕ
  pub below : member < member_count c s
  pub begins : Begins c s member x

struct_begins : (n : ℕ) (c : Catalogue) (w : Width) (s : ℕ) → All (IsLeafOf c s) (leaves_within n c w s)
unfolding leaves_within
struct_begins zero c w s = All-nil (IsLeafOf c s)
struct_begins (suc n) c w s =
    each_number (IsLeafOf c s) (member_leaves (leaves_within n c w) c w s) (member_count c s)
    (λ k lt i d below. record { member = k; below = lt; begins = member_begins (leaves_within n c w) c w s k i d below })

-- and so does the way of each leaf that a struct has
pub named_begin : (c : Catalogue) (w : Width) (s : ℕ) → All (IsLeafOf c s) (named_leaves c w s)
unfolding named_leaves
named_begin c w s = struct_begins (deepest_nesting + 1) c w s

-- the outermost member of a leaf is the one with which its way begins
pub first_member-begins : (c : Catalogue) (s k : ℕ) (x : NamedLeaf) → Begins c s k x → first_member x.way ≡ k
first_member-begins c s k x begins = ap (λ way. first_member way) begins.way_is

-- ---- keys

-- members of one struct have identifiers of their own
identifiers_differ : (c : Catalogue) (w : Width) (s j k : ℕ) → first_fault c w ≡ None → j < k → k < member_count c s
    → (name_of c s k).identifier ≢ (name_of c s j).identifier
identifiers_differ c w s j k no_fault lt within same =
    let identifier : ℕ → List ℕ = λ i. (name_of c s i).identifier in
    let before : List (List ℕ) = map identifier (numbers_below k) in
    let few : j < length before = omega (arith, lt, length-map (numbers_below k) identifier, length-numbers_below k) in
    let here : bytes_eq (identifier k) (get_or before j []) ≡ true =
    (bytes_eq-Decides (identifier k) (get_or before j [])).1 (same ∙ sym (get_or-by identifier k j [] lt)) in
    let stood : list_any (bytes_eq (identifier k)) before ≡ true = list_any_at (bytes_eq (identifier k)) before j [] few here in
    let new : list_any (bytes_eq (identifier k)) before ≡ false = (member_passes c w s k no_fault within).identifier in
    cc

-- members of one struct have keys of their own
pub keys_differ : (c : Catalogue) (w : Width) (s j k : ℕ) → first_fault c w ≡ None
    → j < member_count c s → k < member_count c s → j ≢ k → (name_of c s j).key ≢ (name_of c s k).key
keys_differ c w s j k no_fault below within other same =
    let one : (name_of c s j).identifier ≡ (name_of c s k).identifier = same_key-same_identifier c s j k same in
    elim (cases_lt j k) [
      | inl less ↦ identifiers_differ c w s j k no_fault less within (sym one)
      | inr more ↦ (let greater : k < j = omega (arith, more, other) in identifiers_differ c w s k j no_fault greater below one)
    ]

-- ---- ways that meet

second_holds : (a b c d : Bool) → ((a && b && c) && d) ≡ true → b ≡ true
second_holds true true c d h = refl
second_holds true false c d h = absurd (cc)
second_holds false b c d h = absurd (cc)

-- leaves that meet stand behind members of one key
pub meet-keys : (c d : Catalogue) (s j t k : ℕ) (x y : NamedLeaf) → Begins c s j x → Begins d t k y
    → ways_meet x.way y.way ≡ true → bytes_eq (name_of c s j).key (name_of d t k).key ≡ true
meet-keys c d s j t k x y first second meet =
    second_holds (bytes_eq (struct_name c s) (struct_name d t)) (bytes_eq (name_of c s j).key (name_of d t k).key)
    (first.element == second.element) (ways_meet first.steps second.steps)
    ((λ i. ways_meet (sym first.way_is i) (sym second.way_is i)) ∙ meet)

none_after : (b : Bool) → (b && false) ≡ false
none_after true = refl
none_after false = refl

-- a leaf that stands directly in a struct doesn't meet one within a struct by value there, nor the other way round
pub meet-own_inner : (step other : MemberStep) (c : Catalogue) (s k : ℕ) (x : NamedLeaf) → Begins c s k x
    → ways_meet (step ∷ []) (other ∷ x.way) ≡ false
meet-own_inner step other c s k x begins =
    ap (λ way. ways_meet (step ∷ []) (other ∷ way)) begins.way_is ∙ none_after _

pub meet-inner_own : (step other : MemberStep) (c : Catalogue) (s k : ℕ) (x : NamedLeaf) → Begins c s k x
    → ways_meet (step ∷ x.way) (other ∷ []) ≡ false
meet-inner_own step other c s k x begins =
    ap (λ way. ways_meet (step ∷ way) (other ∷ [])) begins.way_is ∙ none_after _

-- leaves within structs of two names don't meet
pub meet-other_names : (step other : MemberStep) (c d : Catalogue) (s j t k : ℕ) (x y : NamedLeaf)
    → Begins c s j x → Begins d t k y → bytes_eq (struct_name c s) (struct_name d t) ≡ false
    → ways_meet (step ∷ x.way) (other ∷ y.way) ≡ false
meet-other_names step other c d s j t k x y first second differ =
    (λ i. ways_meet (step ∷ first.way_is i) (other ∷ second.way_is i))
    ∙ ap (λ b. steps_alike && ((b && bytes_eq (name_of c s j).key (name_of d t k).key && (first.element == second.element)) && ways_meet first.steps second.steps)) differ
    ∙ none_after steps_alike
  where
    steps_alike : Bool
    steps_alike = bytes_eq step.owner other.owner && bytes_eq step.key other.key && (step.element == other.element)

-- behind elements of members of one key, in structs of one name, ways meet where the elements are one and they meet
-- further on
pub meet-behind : (c d : Catalogue) (s j t k e f : ℕ) (xs ys : List MemberStep)
    → struct_name c s ≡ struct_name d t → (name_of c s j).key ≡ (name_of d t k).key
    → ways_meet (member_step c s j e ∷ xs) (member_step d t k f ∷ ys) ≡ ((e == f) && ways_meet xs ys)
meet-behind c d s j t k e f xs ys name key =
    let owners : bytes_eq (struct_name c s) (struct_name d t) ≡ true = (bytes_eq-Decides (struct_name c s) (struct_name d t)).1 name in
    let keys : bytes_eq (name_of c s j).key (name_of d t k).key ≡ true = (bytes_eq-Decides (name_of c s j).key (name_of d t k).key).1 key in
    λ i. (owners i && keys i && (e == f)) && ways_meet xs ys
