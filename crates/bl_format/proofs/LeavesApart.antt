-- The leaves of a struct stand in it one behind another, in order: each begins at or behind the end of the one
-- before, and the last ends within the struct. So do all elements of all leaves. It needs no more than a layout in
-- which no member has a fault.
use Rattle.std.proofs.Common.{◌≡◌, ℕ, zero, suc, ◌+◌, ◌*◌, ◌≤◌, Bool, true, false, cond, All, List, [], ◌∷◌, ◌++◌, Option, Some, None, refl, arith, ltb-false}
use Rattle.std.specs.Prelude.{map, flat_map, ◌==◌}
use Rattle.std.proofs.lemmas.Grind.{flat_map-append}
use Rattle.std.proofs.lemmas.List.{map-append}
use Rattle.std.proofs.lemmas.List.Elements.{All-nil, All-cons}
use Rattle.std.proofs.lemmas.List.Sums.{sum_by_push}
use Rattle.bl_num.specs.declared.number.Width.{Width}
use Rattle.bl_format.specs.declared.catalogue.Catalogue.{Catalogue}
use Rattle.bl_format.specs.Limits.{deepest_nesting}
use Rattle.bl_format.specs.Words.{numbers_below}
use Rattle.bl_format.specs.Layout.{MemberStep, NamedLeaf, name_of, member_count, struct_length, element_size, member_size, member_offset, inner_struct, leaf_behind, member_step, inner_leaves, leaves_by, member_leaves, leaves_within, named_leaves, first_fault}
use Rattle.bl_format.proofs.MemberPasses.{member_passes, element_size-inner}

-- the place behind all elements of a leaf
abbrev pub end_of_leaf : NamedLeaf → ℕ
end_of_leaf x = x.offset + x.size * x.count

-- from a place to another, some leaves stand one behind another: each begins at or behind the end of the one before
abbrev pub AreApart : ℕ → List NamedLeaf → ℕ → Type 0
AreApart from [] to = from ≤ to
AreApart from (x ∷ xs) to = (from ≤ x.offset) × AreApart (end_of_leaf x) xs to

-- ---- steps

apart_from_before : (before from to : ℕ) (xs : List NamedLeaf) → before ≤ from → AreApart from xs to → AreApart before xs to
apart_from_before before from to [] le h = omega arith
apart_from_before before from to (x ∷ xs) le h = (omega arith, h.1)

apart_to_behind : (from to behind : ℕ) (xs : List NamedLeaf) → to ≤ behind → AreApart from xs to → AreApart from xs behind
apart_to_behind from to behind [] le h = omega arith
apart_to_behind from to behind (x ∷ xs) le h = (h.0, apart_to_behind (end_of_leaf x) to behind xs le h.1)

AreApart-append : (from between to : ℕ) (xs ys : List NamedLeaf)
    → AreApart from xs between → AreApart between ys to → AreApart from (xs ++ ys) to
AreApart-append from between to [] ys h k = apart_from_before from between to ys h k
AreApart-append from between to (x ∷ xs) ys h k = (h.0, AreApart-append (end_of_leaf x) between to xs ys h.1 k)

-- leaves that stand so many bytes further on
AreApart-leaf_behind : (step : MemberStep) (by from to : ℕ) (xs : List NamedLeaf)
    → AreApart from xs to → AreApart (by + from) (map (leaf_behind step by) xs) (by + to)
AreApart-leaf_behind step by from to [] h = omega arith
AreApart-leaf_behind step by from to (x ∷ xs) h =
    (omega (arith, h.0), apart_from_before (by + x.offset + x.size * x.count) (by + end_of_leaf x) (by + to) (map (leaf_behind step by) xs) (omega arith) (AreApart-leaf_behind step by (end_of_leaf x) to xs h.1))

-- what the numbers up to n give is what those below n give, and then what n gives
pub flat_map-numbers_below : {X : Type 0} (f : ℕ → List X) (n : ℕ)
    → flat_map f (numbers_below (suc n)) ≡ flat_map f (numbers_below n) ++ (f n ++ [])
flat_map-numbers_below f n = flat_map-append f (numbers_below n) (n ∷ [])

-- ---- a member, and all members

elements_apart : (inside : List NamedLeaf) (c : Catalogue) (w : Width) (s k n : ℕ)
    → AreApart 0 inside (element_size c w s k)
    → AreApart (member_offset c w s k) (flat_map (inner_leaves inside c w s k) (numbers_below n)) (member_offset c w s k + element_size c w s k * n)
elements_apart inside c w s k zero h = omega arith
elements_apart inside c w s k (suc n) h =
    let at : ℕ = member_offset c w s k in
    let size : ℕ = element_size c w s k in
    let one = AreApart-leaf_behind (member_step c s k n) (at + n * size) 0 size inside h in
    rw (flat_map-numbers_below (inner_leaves inside c w s k) n)
    (AreApart-append at (at + size * n) (at + size * suc n) _ _ (elements_apart inside c w s k n h)
    (AreApart-append (at + size * n) (at + size * suc n) (at + size * suc n) _ [] (apart_from_before (at + size * n) (at + n * size + 0) (at + size * suc n) _ (omega arith) (apart_to_behind (at + n * size + 0) (at + n * size + size) (at + size * suc n) _ (omega arith) one)) (omega arith)))

member_apart : (inside : ℕ → List NamedLeaf) (c : Catalogue) (w : Width) (s k : ℕ)
    → ((t : ℕ) → inner_struct c s k ≡ Some t → AreApart 0 (inside t) (element_size c w s k))
    → AreApart (member_offset c w s k) (member_leaves inside c w s k) (member_offset c w s k + member_size c w s k)
unfolding member_leaves member_size
member_apart inside c w s k h = unless_empty (member_size c w s k == 0) (by_inner (inner_struct c s k) refl)
  where
    by_inner : (o : Option ℕ) → inner_struct c s k ≡ o → AreApart (member_offset c w s k) (leaves_by inside c w s k o) (member_offset c w s k + element_size c w s k * (name_of c s k).count)
    by_inner (Some t) e = elements_apart (inside t) c w s k (name_of c s k).count (h t e)
    by_inner None e = (omega arith, omega arith)

    unless_empty : (b : Bool) → AreApart (member_offset c w s k) (leaves_by inside c w s k (inner_struct c s k)) (member_offset c w s k + element_size c w s k * (name_of c s k).count)
        → AreApart (member_offset c w s k) (cond b [] (leaves_by inside c w s k (inner_struct c s k))) (member_offset c w s k + element_size c w s k * (name_of c s k).count)
    unless_empty true h = omega arith
    unless_empty false h = h

member_offset-suc : (c : Catalogue) (w : Width) (s k : ℕ) → member_offset c w s (suc k) ≡ member_offset c w s k + member_size c w s k
unfolding member_offset
member_offset-suc c w s k = rw (map-append (member_size c w s) (numbers_below k) (k ∷ [])) (sum_by_push (λ (n : ℕ). n) (map (member_size c w s) (numbers_below k)) (member_size c w s k))

members_apart : (inside : ℕ → List NamedLeaf) (c : Catalogue) (w : Width) (s n : ℕ)
    → ((k t : ℕ) → inner_struct c s k ≡ Some t → AreApart 0 (inside t) (element_size c w s k))
    → AreApart 0 (flat_map (member_leaves inside c w s) (numbers_below n)) (member_offset c w s n)
members_apart inside c w s zero h = omega arith
members_apart inside c w s (suc n) h =
    let at : ℕ = member_offset c w s n in
    let to : ℕ = member_offset c w s (suc n) in
    rw (flat_map-numbers_below (member_leaves inside c w s) n)
    (AreApart-append 0 at to _ _ (members_apart inside c w s n h)
    (AreApart-append at to to _ [] (apart_to_behind at (at + member_size c w s n) to _ (omega (arith, member_offset-suc c w s n)) (member_apart inside c w s n (h n))) (omega arith)))

-- ---- the laws

-- the members of a struct end within its length
pub members_within : (c : Catalogue) (w : Width) (s n : ℕ) → n ≡ member_count c s
    → first_fault c w ≡ None → member_offset c w s n ≤ struct_length c s
unfolding member_offset
members_within c w s zero is e = omega arith
members_within c w s (suc n) is e =
    ltb-false (struct_length c s) (member_offset c w s (suc n)) (member_passes c w s n e (omega arith)).within

-- the leaves of a struct, opened up as far as n, stand apart within its length
pub leaves_within-apart : (n : ℕ) (c : Catalogue) (w : Width) (s : ℕ)
    → first_fault c w ≡ None → AreApart 0 (leaves_within n c w s) (struct_length c s)
unfolding leaves_within
leaves_within-apart zero c w s e = omega arith
leaves_within-apart (suc n) c w s e =
    apart_to_behind 0 (member_offset c w s (member_count c s)) (struct_length c s) _ (members_within c w s (member_count c s) refl e)
    (members_apart (leaves_within n c w) c w s (member_count c s)
    (λ k t is. rw (element_size-inner c w s k t is) (leaves_within-apart n c w t e)))

-- the leaves of a struct stand apart within its length
pub named_leaves-apart : (c : Catalogue) (w : Width) (s : ℕ)
    → first_fault c w ≡ None → AreApart 0 (named_leaves c w s) (struct_length c s)
unfolding named_leaves
named_leaves-apart c w s e = leaves_within-apart (deepest_nesting + 1) c w s e

-- ---- what it gives of each leaf, and of each element

-- each leaf ends within the struct
ends_within : (from to : ℕ) (xs : List NamedLeaf) → AreApart from xs to → All (λ x. end_of_leaf x ≤ to) xs × (from ≤ to)
ends_within from to [] h = (All-nil (λ (x : NamedLeaf). end_of_leaf x ≤ to), h)
ends_within from to (x ∷ xs) h =
    let later = ends_within (end_of_leaf x) to xs h.1 in
    (All-cons (λ (x : NamedLeaf). end_of_leaf x ≤ to) x xs later.1 later.0, omega (arith, h.0, later.1))

-- each leaf of a struct, with all its elements, ends within the struct's length
pub named_leaves-within : (c : Catalogue) (w : Width) (s : ℕ)
    → first_fault c w ≡ None → All (λ x. x.offset + x.size * x.count ≤ struct_length c s) (named_leaves c w s)
named_leaves-within c w s e = (ends_within 0 (struct_length c s) (named_leaves c w s) (named_leaves-apart c w s e)).0

-- from a place to another, some pieces, each a place with a size, stand one behind another
abbrev pub PiecesApart : ℕ → List (ℕ × ℕ) → ℕ → Type 0
PiecesApart from [] to = from ≤ to
PiecesApart from (p ∷ ps) to = (from ≤ p.0) × PiecesApart (p.0 + p.1) ps to

-- where the elements of a leaf stand, with their size
abbrev pub pieces_of_leaf : NamedLeaf → List (ℕ × ℕ)
pieces_of_leaf x = map (λ k. (x.offset + k * x.size, x.size)) (numbers_below x.count)

pieces_from_before : (before from to : ℕ) (ps : List (ℕ × ℕ)) → before ≤ from → PiecesApart from ps to → PiecesApart before ps to
pieces_from_before before from to [] le h = omega arith
pieces_from_before before from to (p ∷ ps) le h = (omega arith, h.1)

PiecesApart-append : (from between to : ℕ) (ps qs : List (ℕ × ℕ))
    → PiecesApart from ps between → PiecesApart between qs to → PiecesApart from (ps ++ qs) to
PiecesApart-append from between to [] qs h k = pieces_from_before from between to qs h k
PiecesApart-append from between to (p ∷ ps) qs h k = (h.0, PiecesApart-append (p.0 + p.1) between to ps qs h.1 k)

pieces_apart : (at size n : ℕ) → PiecesApart at (map (λ k. (at + k * size, size)) (numbers_below n)) (at + size * n)
pieces_apart at size zero = omega arith
pieces_apart at size (suc n) =
    rw (map-append {B = ℕ × ℕ} (λ (k : ℕ). (at + k * size, size)) (numbers_below n) (n ∷ []))
    (PiecesApart-append at (at + size * n) (at + size * suc n) _ _ (pieces_apart at size n) (omega arith, omega arith))

leaf_pieces_apart : (from to : ℕ) (xs : List NamedLeaf) → AreApart from xs to → PiecesApart from (flat_map pieces_of_leaf xs) to
leaf_pieces_apart from to [] h = h
leaf_pieces_apart from to (x ∷ xs) h =
    PiecesApart-append from (end_of_leaf x) to (pieces_of_leaf x) (flat_map pieces_of_leaf xs)
    (pieces_from_before from x.offset (end_of_leaf x) (pieces_of_leaf x) h.0 (pieces_apart x.offset x.size x.count))
    (leaf_pieces_apart (end_of_leaf x) to xs h.1)

-- all elements of all leaves of a struct stand apart within its length
pub leaf_elements-apart : (c : Catalogue) (w : Width) (s : ℕ)
    → first_fault c w ≡ None → PiecesApart 0 (flat_map pieces_of_leaf (named_leaves c w s)) (struct_length c s)
leaf_elements-apart c w s e = leaf_pieces_apart 0 (struct_length c s) (named_leaves c w s) (named_leaves-apart c w s e)
