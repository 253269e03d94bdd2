-- What stands in some bytes after others were put in place of a part of them, and where the elements of leaves stand.
use Rattle.std.proofs.Common.{◌≡◌, ◌≢◌, ℕ, zero, suc, ◌+◌, ◌*◌, ◌≤◌, ◌<◌, List, ◌++◌, length, take, drop, refl, sym, ap, ◌∙◌, arith, append_assoc, inl, inr, mul-le-mul_right}
use Rattle.std.proofs.lemmas.List.{drop-take, length-append, length-take-le, take-append-le, take-take}
use Rattle.std.proofs.lemmas.Slice.{drop-append-drop}
use Rattle.bl_format.specs.declared.layout.Leaf.{Leaf}
use Rattle.bl_format.specs.Words.{part}
use Rattle.bl_members.specs.Leaf.{element_place, replaced_at, FitsIn, StandsBefore, AreDisjoint}

-- ---- places

-- each element of a leaf ends where all of them do, or before
pub element_inside : (x : Leaf) (k n : ℕ) → FitsIn x n → k < x.count → element_place x k + x.size ≤ n
element_inside x k n fits below =
    let more : suc k * x.size ≤ x.count * x.size = mul-le-mul_right x.size below in
    omega arith

-- pieces of one size that stand one behind another have nothing in common
pieces_disjoint : (at size j k : ℕ) → j ≢ k → AreDisjoint (at + j * size) size (at + k * size) size
pieces_disjoint at size zero zero differ = absurd (differ refl)
pieces_disjoint at size zero (suc k) differ = inl (omega arith)
pieces_disjoint at size (suc j) zero differ = inr (omega arith)
pieces_disjoint at size (suc j) (suc k) differ =
    elim (pieces_disjoint (at + size) size j k (λ same. differ (ap suc same)))
    [ inl h ↦ inl (omega (arith, h)) | inr h ↦ inr (omega (arith, h)) ]

-- two elements of a leaf have no bytes in common
pub elements-disjoint : (x : Leaf) (j k : ℕ) → j ≢ k → AreDisjoint (element_place x j) x.size (element_place x k) x.size
elements-disjoint x j k differ = pieces_disjoint x.offset x.size j k differ

-- nor have elements of two leaves of which one stands before the other
pub leaves-disjoint : (x y : Leaf) (j k : ℕ) → StandsBefore x y → j < x.count
    → AreDisjoint (element_place x j) x.size (element_place y k) y.size
leaves-disjoint x y j k before below = inl (omega (arith, element_inside x j y.offset before below))

-- ---- bytes

-- what ends before a place is in the bytes up to there
part-take : {X : Type 0} (xs : List X) (from n at : ℕ) → from + n ≤ at → part (take at xs) from n ≡ part xs from n
part-take xs from n at le =
    sym (drop-take from n (take at xs)) ∙ ap (drop from) (take-take (from + n) at xs le) ∙ drop-take from n xs

part_before : (at : ℕ) (new xs : List ℕ) (from n : ℕ) → at + length new ≤ length xs → from + n ≤ at
    → part (replaced_at at new xs) from n ≡ part xs from n
part_before at new xs from n room le =
    let len : length (take at xs) ≡ at = length-take-le at xs (omega arith) in
    let rest : List ℕ = new ++ drop (at + length new) xs in
    sym (drop-take from n (replaced_at at new xs))
    ∙ ap (drop from) (take-append-le (from + n) (take at xs) rest (omega (arith, len, le)) ∙ take-take (from + n) at xs le)
    ∙ drop-take from n xs

part_behind : (at : ℕ) (new xs : List ℕ) (from n : ℕ) → at + length new ≤ length xs → at + length new ≤ from
    → part (replaced_at at new xs) from n ≡ part xs from n
part_behind at new xs from n room le =
    let taken : length (take at xs) ≡ at = length-take-le at xs (omega arith) in
    let len : length (take at xs ++ new) ≡ at + length new =
    length-append (take at xs) new ∙ ap (λ (m : ℕ). m + length new) taken in
    ap (λ (ys : List ℕ). take n (drop from ys)) (sym (append_assoc (take at xs) new (drop (at + length new) xs)))
    ∙ ap (take n) (drop-append-drop (at + length new) xs (take at xs ++ new) from le len)

-- what has nothing in common with the part that was replaced is as before
pub part-replaced_at : (at : ℕ) (new xs : List ℕ) (from n : ℕ)
    → at + length new ≤ length xs → AreDisjoint from n at (length new)
    → part (replaced_at at new xs) from n ≡ part xs from n
part-replaced_at at new xs from n room apart =
    elim apart [ inl h ↦ part_before at new xs from n room h | inr h ↦ part_behind at new xs from n room h ]
