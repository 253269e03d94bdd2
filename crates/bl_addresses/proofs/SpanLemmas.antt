-- Where sorted rows are split by a search of a part of them.
use Rattle.std.proofs.Common.{◌≡◌, ◌<◌, ◌≤◌, inl, inr, ℕ, ◌+◌, ◌-◌, ◌∙◌, ap, refl, sym, subst, Bool, true, false, List, length, get_or, arith}
use Rattle.std.specs.List.{AllWithin, between}
use Rattle.std.specs.List.Sorted.{IsPartitionPoint, IsPartitionedBy}
use Rattle.std.proofs.lemmas.Bool.{cases_lt}
use Rattle.std.proofs.lemmas.List.{get_or_default}
use Rattle.std.proofs.lemmas.List.Edits.{length-between, get_or-between}
use Rattle.bl_addresses.specs.declared.marks.Place.{Place}
use Rattle.bl_addresses.specs.declared.marks.Row.{Row}
use Rattle.bl_addresses.specs.Marks.{is_up_to, place_of}
use Rattle.bl_addresses.specs.Order.{AreSorted, EndsWithin}
use Rattle.bl_addresses.proofs.OrderLemmas.{order_splits}

-- a piece of a list that is split by a test is split by it
pub partitioned-between : {X : Type 0} (p : X → Bool) (xs : List X) (i j : ℕ) → j ≤ length xs
    → IsPartitionedBy p xs → IsPartitionedBy p (between i j xs)
partitioned-between p xs i j inside parted a b d le lt up =
    let long = length-between xs i j inside in
    let first = get_or-between xs i j a d (omega (arith, long, le, lt)) in
    let second = get_or-between xs i j b d (omega (arith, long, lt)) in
    subst (λ x. p x ≡ true) (sym first)
    (parted (i + a) (i + b) d (omega (arith, le)) (omega (arith, long, lt, inside))
    (subst (λ x. p x ≡ true) second up))

-- where a piece of a list is split the list is, if all before the piece has the one and all behind it the other
pub split-between : {X : Type 0} (P Q : X → Type 0) (xs : List X) (i j e : ℕ) → i ≤ j → j ≤ length xs
    → e ≤ length (between i j xs) → AllWithin P xs 0 i → AllWithin Q xs j (length xs)
    → IsPartitionPoint P Q (between i j xs) e → IsPartitionPoint P Q xs (i + e)
split-between {X} P Q xs i j e rises inside bound before behind split = (passes, fails)
  where
    long : length (between i j xs) ≡ j - i
    long = length-between xs i j inside

    moved : (k : ℕ) (d : X) → i ≤ k → k < j → get_or (between i j xs) (k - i) d ≡ get_or xs k d
    moved k d le lt =
        let at : i + (k - i) ≡ k = omega (arith, le) in
        get_or-between xs i j (k - i) d (omega (arith, le, lt)) ∙ ap (λ n. get_or xs n d) at

    passes : AllWithin P xs 0 (i + e)
    passes k d none lt = elim (cases_lt k i) [
      | inl less ↦ before k d none less
      | inr le ↦ subst P (moved k d le (omega (arith, le, lt, bound, long)))
          (split.0 (k - i) d (omega arith) (omega (arith, le, lt)))
    ]

    fails : AllWithin Q xs (i + e) (length xs)
    fails k d le lt = elim (cases_lt k j) [
      | inl less ↦ subst Q (moved k d (omega (arith, le)) less)
          (split.1 (k - i) d (omega (arith, le)) (omega (arith, le, less, long)))
      | inr past ↦ behind k d past lt
    ]

-- a piece of sorted rows is split by a place
pub piece_splits : (rows : List Row) (place : Place) (from to : ℕ) → AreSorted rows → EndsWithin rows from to place
    → IsPartitionedBy (λ r. is_up_to place (place_of r)) (between from to rows)
piece_splits rows place from to sorted ends =
    partitioned-between (λ r. is_up_to place (place_of r)) rows from to ends.inside (order_splits rows place sorted)

-- where the piece in which the rows up to a place end is split by the place all rows are
pub piece_ends : (rows : List Row) (place : Place) (from to end : ℕ)
    → EndsWithin rows from to place → end ≤ length (between from to rows)
    → IsPartitionPoint (λ r. is_up_to place (place_of r) ≡ true) (λ r. is_up_to place (place_of r) ≡ false)
    (between from to rows) end
    → IsPartitionPoint (λ r. is_up_to place (place_of r) ≡ true) (λ r. is_up_to place (place_of r) ≡ false)
    rows (from + end)
piece_ends rows place from to end ends bound split =
    split-between (λ r. is_up_to place (place_of r) ≡ true) (λ r. is_up_to place (place_of r) ≡ false)
    rows from to end ends.rises ends.inside bound ends.before ends.behind split

-- and it ends among them
pub piece_bound : (rows : List Row) (from to end : ℕ) → from ≤ to → to ≤ length rows
    → end ≤ length (between from to rows) → from + end ≤ length rows
piece_bound rows from to end rises inside bound =
    omega (arith, length-between rows from to inside, rises, inside, bound)

-- where the row before one is up to a place all before it are
pub up_to_before : (rows : List Row) (from : ℕ) (place : Place) (e : Row) → AreSorted rows → from ≤ length rows
    → is_up_to place (place_of (get_or rows (from - 1) e)) ≡ true
    → AllWithin (λ r. is_up_to place (place_of r) ≡ true) rows 0 from
up_to_before rows from place e sorted inside up k d none lt =
    let last : from - 1 < length rows = omega (arith, inside, lt) in
    order_splits rows place sorted k (from - 1) d (omega (arith, lt)) last
    (subst (λ (r : Row). is_up_to place (place_of r) ≡ true) (get_or_default rows (from - 1) e d last) up)

-- where a row isn't up to a place none from it on is
pub beyond_behind : (rows : List Row) (to : ℕ) (place : Place) (e : Row) → AreSorted rows
    → is_up_to place (place_of (get_or rows to e)) ≡ false
    → AllWithin (λ r. is_up_to place (place_of r) ≡ false) rows to (length rows)
beyond_behind rows to place e sorted beyond k d le lt = go (is_up_to place (place_of (get_or rows k d))) refl
  where
    go : (b : Bool) → is_up_to place (place_of (get_or rows k d)) ≡ b
        → is_up_to place (place_of (get_or rows k d)) ≡ false
    go false far = far
    go true up =
        let first : is_up_to place (place_of (get_or rows to d)) ≡ true = order_splits rows place sorted to k d le lt up in
        let same = get_or_default rows to d e (omega (arith, le, lt)) in
        absurd (cc (subst (λ (r : Row). is_up_to place (place_of r) ≡ true) same first, beyond))
