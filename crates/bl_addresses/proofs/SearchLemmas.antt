-- What stands at the end of the rows up to a place.
use Rattle.std.proofs.Common.{◌≡◌, ◌<◌, ◌≤◌, inl, inr, ℕ, ◌-◌, ◌∙◌, sym, subst, true, false, List, length, get_or, take, Some, None, arith}
use Rattle.std.specs.List.Sorted.{IsPartitionPoint}
use Rattle.std.proofs.lemmas.Bool.{cases_lt, and_parts, false_from_ne_true}
use Rattle.std.proofs.lemmas.List.{get_or_default, length-take-le, get_or-take}
use Rattle.bl_format.specs.Nodes.{Mark}
use Rattle.bl_format.specs.Words.{last_place}
use Rattle.bl_addresses.specs.declared.marks.Place.{Place}
use Rattle.bl_addresses.specs.declared.marks.Row.{Row}
use Rattle.bl_addresses.specs.declared.marks.Scope.{Scope}
use Rattle.bl_addresses.specs.Marks.{mark_at, place_in, place_of, row_of, is_member, is_up_to, is_at, is_found}
use Rattle.bl_addresses.specs.Order.{IsRow, IsOrder}
use Rattle.bl_addresses.proofs.PlaceLemmas.{IsNoLater, IsUpTo, up_to_means, up_to_from, at_means, at_from}
use Rattle.bl_addresses.proofs.OrderLemmas.{in_order}
use Rattle.bl_addresses.proofs.LastPlace.{last_place-none, last_place-some}

-- the rows up to a place end there
abbrev pub EndsAt : List Row → Place → ℕ → Type 0
EndsAt rows place end =
    IsPartitionPoint (λ r. is_up_to place (place_of r) ≡ true) (λ r. is_up_to place (place_of r) ≡ false) rows end

-- the row of a node
abbrev row_at : Scope → List Mark → ℕ → Row
row_at scope marks n = row_of scope (mark_at marks n) n

-- where no row stands before the end
pub no_end : (rows : List Row) (end : ℕ) → end ≤ length rows → length (take end rows) ≤ 0 → end ≡ 0
no_end rows end bound none = omega (arith, length-take-le end rows bound, none)

-- which row stands last before the end
pub end_at : (rows : List Row) (end : ℕ) (last : Row) → end ≤ length rows → 0 < length (take end rows)
    → last ≡ get_or (take end rows) (length (take end rows) - 1) last
    → (0 < end) × (get_or rows (end - 1) last ≡ last)
end_at rows end last bound some is =
    let len = length-take-le end rows bound in
    let more : 0 < end = omega (arith, len, some) in
    let same : get_or (take end rows) (length (take end rows) - 1) last ≡ get_or rows (end - 1) last =
    rw len (get_or-take end rows (end - 1) last (omega (arith, more))) in
    (more, sym same ∙ sym is)

-- a row stands before the end
record IsBefore (rows : List Row) (end : ℕ) (r : Row) : Type 0 where
  at : ℕ
  before : at < end
  inside : at < length rows
  is : get_or rows at r ≡ r

-- the row of a node that is found stands before the end
found_before : (scope : Scope) (marks : List Mark) (rows : List Row) (place : Place) (end : ℕ)
    → IsOrder scope marks rows → EndsAt rows place end
    → (n : ℕ) → n < length marks → is_found scope place (mark_at marks n) ≡ true
    → IsBefore rows end (row_at scope marks n)
found_before scope marks rows place end o ends n lt found =
    let own : Row = row_at scope marks n in
    let parts = and_parts (is_member scope (mark_at marks n)) (is_at place (place_of own)) found in
    let has = o.members.whole n (lt, parts.0) in
    let j : ℕ = has.0 in
    let inside : j < length rows = has.1 in
    let is : get_or rows j own ≡ own = has.2 in
    let at = at_means place (place_of own) parts.1 in
    let address = at.1 in
    let up : is_up_to place (place_of own) ≡ true =
    up_to_from place (place_of own) (inr (at.0, omega (arith, address))) in
    elim (cases_lt j end) [
      | inl before ↦ record { at = j; before = before; inside = inside; is = is }
      | inr le ↦ (let down : is_up_to place (place_of own) ≡ false =
          subst (λ r. is_up_to place (place_of r) ≡ false) is (ends.1 j own le inside) in absurd (cc))
    ]

-- where none stands before the end, none is found
pub none_found : (scope : Scope) (marks : List Mark) (rows : List Row) (place : Place) (end : ℕ)
    → IsOrder scope marks rows → EndsAt rows place end → end ≡ 0
    → last_place (is_found scope place) marks ≡ None
none_found scope marks rows place end o ends none = last_place-none (is_found scope place) marks (λ n d lt.
    false_from_ne_true (is_found scope place (get_or marks n d)) (λ found.
    let here : is_found scope place (mark_at marks n) ≡ true =
    subst (λ m. is_found scope place m ≡ true) (get_or_default marks n d _ lt) found in
    let before = found_before scope marks rows place end o ends n lt here in
    let less = before.before in omega (arith, less, none)))

-- a found node is no later than that of the last row before the end
found_no_later : (scope : Scope) (marks : List Mark) (rows : List Row) (place : Place) (end : ℕ) (last : Row)
    → IsOrder scope marks rows → EndsAt rows place end
    → 0 < end → end ≤ length rows → get_or rows (end - 1) last ≡ last
    → (n : ℕ) → n < length marks → is_found scope place (mark_at marks n) ≡ true
    → IsNoLater (place_of (row_at scope marks n)) n (place_of last) last.node
found_no_later scope marks rows place end last o ends some bound is n lt found =
    let own : Row = row_at scope marks n in
    let before = found_before scope marks rows place end o ends n lt found in
    let less = before.before in
    let le : before.at ≤ end - 1 = omega (arith, less, some) in
    let far : end - 1 < length rows = omega (arith, some, bound) in
    let same : get_or rows (end - 1) own ≡ last = get_or_default rows (end - 1) own last far ∙ is in
    let far_row : Row = get_or rows (end - 1) own in
    let first = subst (λ (r : Row). IsNoLater (place_of r) r.node (place_of far_row) far_row.node)
    before.is (in_order rows o.sorted before.at (end - 1) own le far) in
    subst (λ (r : Row). IsNoLater (place_of own) n (place_of r) r.node) same first

-- of two places that are one the numbers decide
number_le : (p q bound : Place) (m n : ℕ) → IsNoLater p m q n
    → p.part ≡ bound.part → p.address ≡ bound.address → q.part ≡ bound.part → q.address ≡ bound.address → m ≤ n
number_le p q bound m n no_later a b c d = elim no_later [
  | inl less ↦ absurd (omega (arith, less, a, c))
  | inr rest ↦ elim rest.1 [
    | inl less ↦ absurd (omega (arith, less, b, d))
    | inr more ↦ more.1
  ]
]

-- the last one before the end is found where it stands at the place
pub last_found : (scope : Scope) (marks : List Mark) (rows : List Row) (place : Place) (end : ℕ) (last : Row)
    → IsOrder scope marks rows → EndsAt rows place end
    → 0 < end → end ≤ length rows → get_or rows (end - 1) last ≡ last
    → is_at place (place_of last) ≡ true
    → last_place (is_found scope place) marks ≡ Some last.node
last_found scope marks rows place end last o ends some bound is at =
    last_place-some (is_found scope place) marks last.node row.0.0 here after
  where
    row : IsRow scope marks last
    row = subst (λ r. IsRow scope marks r) is (o.members.inside (end - 1) last (omega (arith, some, bound)))

    here : (d : Mark) → is_found scope place (get_or marks last.node d) ≡ true
    here d =
        let there : is_at place (place_in scope (mark_at marks last.node)) ≡ true =
        subst (λ p. is_at place p ≡ true) row.1 at in
        let own : is_found scope place (mark_at marks last.node) ≡ true = rw row.0.1 there in
        subst (λ m. is_found scope place m ≡ true) (get_or_default marks last.node _ d row.0.0) own

    after : (j : ℕ) (d : Mark) → last.node < j → j < length marks → is_found scope place (get_or marks j d) ≡ false
    after j d more lt = false_from_ne_true (is_found scope place (get_or marks j d)) (λ found.
        let found_at : is_found scope place (mark_at marks j) ≡ true =
        subst (λ m. is_found scope place m ≡ true) (get_or_default marks j d _ lt) found in
        let own : Row = row_at scope marks j in
        let no_later = found_no_later scope marks rows place end last o ends some bound is j lt found_at in
        let parts = and_parts (is_member scope (mark_at marks j)) (is_at place (place_of own)) found_at in
        let first = at_means place (place_of own) parts.1 in
        let second = at_means place (place_of last) at in
        let le = number_le (place_of own) (place_of last) place j last.node no_later
        first.0 first.1 second.0 second.1 in
        omega (arith, more, le))

-- a place between a place and itself is that place
squeezed : (p q bound : Place) (m n : ℕ) → IsNoLater p m q n
    → p.part ≡ bound.part → p.address ≡ bound.address → IsUpTo bound q
    → (q.part ≡ bound.part) × (q.address ≡ bound.address)
squeezed p q bound m n no_later a b up = elim up [
  | inl less ↦ elim no_later [
    | inl part ↦ absurd (omega (arith, less, part, a))
    | inr rest ↦ (let part = rest.0 in absurd (omega (arith, less, part, a)))
  ]
  | inr same ↦ (let part = same.0 in let le = same.1 in elim no_later [
    | inl less ↦ absurd (omega (arith, less, part, a))
    | inr rest ↦ elim rest.1 [
      | inl less ↦ absurd (omega (arith, less, le, b))
      | inr equal ↦ (part, sym equal.0 ∙ b)
    ]
  ])
]

-- and none is found where it doesn't
pub last_not_found : (scope : Scope) (marks : List Mark) (rows : List Row) (place : Place) (end : ℕ) (last : Row)
    → IsOrder scope marks rows → EndsAt rows place end
    → 0 < end → end ≤ length rows → get_or rows (end - 1) last ≡ last
    → is_at place (place_of last) ≡ false
    → last_place (is_found scope place) marks ≡ None
last_not_found scope marks rows place end last o ends some bound is apart =
    last_place-none (is_found scope place) marks (λ n d lt.
    false_from_ne_true (is_found scope place (get_or marks n d)) (λ found.
    let here : is_found scope place (mark_at marks n) ≡ true =
    subst (λ m. is_found scope place m ≡ true) (get_or_default marks n d _ lt) found in
    let p : Place = place_of (row_at scope marks n) in
    let q : Place = place_of last in
    let no_later = found_no_later scope marks rows place end last o ends some bound is n lt here in
    let parts = and_parts (is_member scope (mark_at marks n)) (is_at place p) here in
    let first = at_means place p parts.1 in
    let up : is_up_to place q ≡ true =
    subst (λ r. is_up_to place (place_of r) ≡ true) is
    (ends.0 (end - 1) last (omega arith) (omega (arith, some))) in
    let same = squeezed p q place n last.node no_later first.0 first.1 (up_to_means place q up) in
    let at : is_at place q ≡ true = at_from place q same.0 same.1 in
    let clash : true ≡ false = sym at ∙ apart in
    absurd (cc)))
