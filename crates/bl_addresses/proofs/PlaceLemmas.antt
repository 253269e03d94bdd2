-- Places and keys in the terms of numbers.
use Rattle.std.proofs.Common.{◌≡◌, ◌<◌, ◌≤◌, ◌⊎◌, inl, inr, ℕ, true, false, refl, sym, subst, arith}
use Rattle.std.specs.Ordering.{nat_cmp, ordering_then, is_lt, MatchOrdering}
use Rattle.std.specs.declared.cmp.Ordering.{Ordering}
use Rattle.std.specs.declared.cmp.Ordering.TheVariants.{Less, Equal, Greater}
use Rattle.std.specs.Cmp.{IsTotalOrder}
use Rattle.std.proofs.lemmas.Cmp.{ranked, then_total, on_total, nat_cmp_total}
use Rattle.bl_addresses.specs.declared.marks.Place.{Place}
use Rattle.bl_addresses.specs.Marks.{is_up_to, is_at}
use Rattle.bl_addresses.specs.Order.{key_cmp}

-- keys are compared by a total order
pub key_total : IsTotalOrder key_cmp
key_total =
    then_total (then_total (on_total (λ t. t.0) nat_cmp_total) (on_total (λ t. t.1) nat_cmp_total))
    (on_total (λ t. t.2) nat_cmp_total)

-- where a comparison by three parts isn't less
not_less : (o p q : Ordering) → is_lt (ordering_then (ordering_then o p) q) ≡ false
    → (o ≡ Greater) ⊎ ((o ≡ Equal) × ((p ≡ Greater) ⊎ ((p ≡ Equal) × (is_lt q ≡ false))))
not_less Less p q e = absurd (cc)
not_less Equal Less q e = absurd (cc)
not_less Equal Equal q e = inr (refl, inr (refl, e))
not_less Equal Greater q e = inr (refl, inl refl)
not_less Greater p q e = inl refl

-- what comparisons of numbers say
cmp_greater : (x y : ℕ) → nat_cmp x y ≡ Greater → y < x
cmp_greater x y e = subst (λ o. MatchOrdering o (x < y) (x ≡ y) (y < x)) e (ranked x y (nat_cmp x y) refl)

cmp_equal : (x y : ℕ) → nat_cmp x y ≡ Equal → x ≡ y
cmp_equal x y e = subst (λ o. MatchOrdering o (x < y) (x ≡ y) (y < x)) e (ranked x y (nat_cmp x y) refl)

cmp_not_less : (x y : ℕ) → is_lt (nat_cmp x y) ≡ false → y ≤ x
cmp_not_less x y e = go (nat_cmp x y) (ranked x y (nat_cmp x y) refl) e
  where
    go : (o : Ordering) → MatchOrdering o (x < y) (x ≡ y) (y < x) → is_lt o ≡ false → y ≤ x
    go Less m e = absurd (cc)
    go Equal m e = omega (arith, m)
    go Greater m e = omega (arith, m)

-- the place p of number m comes no later than the place q of number n
abbrev pub IsNoLater : Place → ℕ → Place → ℕ → Type 0
IsNoLater p m q n =
    (p.part < q.part) ⊎ ((p.part ≡ q.part) × ((p.address < q.address) ⊎ ((p.address ≡ q.address) × (m ≤ n))))

-- of two keys the one that isn't less comes no earlier
pub no_later : (p q : Place) (m n : ℕ)
    → is_lt (key_cmp (q.part, q.address, n) (p.part, p.address, m)) ≡ false → IsNoLater p m q n
no_later p q m n e = elim (not_less (nat_cmp q.part p.part) (nat_cmp q.address p.address) (nat_cmp n m) e) [
  | inl part ↦ inl (cmp_greater q.part p.part part)
  | inr rest ↦ (let same : p.part ≡ q.part = sym (cmp_equal q.part p.part rest.0) in elim rest.1 [
    | inl address ↦ inr (same, inl (cmp_greater q.address p.address address))
    | inr more ↦ inr (same, inr (sym (cmp_equal q.address p.address more.0), cmp_not_less n m more.1))
  ])
]

-- a place is up to a bound
abbrev pub IsUpTo : Place → Place → Type 0
IsUpTo bound p = (p.part < bound.part) ⊎ ((p.part ≡ bound.part) × (p.address ≤ bound.address))

-- what the tests of places mean
pub up_to_means : (bound p : Place) → is_up_to bound p ≡ true → IsUpTo bound p
up_to_means bound p e = grind (arith)

pub up_to_from : (bound p : Place) → IsUpTo bound p → is_up_to bound p ≡ true
up_to_from bound p up = grind (arith)

pub at_means : (bound p : Place) → is_at bound p ≡ true → (p.part ≡ bound.part) × (p.address ≡ bound.address)
at_means bound p e = grind (arith)

pub at_from : (bound p : Place) → p.part ≡ bound.part → p.address ≡ bound.address → is_at bound p ≡ true
at_from bound p part address = grind (arith)
