-- What is reached by links from some roots, among the numbers below n: as many links as there are numbers are
-- enough, so what something reached leads to is reached; and a number is reached exactly where it is at the end of
-- a chain that begins with a root. This is what makes `closure_of` and `needed_ids` the sets that they are named for.
use Rattle.std.proofs.Common.{◌≡◌, ℕ, zero, suc, ◌≤◌, ◌<◌, Bool, true, false, cond, eqb, List, [], ◌∷◌, ◌++◌, length, refl, ap, subst, arith, inl, inr, eq-eqb}
use Rattle.std.specs.Prelude.{filter, ◌||◌, ◌⊎◌}
use Rattle.std.specs.List.{list_any}
use Rattle.std.proofs.lemmas.Bool.{cases_lt, eqb-true, or_cases, or_left, or_right}
use Rattle.std.proofs.lemmas.List.{length-append}
use Rattle.bl_format.specs.Words.{numbers_below, contains, one_link_further, numbers_reached, IsChain}
use Rattle.bl_format.proofs.NumbersBelow.{length-numbers_below}

-- an element of a list that passes is an element of the filtered list
pub contains-filter : (p : ℕ → Bool) (xs : List ℕ) (y : ℕ)
    → contains xs y ≡ true → p y ≡ true → contains (filter p xs) y ≡ true
contains-filter p [] y h e = absurd cc
contains-filter p (x ∷ xs) y h e =
    elim (or_cases (eqb x y) (contains xs y) h) [
      | inl same ↦ (let is : x ≡ y = eqb-true x y same in rw (is, e) (or_left (eqb y y) (contains (filter p xs) y) (rw is at same)))
      | inr later ↦ with_more (p x) (contains-filter p xs y later e)
    ]
  where
    with_more : (b : Bool) → contains (filter p xs) y ≡ true → contains (cond b (x ∷ filter p xs) (filter p xs)) y ≡ true
    with_more true h = or_right (eqb x y) (contains (filter p xs) y) h
    with_more false h = h

-- at most as many pass p as pass q, and if as many pass, they are the same
pub record Grows (xs ys : List ℕ) : Type 0 where
  pub longer : length xs ≤ length ys
  pub same : length ys ≤ length xs → ys ≡ xs

grows_by : (a b : Bool) (x : ℕ) (xs ys : List ℕ)
    → (a ≡ true → b ≡ true) → Grows xs ys → Grows (cond a (x ∷ xs) xs) (cond b (x ∷ ys) ys)
grows_by true true x xs ys h g = record { longer = omega (arith, g.longer); same = λ le. ap (λ (zs : List ℕ). x ∷ zs) (g.same (omega arith)) }
grows_by true false x xs ys h g = absurd (let e : false ≡ true = h refl in cc)
grows_by false true x xs ys h g = record { longer = omega (arith, g.longer); same = λ le. absurd (omega (arith, g.longer)) }
grows_by false false x xs ys h g = g

filter_grows : (p q : ℕ → Bool) (xs : List ℕ)
    → ((y : ℕ) → contains xs y ≡ true → p y ≡ true → q y ≡ true) → Grows (filter p xs) (filter q xs)
filter_grows p q [] h = record { longer = omega arith; same = λ le. refl }
filter_grows p q (x ∷ xs) h =
    grows_by (p x) (q x) x (filter p xs) (filter q xs) (λ e. h x (or_left (eqb x x) (contains xs x) (eq-eqb x x refl)) e) (filter_grows p q xs (λ y m e. h y (or_right (eqb x y) (contains xs y) m) e))

-- ---- the rounds

-- the test of a round
round_test : (ℕ → ℕ → Bool) → ℕ → List ℕ → ℕ → ℕ → Bool
round_test leads n roots zero y = contains roots y
round_test leads n roots (suc k) y = contains (numbers_reached leads n k roots) y || list_any (λ x. leads x y) (numbers_reached leads n k roots)

round_is : (leads : ℕ → ℕ → Bool) (n : ℕ) (roots : List ℕ) (k : ℕ)
    → numbers_reached leads n k roots ≡ filter (round_test leads n roots k) (numbers_below n)
unfolding numbers_reached round_test
round_is leads n roots zero = refl
round_is leads n roots (suc k) = refl

passes_on : (leads : ℕ → ℕ → Bool) (n : ℕ) (roots : List ℕ) (k y : ℕ)
    → contains (numbers_below n) y ≡ true → round_test leads n roots k y ≡ true
    → round_test leads n roots (suc k) y ≡ true
unfolding round_test
passes_on leads n roots k y m e = or_left (contains (numbers_reached leads n k roots) y) (list_any (λ x. leads x y) (numbers_reached leads n k roots)) (rw (round_is leads n roots k) (contains-filter (round_test leads n roots k) (numbers_below n) y m e))

round_grows : (leads : ℕ → ℕ → Bool) (n : ℕ) (roots : List ℕ) (k : ℕ)
    → Grows (numbers_reached leads n k roots) (numbers_reached leads n (suc k) roots)
round_grows leads n roots k = rw (round_is leads n roots k, round_is leads n roots (suc k)) (filter_grows (round_test leads n roots k) (round_test leads n roots (suc k)) (numbers_below n) (passes_on leads n roots k))

length-filter-le : (p : ℕ → Bool) (xs : List ℕ) → length (filter p xs) ≤ length xs
length-filter-le p [] = omega arith
length-filter-le p (x ∷ xs) = elim (p x) as (λ b. length (cond b (x ∷ filter p xs) (filter p xs)) ≤ suc (length xs)) [ true ↦ omega (arith, length-filter-le p xs) | false ↦ omega (arith, length-filter-le p xs) ]

round_fits : (leads : ℕ → ℕ → Bool) (n : ℕ) (roots : List ℕ) (k : ℕ)
    → length (numbers_reached leads n k roots) ≤ n
round_fits leads n roots k = rw (round_is leads n roots k) (omega (arith, length-filter-le (round_test leads n roots k) (numbers_below n), length-numbers_below n))

-- a round that adds nothing is followed by such rounds
same_again : (leads : ℕ → ℕ → Bool) (n : ℕ) (roots : List ℕ) (k : ℕ)
    → numbers_reached leads n (suc k) roots ≡ numbers_reached leads n k roots
    → numbers_reached leads n (suc (suc k)) roots ≡ numbers_reached leads n (suc k) roots
unfolding numbers_reached
same_again leads n roots k e = ap (one_link_further leads n) e

same_or_longer : (leads : ℕ → ℕ → Bool) (n : ℕ) (roots : List ℕ) (k : ℕ)
    → (numbers_reached leads n (suc k) roots ≡ numbers_reached leads n k roots) ⊎ (length (numbers_reached leads n k roots) < length (numbers_reached leads n (suc k) roots))
same_or_longer leads n roots k =
    elim (cases_lt (length (numbers_reached leads n k roots)) (length (numbers_reached leads n (suc k) roots))) [
      | inl lt ↦ inr lt
      | inr le ↦ inl ((round_grows leads n roots k).same le)
    ]

settles_or_grows : (leads : ℕ → ℕ → Bool) (n : ℕ) (roots : List ℕ) (k : ℕ)
    → (numbers_reached leads n (suc k) roots ≡ numbers_reached leads n k roots) ⊎ (k < length (numbers_reached leads n (suc k) roots))
settles_or_grows leads n roots zero =
    elim (same_or_longer leads n roots 0) [ inl e ↦ inl e | inr lt ↦ inr (omega arith) ]
settles_or_grows leads n roots (suc k) =
    elim (settles_or_grows leads n roots k) [
      | inl e ↦ inl (same_again leads n roots k e)
      | inr long ↦ elim (same_or_longer leads n roots (suc k)) [ inl e ↦ inl e | inr lt ↦ inr (omega arith) ]
    ]

-- after as many rounds as there are numbers nothing is added
pub numbers_reached-suc : (leads : ℕ → ℕ → Bool) (n : ℕ) (roots : List ℕ)
    → numbers_reached leads n (suc n) roots ≡ numbers_reached leads n n roots
numbers_reached-suc leads n roots = elim (settles_or_grows leads n roots n) [ inl e ↦ e | inr lt ↦ absurd (omega (arith, round_fits leads n roots (suc n))) ]

-- what something reached leads to is reached
pub numbers_reached-closed : (leads : ℕ → ℕ → Bool) (n : ℕ) (roots : List ℕ) (x y : ℕ)
    → contains (numbers_below n) y ≡ true
    → list_any (λ z. leads z y) (numbers_reached leads n n roots) ≡ true
    → contains (numbers_reached leads n n roots) y ≡ true
unfolding round_test
numbers_reached-closed leads n roots x y m e =
    let next : contains (filter (round_test leads n roots (suc n)) (numbers_below n)) y ≡ true = contains-filter (round_test leads n roots (suc n)) (numbers_below n) y m (or_right (contains (numbers_reached leads n n roots) y) (list_any (λ z. leads z y) (numbers_reached leads n n roots)) e) in
    rw (← numbers_reached-suc leads n roots, round_is leads n roots (suc n)) next

-- ---- chains

-- what stands in a list stands in it without those that don't pass a test, and passes it
filter-contains : (p : ℕ → Bool) (xs : List ℕ) (y : ℕ)
    → contains (filter p xs) y ≡ true → (contains xs y ≡ true) × (p y ≡ true)
filter-contains p [] y h = absurd cc
filter-contains p (x ∷ xs) y h = go (p x) refl h (filter-contains p xs y)
  where
    Passes : List ℕ → Type 0
    Passes zs = (contains zs y ≡ true) × (p y ≡ true)

    later : Passes xs → Passes (x ∷ xs)
    later rest = (or_right (eqb x y) (contains xs y) rest.0, rest.1)

    go : (b : Bool) → p x ≡ b → contains (cond b (x ∷ filter p xs) (filter p xs)) y ≡ true
        → (contains (filter p xs) y ≡ true → Passes xs) → Passes (x ∷ xs)
    go true e h others = elim (or_cases (eqb x y) (contains (filter p xs) y) h) [
      | inl same ↦ (or_left (eqb x y) (contains xs y) same, (let is : x ≡ y = eqb-true x y same in rw (← is) e))
      | inr more ↦ later (others more)
    ]
    go false e h others = later (others h)

-- what some element of a list passes
any-contains : (p : ℕ → Bool) (xs : List ℕ)
    → list_any p xs ≡ true → (x : ℕ) × (contains xs x ≡ true) × (p x ≡ true)
any-contains p [] h = absurd cc
any-contains p (x ∷ xs) h = elim (or_cases (p x) (list_any p xs) h) [
  | inl here ↦ (x, or_left (eqb x x) (contains xs x) (eq-eqb x x refl), here)
  | inr later ↦ (let rest = any-contains p xs later in (rest.0, or_right (eqb x rest.0) (contains xs rest.0) rest.1, rest.2))
]

-- any passes of a list that has one that passes
pub contains-any : (p : ℕ → Bool) (xs : List ℕ) (x : ℕ) → contains xs x ≡ true → p x ≡ true → list_any p xs ≡ true
contains-any p [] x h e = absurd cc
contains-any p (z ∷ zs) x h e = elim (or_cases (eqb z x) (contains zs x) h) [
  | inl same ↦ (let is : z ≡ x = eqb-true z x same in or_left (p z) (list_any p zs) (rw is e))
  | inr later ↦ or_right (p z) (list_any p zs) (contains-any p zs x later e)
]

-- a chain with one link more at its end
chain-push : (leads : ℕ → ℕ → Bool) (x : ℕ) (ys : List ℕ) (end y : ℕ)
    → IsChain leads x ys end → leads end y ≡ true → IsChain leads x (ys ++ y ∷ []) y
chain-push leads x [] end y chain e = (rw chain e, refl)
chain-push leads x (z ∷ zs) end y chain e = (chain.0, chain-push leads z zs end y chain.1 e)

-- a chain from one of some roots to a number, of at most so many links
pub record IsReachedBy (leads : ℕ → ℕ → Bool) (roots : List ℕ) (links y : ℕ) : Type 0 where
  pub root : ℕ
  pub others : List ℕ
  pub is_root : contains roots root ≡ true
  pub short : length others ≤ links
  pub chain : IsChain leads root others y

-- what is reached is at the end of a chain from a root
pub numbers_reached-chain : (leads : ℕ → ℕ → Bool) (n : ℕ) (roots : List ℕ) (links y : ℕ)
    → contains (numbers_reached leads n links roots) y ≡ true → IsReachedBy leads roots links y
unfolding numbers_reached
numbers_reached-chain leads n roots zero y h =
    record { root = y; others = []; is_root = (filter-contains (contains roots) (numbers_below n) y h).1; short = omega arith; chain = refl }
numbers_reached-chain leads n roots (suc k) y h =
    let passes = (filter-contains (λ z. contains (numbers_reached leads n k roots) z || list_any (λ x. leads x z) (numbers_reached leads n k roots)) (numbers_below n) y h).1 in
    elim (or_cases (contains (numbers_reached leads n k roots) y) (list_any (λ x. leads x y) (numbers_reached leads n k roots)) passes) [
      | inl before ↦ (let r = numbers_reached-chain leads n roots k y before in
          record { root = r.root; others = r.others; is_root = r.is_root; short = omega (arith, r.short); chain = r.chain })
      | inr link ↦ (let from = any-contains (λ x. leads x y) (numbers_reached leads n k roots) link in
          let r = numbers_reached-chain leads n roots k from.0 from.1 in
          record { root = r.root; others = r.others ++ y ∷ []; is_root = r.is_root; short = omega (arith, r.short, length-append r.others (y ∷ [])); chain = chain-push leads r.root r.others from.0 y r.chain from.2 })
    ]

root_passes : (leads : ℕ → ℕ → Bool) (n : ℕ) (roots : List ℕ) (y : ℕ)
    → contains roots y ≡ true → round_test leads n roots zero y ≡ true
unfolding round_test
root_passes leads n roots y e = e

later_passes : (leads : ℕ → ℕ → Bool) (n : ℕ) (roots : List ℕ) (k y : ℕ)
    → contains (numbers_reached leads n k roots) y ≡ true → round_test leads n roots (suc k) y ≡ true
unfolding round_test
later_passes leads n roots k y e =
    or_left (contains (numbers_reached leads n k roots) y) (list_any (λ x. leads x y) (numbers_reached leads n k roots)) e

-- a root below n is reached in any number of links
root_reached : (leads : ℕ → ℕ → Bool) (n : ℕ) (roots : List ℕ) (k y : ℕ)
    → contains (numbers_below n) y ≡ true → contains roots y ≡ true
    → contains (numbers_reached leads n k roots) y ≡ true
root_reached leads n roots zero y m e =
    rw (round_is leads n roots zero) (contains-filter (round_test leads n roots zero) (numbers_below n) y m (root_passes leads n roots y e))
root_reached leads n roots (suc k) y m e =
    let passes = later_passes leads n roots k y (root_reached leads n roots k y m e) in
    rw (round_is leads n roots (suc k)) (contains-filter (round_test leads n roots (suc k)) (numbers_below n) y m passes)

-- some numbers are all below n
abbrev pub AllBelow : ℕ → List ℕ → Type 0
AllBelow n [] = Unit {0}
AllBelow n (y ∷ ys) = (contains (numbers_below n) y ≡ true) × AllBelow n ys

-- the end of a chain that begins with something reached is reached
chain_reached : (leads : ℕ → ℕ → Bool) (n : ℕ) (roots : List ℕ) (x : ℕ) (ys : List ℕ) (end : ℕ)
    → contains (numbers_reached leads n n roots) x ≡ true → AllBelow n ys → IsChain leads x ys end
    → contains (numbers_reached leads n n roots) end ≡ true
chain_reached leads n roots x [] end h below chain = subst (λ (z : ℕ). contains (numbers_reached leads n n roots) z ≡ true) chain h
chain_reached leads n roots x (y ∷ ys) end h below chain =
    let link = contains-any (λ z. leads z y) (numbers_reached leads n n roots) x h chain.0 in
    chain_reached leads n roots y ys end (numbers_reached-closed leads n roots x y below.0 link) below.1 chain.1

-- the end of a chain from a root, of numbers below n, is reached
pub chain-numbers_reached : (leads : ℕ → ℕ → Bool) (n : ℕ) (roots : List ℕ) (root : ℕ) (others : List ℕ) (end : ℕ)
    → contains (numbers_below n) root ≡ true → contains roots root ≡ true → AllBelow n others
    → IsChain leads root others end → contains (numbers_reached leads n n roots) end ≡ true
chain-numbers_reached leads n roots root others end below is_root all chain =
    chain_reached leads n roots root others end (root_reached leads n roots n root below is_root) all chain
