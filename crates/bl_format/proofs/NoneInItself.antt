-- Where no member has a fault, structs stand in one another at most as deep as there are structs: each struct that
-- stands in another by value has fewer structs below it, since the other isn't among them. So what is opened up as
-- often as there are structs is opened up whole.
use Rattle.std.proofs.Common.{◌≡◌, ℕ, zero, suc, ◌+◌, ◌≤◌, ◌<◌, Bool, true, false, cond, eqb, List, [], ◌∷◌, ◌++◌, length, Option, Some, None, refl, sym, subst, ◌-◌, arith, inl, inr, eqb-true, eq-eqb}
use Rattle.std.specs.Prelude.{◌||◌, max, map, fold, filter_map}
use Rattle.std.specs.List.{cons_option}
use Rattle.std.proofs.lemmas.Bool.{cases_lt, or_cases, or_right}
use Rattle.std.proofs.lemmas.List.Folds.{list_any-append}
use Rattle.std.proofs.lemmas.List.Elements.{filter_map-append}
use Rattle.bl_num.specs.declared.number.Width.{Width}
use Rattle.bl_format.specs.declared.catalogue.Catalogue.{Catalogue}
use Rattle.bl_format.specs.Words.{numbers_below, contains, numbers_reached, IsChain}
use Rattle.bl_format.specs.Layout.{member_count, inner_struct, inner_structs, holds_struct, leads_back, first_fault, nesting_within, nesting}
use Rattle.bl_format.proofs.Closure.{AllBelow, numbers_reached-chain, chain-numbers_reached}
use Rattle.bl_format.proofs.MemberPasses.{member_passes, inner_struct-some}

-- ---- how many numbers pass

-- how many numbers below n pass
pub count_below : (ℕ → Bool) → ℕ → ℕ
count_below p zero = 0
count_below p (suc n) = count_below p n + cond (p n) 1 0

count_below-le : (p : ℕ → Bool) (n : ℕ) → count_below p n ≤ n
unfolding count_below
count_below-le p zero = omega arith
count_below-le p (suc n) = elim (p n) as (λ b. count_below p n + cond b 1 0 ≤ suc n) [ true ↦ omega (arith, count_below-le p n) | false ↦ omega (arith, count_below-le p n) ]

one_more : (a b : Bool) (m n : ℕ) → (a ≡ true → b ≡ true) → m ≤ n → m + cond a 1 0 ≤ n + cond b 1 0
one_more true true m n h le = omega arith
one_more true false m n h le = absurd (let e : false ≡ true = h refl in cc)
one_more false true m n h le = omega arith
one_more false false m n h le = omega arith

more_pass : (p q : ℕ → Bool) (n : ℕ) → ((y : ℕ) → y < n → p y ≡ true → q y ≡ true) → count_below p n ≤ count_below q n
unfolding count_below
more_pass p q zero h = omega arith
more_pass p q (suc n) h = one_more (p n) (q n) (count_below p n) (count_below q n) (h n (omega arith)) (more_pass p q n (λ y lt. h y (omega arith)))

-- one number at least passes the second test alone
one_more_passes : (p q : ℕ → Bool) (n s : ℕ) → ((y : ℕ) → y < n → p y ≡ true → q y ≡ true)
    → s < n → p s ≡ false → q s ≡ true → count_below p n < count_below q n
unfolding count_below
one_more_passes p q zero s h lt out is = absurd (omega arith)
one_more_passes p q (suc n) s h lt out is =
    elim (cases_lt s n) [
      | inl below ↦ omega (arith, one_more (p n) (q n) (suc (count_below p n)) (count_below q n) (h n (omega arith)) (one_more_passes p q n s (λ y lt. h y (omega arith)) below out is))
      | inr le ↦ (
          let last : s ≡ n = omega arith in
          let out' : p n ≡ false = rw last at out in
          let is' : q n ≡ true = rw last at is in
          rw (out', is') (omega (arith, more_pass p q n (λ y lt. h y (omega arith)))))
    ]

-- ---- lists of numbers

contains_itself : (x : ℕ) (xs : List ℕ) → contains (x ∷ xs) x ≡ true
contains_itself x xs = rw (eq-eqb x x refl) refl

contains-append : (xs ys : List ℕ) (y : ℕ) → contains (xs ++ ys) y ≡ (contains xs y || contains ys y)
contains-append xs ys y = list_any-append (λ z. eqb z y) xs ys

-- a number below n is among those
pub contains-below : (n y : ℕ) → y < n → contains (numbers_below n) y ≡ true
contains-below zero y lt = absurd (omega arith)
contains-below (suc n) y lt =
    rw (contains-append (numbers_below n) (n ∷ []) y) (elim (cases_lt y n) [
      | inl below ↦ rw (contains-below n y below) refl
      | inr le ↦ (let last : y ≡ n = omega arith in rw last (or_right (contains (numbers_below n) n) _ (contains_itself n [])))
    ])

-- where a number comes from that a function gives for one of the numbers below n
record IsGiven (f : ℕ → Option ℕ) (n t : ℕ) : Type 0 where
  number : ℕ
  below : number < n
  gives : f number ≡ Some t

given_last : (f : ℕ → Option ℕ) (n t : ℕ) → contains (filter_map f (n ∷ [])) t ≡ true → IsGiven f (suc n) t
given_last f n t h = go (f n) refl h
  where
    go : (o : Option ℕ) → f n ≡ o → contains (cons_option o []) t ≡ true → IsGiven f (suc n) t
    go None e h = absurd (cc)
    go (Some u) e h = elim (or_cases (eqb u t) false h) [
      | inl same ↦ record { number = n; below = omega arith; gives = (let is : u ≡ t = eqb-true u t same in rw (← is) e) }
      | inr more ↦ absurd (cc)
    ]

given : (f : ℕ → Option ℕ) (n t : ℕ) → contains (filter_map f (numbers_below n)) t ≡ true → IsGiven f n t
given f zero t h = absurd (cc)
given f (suc n) t h =
    let both : (contains (filter_map f (numbers_below n)) t || contains (filter_map f (n ∷ [])) t) ≡ true = rw (filter_map-append f (numbers_below n) (n ∷ []), contains-append (filter_map f (numbers_below n)) (filter_map f (n ∷ [])) t) at h in
    elim (or_cases (contains (filter_map f (numbers_below n)) t) (contains (filter_map f (n ∷ [])) t) both) [
      | inl before ↦ (let g = given f n t before in record { number = g.number; below = omega (arith, g.below); gives = g.gives })
      | inr last ↦ given_last f n t last
    ]

-- what a function gives for a number below n is among what it gives for all of them
pub contains-given : (f : ℕ → Option ℕ) (n k t : ℕ) → k < n → f k ≡ Some t → contains (filter_map f (numbers_below n)) t ≡ true
contains-given f zero k t lt e = absurd (omega arith)
contains-given f (suc n) k t lt e =
    rw (filter_map-append f (numbers_below n) (n ∷ []), contains-append (filter_map f (numbers_below n)) (filter_map f (n ∷ [])) t)
    (elim (cases_lt k n) [
      | inl below ↦ rw (contains-given f n k t below e) refl
      | inr le ↦ (
          let last : k ≡ n = omega arith in
          let e' : f n ≡ Some t = rw last at e in
          or_right (contains (filter_map f (numbers_below n)) t) _ (rw e' (contains_itself t [])))
    ])

-- ---- structs below a struct

-- struct y is struct s, or stands in it by value, at any depth
abbrev pub below_member : Catalogue → ℕ → ℕ → Bool
below_member c s y = contains (numbers_reached (holds_struct c) (length c.structs) (length c.structs) (s ∷ [])) y

-- how many structs a struct is and holds, by value, at any depth
abbrev pub structs_below : Catalogue → ℕ → ℕ
structs_below c s = count_below (below_member c s) (length c.structs)

-- a struct that stands in another by value is one of the catalogue's
inside_exists : (c : Catalogue) (s t : ℕ) → holds_struct c s t ≡ true → t < length c.structs
inside_exists c s t h = let g = given (inner_struct c s) (member_count c s) t h in (inner_struct-some c s g.number t g.gives).is_struct.within

chain_below : (c : Catalogue) (x : ℕ) (ys : List ℕ) (end : ℕ) → IsChain (holds_struct c) x ys end → AllBelow (length c.structs) ys
chain_below c x [] end chain = tt
chain_below c x (y ∷ ys) end chain = (contains-below (length c.structs) y (inside_exists c x y chain.0), chain_below c y ys end chain.1)

reaches_itself : (c : Catalogue) (s : ℕ) → s < length c.structs → below_member c s s ≡ true
reaches_itself c s lt =
    chain-numbers_reached (holds_struct c) (length c.structs) (s ∷ []) s [] s (contains-below (length c.structs) s lt) (contains_itself s []) tt refl

reaches_further : (c : Catalogue) (s t y : ℕ) → s < length c.structs → holds_struct c s t ≡ true → below_member c t y ≡ true → below_member c s y ≡ true
reaches_further c s t y lt inside h =
    let r = numbers_reached-chain (holds_struct c) (length c.structs) (t ∷ []) (length c.structs) y h in
    elim (or_cases (eqb t r.root) false r.is_root) [
      | inl same ↦ (
          let is : t ≡ r.root = eqb-true t r.root same in
          let chain : IsChain (holds_struct c) t r.others y = subst (λ (z : ℕ). IsChain (holds_struct c) z r.others y) (sym is) r.chain in
          chain-numbers_reached (holds_struct c) (length c.structs) (s ∷ []) s (t ∷ r.others) y (contains-below (length c.structs) s lt) (contains_itself s [])
          (contains-below (length c.structs) t (inside_exists c s t inside), chain_below c t r.others y chain) (inside, chain))
      | inr more ↦ absurd (cc)
    ]

-- a struct by value has fewer structs below it than the one in which it stands
pub fewer_below : (c : Catalogue) (w : Width) (s k t : ℕ) → first_fault c w ≡ None → s < length c.structs
    → k < member_count c s → inner_struct c s k ≡ Some t → structs_below c t < structs_below c s
fewer_below c w s k t e lt within is =
    let inside : holds_struct c s t ≡ true = contains-given (inner_struct c s) (member_count c s) k t within is in
    let out : leads_back c s (Some t) ≡ false = rw is at (member_passes c w s k e within).not_cyclic in
    one_more_passes (below_member c t) (below_member c s) (length c.structs) s (λ y below h. reaches_further c s t y lt inside h) lt out (reaches_itself c s lt)

-- a struct has itself below it, and no more than there are
pub one_below : (c : Catalogue) (s : ℕ) → s < length c.structs → 0 < structs_below c s
one_below c s lt = omega (arith, one_more_passes (λ y. false) (below_member c s) (length c.structs) s (λ y below e. absurd (cc)) lt refl (reaches_itself c s lt))

-- no struct has more structs below it than there are
pub structs_below-le : (c : Catalogue) (s : ℕ) → structs_below c s ≤ length c.structs
structs_below-le c s = count_below-le (below_member c s) (length c.structs)

fold_max-bound : (f : ℕ → ℕ) (b a : ℕ) (xs : List ℕ) → a ≤ b → ((x : ℕ) → contains xs x ≡ true → f x ≤ b) → fold max a (map f xs) ≤ b
fold_max-bound f b a [] le h = le
fold_max-bound f b a (x ∷ xs) le h = fold_max-bound f b (max a (f x)) xs (omega (arith, h x (contains_itself x xs))) (λ y m. h y (or_right (eqb x y) (contains xs y) m))

-- structs stand in a struct no deeper than it has structs below it
nesting_within-le : (c : Catalogue) (w : Width) (m s : ℕ) → first_fault c w ≡ None → s < length c.structs → nesting_within m c s ≤ structs_below c s
unfolding nesting_within
nesting_within-le c w zero s e lt = omega arith
nesting_within-le c w (suc m) s e lt =
    let inner : (t : ℕ) → contains (inner_structs c s) t ≡ true → suc (nesting_within m c t) ≤ structs_below c s = λ t h. (
    let g = given (inner_struct c s) (member_count c s) t h in
    omega (arith, nesting_within-le c w m t e (inside_exists c s t h), fewer_below c w s g.number t e lt g.below g.gives)) in
    let one : 0 < structs_below c s = one_below c s lt in
    let less : (t : ℕ) → contains (inner_structs c s) t ≡ true → nesting_within m c t ≤ structs_below c s - 1 = λ t h. omega (arith, inner t h) in
    omega (arith, one, fold_max-bound (nesting_within m c) (structs_below c s - 1) 0 (inner_structs c s) (omega arith) less)

-- structs stand in a struct at most as deep as there are structs
pub nesting-le : (c : Catalogue) (w : Width) (s : ℕ) → first_fault c w ≡ None → s < length c.structs → nesting c s ≤ length c.structs
unfolding nesting
nesting-le c w s e lt = omega (arith, nesting_within-le c w (length c.structs) s e lt, structs_below-le c s)
