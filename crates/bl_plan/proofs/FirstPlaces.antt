-- The place of the first element of a list that passes: what stands there, and where it is in lists one behind another.
use Rattle.std.proofs.Common.{◌≡◌, ◌≢◌, ℕ, zero, suc, ◌+◌, ◌<◌, Bool, true, false, cond, All, List, [], ◌∷◌, ◌++◌, length, get_or, Option, Some, None, refl, sym, ap, subst, ◌∙◌, arith, inl, inr, append-nil}
use Rattle.std.specs.Prelude.{IfSome, map, flat_map, option_map}
use Rattle.std.specs.List.{find, position_from}
use Rattle.std.specs.Option.{option_or}
use Rattle.std.proofs.lemmas.Bool.{cases_lt}
use Rattle.std.proofs.lemmas.List.Elements.{All-nil, All-cons, All-head, All-tail}
use Rattle.bl_format.specs.Words.{first_place, numbers_below}
use Rattle.bl_format.proofs.LeavesApart.{flat_map-numbers_below}
use Rattle.bl_format.proofs.LeafKinds.{each_number}

-- ---- one element more in front

position_from-suc : {X : Type 0} (p : X → Bool) (i : ℕ) (xs : List X)
    → position_from p (suc i) xs ≡ option_map (λ j. suc j) (position_from p i xs)
position_from-suc p i [] = refl
position_from-suc {X} p i (x ∷ xs) =
    let next : suc i + 1 ≡ suc (i + 1) = omega arith in
    by (p x) (ap (λ (k : ℕ). position_from p k xs) next ∙ position_from-suc p (i + 1) xs)
  where
    by : (b : Bool) → position_from p (suc i + 1) xs ≡ option_map (λ j. suc j) (position_from p (i + 1) xs)
        → cond b (Some (suc i)) (position_from p (suc i + 1) xs) ≡ option_map (λ j. suc j) (cond b (Some i) (position_from p (i + 1) xs))
    by true later = refl
    by false later = later

-- the first element passes, or it is found one place behind where it is among the others
pub first_place-cons : {X : Type 0} (p : X → Bool) (x : X) (xs : List X)
    → first_place p (x ∷ xs) ≡ cond (p x) (Some 0) (option_map (λ j. suc j) (first_place p xs))
first_place-cons p x xs = ap (cond (p x) (Some 0)) (position_from-suc p 0 xs)

-- ---- what is found

-- the element that is found is the one at the place that is found
pub find-first_place : {X : Type 0} (p : X → Bool) (xs : List X) (d : X)
    → find p xs ≡ option_map (λ j. get_or xs j d) (first_place p xs)
find-first_place p [] d = refl
find-first_place {X} p (x ∷ xs) d =
    by (p x) (find-first_place p xs d) ∙ ap (option_map (λ j. get_or (x ∷ xs) j d)) (sym (first_place-cons p x xs))
  where
    moved : (o : Option ℕ)
        → option_map (λ j. get_or xs j d) o ≡ option_map (λ j. get_or (x ∷ xs) j d) (option_map (λ j. suc j) o)
    moved None = refl
    moved (Some j) = refl

    by : (b : Bool) → find p xs ≡ option_map (λ j. get_or xs j d) (first_place p xs)
        → cond b (Some x) (find p xs)
        ≡ option_map (λ j. get_or (x ∷ xs) j d) (cond b (Some 0) (option_map (λ j. suc j) (first_place p xs)))
    by true later = refl
    by false later = later ∙ moved (first_place p xs)

-- the element at a place of a list passes
pub record PassesAt {X : Type 0} (p : X → Bool) (xs : List X) (j : ℕ) : Type 0 where
  pub within : j < length xs
  pub passes : (d : X) → p (get_or xs j d) ≡ true

-- at the place that is found stands an element that passes
pub first_place-passes : {X : Type 0} (p : X → Bool) (xs : List X) (j : ℕ)
    → first_place p xs ≡ Some j → PassesAt p xs j
first_place-passes p [] j e = absurd (cc)
first_place-passes {X} p (x ∷ xs) j e =
    by (p x) refl (first_place p xs) (first_place-passes p xs) (sym (first_place-cons p x xs) ∙ e)
  where
    by : (b : Bool) → p x ≡ b → (o : Option ℕ) → ((i : ℕ) → o ≡ Some i → PassesAt p xs i)
        → cond b (Some 0) (option_map (λ i. suc i) o) ≡ Some j → PassesAt p (x ∷ xs) j
    by true is o later e =
        let here : 0 ≡ j = cc in
        subst (PassesAt p (x ∷ xs)) here (record { within = omega arith; passes = λ d. is })
    by false is None later e = absurd (cc)
    by false is (Some i) later e =
        let there : suc i ≡ j = cc in
        let h = later i refl in
        subst (PassesAt p (x ∷ xs)) there (record { within = omega (arith, h.within); passes = λ d. h.passes d })

-- what is found is the place of an element
pub first_place-within : {X : Type 0} (p : X → Bool) (xs : List X) → IfSome (first_place p xs) (λ j. j < length xs)
first_place-within {X} p xs = by (first_place p xs) refl
  where
    by : (o : Option ℕ) → first_place p xs ≡ o → IfSome o (λ j. j < length xs)
    by None e = tt
    by (Some j) e = (first_place-passes p xs j e).within

-- ---- where nothing is found

both_none : (b : Bool) (o : Option ℕ) → cond b (Some 0) (option_map (λ j. suc j) o) ≡ None → (b ≡ false) × (o ≡ None)
both_none true o e = absurd (cc)
both_none false None e = (refl, refl)
both_none false (Some j) e = absurd (cc)

-- where nothing is found, no element passes
pub none-passes : {X : Type 0} (p : X → Bool) (xs : List X) → first_place p xs ≡ None → All (λ x. p x ≡ false) xs
none-passes p [] e = All-nil (λ x. p x ≡ false)
none-passes p (x ∷ xs) e =
    let both = both_none (p x) (first_place p xs) (sym (first_place-cons p x xs) ∙ e) in
    All-cons (λ y. p y ≡ false) x xs both.0 (none-passes p xs both.1)

-- where no element passes, nothing is found
pub first_place-none : {X : Type 0} (p : X → Bool) (xs : List X) → All (λ x. p x ≡ false) xs → first_place p xs ≡ None
first_place-none p [] h = refl
first_place-none {X} p (x ∷ xs) h =
    first_place-cons p x xs
    ∙ ap (λ b. cond b (Some 0) (option_map (λ j. suc j) (first_place p xs))) (All-head (λ (y : X). p y ≡ false) x xs h)
    ∙ ap (option_map (λ j. suc j)) (first_place-none p xs (All-tail (λ (y : X). p y ≡ false) x xs h))

-- a test that is harder to pass fails where an easier one does
pub fails_too : (a b : Bool) → (a ≡ true → b ≡ true) → b ≡ false → a ≡ false
fails_too true b easier fails = absurd (let passes : b ≡ true = easier refl in cc)
fails_too false b easier fails = refl

-- ---- lists one behind another

or_none : {X : Type 0} (o : Option X) → option_or o None ≡ o
or_none None = refl
or_none (Some x) = refl

first_place-append : {X : Type 0} (p : X → Bool) (xs ys : List X)
    → first_place p (xs ++ ys) ≡ option_or (first_place p xs) (option_map (λ j. length xs + j) (first_place p ys))
first_place-append p [] ys = by (first_place p ys)
  where
    by : (o : Option ℕ) → o ≡ option_map (λ j. 0 + j) o
    by None = refl
    by (Some j) = let same : j ≡ 0 + j = omega arith in ap Some same
first_place-append {X} p (x ∷ xs) ys =
    first_place-cons p x (xs ++ ys)
    ∙ ap (λ o. cond (p x) (Some 0) (option_map (λ j. suc j) o)) (first_place-append p xs ys)
    ∙ by (p x) (first_place p xs) (first_place p ys)
    ∙ ap (λ o. option_or o (option_map (λ j. length (x ∷ xs) + j) (first_place p ys))) (sym (first_place-cons p x xs))
  where
    further : (o : Option ℕ) → option_map (λ j. suc j) (option_map (λ j. length xs + j) o) ≡ option_map (λ j. length (x ∷ xs) + j) o
    further None = refl
    further (Some j) = let same : suc (length xs + j) ≡ length (x ∷ xs) + j = omega arith in ap Some same

    by : (b : Bool) (o r : Option ℕ)
        → cond b (Some 0) (option_map (λ j. suc j) (option_or o (option_map (λ j. length xs + j) r)))
        ≡ option_or (cond b (Some 0) (option_map (λ j. suc j) o)) (option_map (λ j. length (x ∷ xs) + j) r)
    by true o r = refl
    by false None r = further r
    by false (Some j) r = refl

-- before elements none of which passes
first_place-before : {X : Type 0} (p : X → Bool) (xs ys : List X) → All (λ x. p x ≡ false) ys
    → first_place p (xs ++ ys) ≡ first_place p xs
first_place-before p xs ys h =
    first_place-append p xs ys
    ∙ ap (λ o. option_or (first_place p xs) (option_map (λ j. length xs + j) o)) (first_place-none p ys h)
    ∙ or_none (first_place p xs)

-- behind elements none of which passes
first_place-behind : {X : Type 0} (p : X → Bool) (xs ys : List X) → All (λ x. p x ≡ false) xs
    → first_place p (xs ++ ys) ≡ option_map (λ j. length xs + j) (first_place p ys)
first_place-behind p xs ys h =
    first_place-append p xs ys
    ∙ ap (λ o. option_or o (option_map (λ j. length xs + j) (first_place p ys))) (first_place-none p xs h)

-- of all lists that the numbers below n give, number k alone gives elements that pass
abbrev pub PassesOnlyIn : {X : Type 0} → (X → Bool) → (ℕ → List X) → ℕ → ℕ → Type 0
PassesOnlyIn p f n k = (i : ℕ) → i < n → i ≢ k → All (λ x. p x ≡ false) (f i)

-- so the first that passes in all of them is the first in list k
pub first_place-among : {X : Type 0} (p : X → Bool) (f : ℕ → List X) (n k : ℕ) → k < n → PassesOnlyIn p f n k
    → first_place p (flat_map f (numbers_below n)) ≡ option_map (λ j. length (flat_map f (numbers_below k)) + j) (first_place p (f k))
first_place-among p f zero k lt only = absurd (omega arith)
first_place-among {X} p f (suc n) k lt only =
    let before : List X = flat_map f (numbers_below n) in
    let all : flat_map f (numbers_below (suc n)) ≡ before ++ f n =
    flat_map-numbers_below f n ∙ ap (λ zs. before ++ zs) (append-nil (f n)) in
    ap (first_place p) all
    ∙ elim (cases_lt k n) [
      | inl less ↦ first_place-before p before (f n) (only n (omega arith) (λ same. omega (arith, same, less)))
          ∙ first_place-among p f n k less (λ i below other. only i (omega arith) other)
      | inr most ↦ (let last : n ≡ k = omega arith in
          first_place-behind p before (f n) (each_number (λ x. p x ≡ false) f n (λ i below. only i (omega arith) (λ same. omega (arith, same, below, last))))
          ∙ ap (λ m. option_map (λ j. length (flat_map f (numbers_below m)) + j) (first_place p (f m))) last)
    ]

-- and where none gives any, nothing is found
pub first_place-nowhere : {X : Type 0} (p : X → Bool) (f : ℕ → List X) (n : ℕ)
    → ((i : ℕ) → i < n → All (λ x. p x ≡ false) (f i)) → first_place p (flat_map f (numbers_below n)) ≡ None
first_place-nowhere p f n none =
    first_place-none p (flat_map f (numbers_below n)) (each_number (λ x. p x ≡ false) f n none)

-- ---- elements that come of others

-- of elements that come of others the first that passes is found where the other one is
pub first_place-map : {X Y : Type 0} (p : X → Bool) (q : Y → Bool) (h : Y → X) (ys : List Y)
    → ((y : Y) → p (h y) ≡ q y) → first_place p (map h ys) ≡ first_place q ys
first_place-map p q h [] same = refl
first_place-map {X} {Y} p q h (y ∷ ys) same =
    first_place-cons p (h y) (map h ys)
    ∙ ap (λ b. cond b (Some 0) (option_map (λ j. suc j) (first_place p (map h ys)))) (same y)
    ∙ ap (λ o. cond (q y) (Some 0) (option_map (λ j. suc j) o)) (first_place-map p q h ys same)
    ∙ sym (first_place-cons q y ys)
