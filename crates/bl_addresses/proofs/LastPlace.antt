-- When an element is the last one that passes.
use Rattle.std.proofs.Common.{◌≡◌, ◌<◌, ℕ, zero, suc, ◌+◌, Bool, true, false, List, [], ◌∷◌, length, get_or, Some, None, refl, ap, ◌∙◌, arith}
use Rattle.bl_format.specs.Words.{last_from, last_place}

-- no element passes, where the first stands at place i
pub last_from-none : {X : Type 0} (p : X → Bool) (i : ℕ) (xs : List X)
    → ((k : ℕ) (d : X) → k < length xs → p (get_or xs k d) ≡ false) → last_from p i xs ≡ None
last_from-none p i [] h = refl
last_from-none p i (x ∷ xs) h =
    let rest : last_from p (suc i) xs ≡ None = last_from-none p (suc i) xs (λ k d lt. h (suc k) d (omega arith)) in
    rw (rest, h 0 x (omega arith)) refl

-- no element passes
pub last_place-none : {X : Type 0} (p : X → Bool) (xs : List X)
    → ((k : ℕ) (d : X) → k < length xs → p (get_or xs k d) ≡ false) → last_place p xs ≡ None
last_place-none p xs h = last_from-none p 0 xs h

-- element k passes, and none after it, where the first stands at place i
pub last_from-some : {X : Type 0} (p : X → Bool) (i : ℕ) (xs : List X) (k : ℕ) → k < length xs
    → ((d : X) → p (get_or xs k d) ≡ true) → ((j : ℕ) (d : X) → k < j → j < length xs → p (get_or xs j d) ≡ false)
    → last_from p i xs ≡ Some (i + k)
last_from-some p i [] k lt here after = absurd (omega arith)
last_from-some p i (x ∷ xs) zero lt here after =
    let rest : last_from p (suc i) xs ≡ None =
    last_from-none p (suc i) xs (λ k d less. after (suc k) d (omega arith) (omega arith)) in
    let at : i ≡ i + 0 = omega arith in
    rw (rest, here x) (ap (λ n. Some n) at)
last_from-some p i (x ∷ xs) (suc k) lt here after =
    let rest : last_from p (suc i) xs ≡ Some (suc i + k) =
    last_from-some p (suc i) xs k (omega arith) here (λ j d more less. after (suc j) d (omega arith) (omega arith)) in
    let at : suc i + k ≡ i + suc k = omega arith in
    rw rest (ap (λ n. Some n) at)

-- element k passes, and none after it
pub last_place-some : {X : Type 0} (p : X → Bool) (xs : List X) (k : ℕ) → k < length xs
    → ((d : X) → p (get_or xs k d) ≡ true) → ((j : ℕ) (d : X) → k < j → j < length xs → p (get_or xs j d) ≡ false)
    → last_place p xs ≡ Some k
last_place-some p xs k lt here after =
    let at : 0 + k ≡ k = omega arith in
    last_from-some p 0 xs k lt here after ∙ ap (λ n. Some n) at
