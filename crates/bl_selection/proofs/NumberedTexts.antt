-- Texts that come of numbered elements one behind another, and how long they are.
use Rattle.std.proofs.Common.{◌≡◌, ℕ, zero, suc, ◌+◌, ◌<◌, List, [], ◌∷◌, ◌++◌, length, get_or, refl, sym, ap, ◌∙◌, append_assoc, arith}
use Rattle.std.specs.Prelude.{map, flat_map}
use Rattle.std.specs.List.{enumerate_from}
use Rattle.std.proofs.lemmas.List.{append-nil}
use Rattle.bl_format.specs.Words.{numbers_below}
use Rattle.bl_format.proofs.LeavesApart.{flat_map-numbers_below}

-- the text of one number more
pub texts_more : {X : Type 0} (text : ℕ → List X) (n : ℕ) → flat_map text (numbers_below (suc n)) ≡ flat_map text (numbers_below n) ++ text n
texts_more text n = flat_map-numbers_below text n ∙ ap (λ x. flat_map text (numbers_below n) ++ x) (append-nil (text n))

-- the text of the first number, and those of the others
texts_first : {X : Type 0} (text : ℕ → List X) (n : ℕ) → flat_map text (numbers_below (suc n)) ≡ text 0 ++ flat_map (λ k. text (suc k)) (numbers_below n)
texts_first text zero = texts_more text 0 ∙ sym (append-nil (text 0))
texts_first text (suc n) =
    texts_more text (suc n) ∙ ap (λ x. x ++ text (suc n)) (texts_first text n)
    ∙ append_assoc (text 0) (flat_map (λ k. text (suc k)) (numbers_below n)) (text (suc n))
    ∙ ap (λ x. text 0 ++ x) (sym (texts_more (λ k. text (suc k)) n))

-- what numbers below another give, where two functions agree there
pub texts-same : {X : Type 0} (f g : ℕ → List X) (n : ℕ) → ((k : ℕ) → k < n → f k ≡ g k) → flat_map f (numbers_below n) ≡ flat_map g (numbers_below n)
texts-same f g zero same = refl
texts-same f g (suc n) same =
    texts_more f n
    ∙ (λ i. texts-same f g n (λ k lt. same k (omega (arith, lt))) i ++ same n (omega arith) i)
    ∙ sym (texts_more g n)

-- what numbered elements of a numbered list give is what their numbers give
pub texts_of : {X Y Z : Type 0} (make : ℕ → X → Y) (write : ℕ → Y → List Z) (text : ℕ → List Z) (d : X) (i : ℕ) (xs : List X)
    → ((k : ℕ) → k < length xs → text k ≡ write (i + k) (make (i + k) (get_or xs k d)))
    → flat_map (λ p. write p.0 p.1) (enumerate_from i (map (λ p. make p.0 p.1) (enumerate_from i xs))) ≡ flat_map text (numbers_below (length xs))
texts_of make write text d i [] each = refl
texts_of make write text d i (x ∷ xs) each =
    let here : i + 0 ≡ i = omega arith in
    let own : text 0 ≡ write i (make i x) = each 0 (omega arith) ∙ ap (λ n. write n (make n x)) here in
    let rest : flat_map (λ p. write p.0 p.1) (enumerate_from (i + 1) (map (λ p. make p.0 p.1) (enumerate_from (i + 1) xs))) ≡ flat_map (λ k. text (suc k)) (numbers_below (length xs)) =
    texts_of make write (λ k. text (suc k)) d (i + 1) xs (λ k lt. each (suc k) (omega (arith, lt)) ∙ ap (λ n. write n (make n (get_or xs k d))) (next i k)) in
    ap (λ t. t ++ flat_map (λ p. write p.0 p.1) (enumerate_from (i + 1) (map (λ p. make p.0 p.1) (enumerate_from (i + 1) xs)))) (sym own)
    ∙ ap (λ t. text 0 ++ t) rest ∙ sym (texts_first text (length xs))
  where
    next : (i k : ℕ) → i + suc k ≡ i + 1 + k
    next i k = omega arith
