-- Lists by the numbers below n.
use Rattle.std.proofs.Common.{◌≡◌, ◌<◌, inl, inr, ℕ, zero, suc, [], ◌∷◌, length, get_or, refl, ap, ◌∙◌, arith}
use Rattle.std.specs.Prelude.{map}
use Rattle.std.proofs.lemmas.Bool.{cases_lt}
use Rattle.std.proofs.lemmas.List.{length-append, get_or-map, get_or_push, get_or_append_left}
use Rattle.bl_format.specs.Words.{numbers_below}

pub length-numbers_below : (n : ℕ) → length (numbers_below n) ≡ n
length-numbers_below zero = refl
length-numbers_below (suc n) = omega (arith, length-append (numbers_below n) (n ∷ []), length-numbers_below n)

-- number k stands at place k
pub get_or-numbers_below : (n k d : ℕ) → k < n → get_or (numbers_below n) k d ≡ k
get_or-numbers_below zero k d lt = absurd (omega arith)
get_or-numbers_below (suc n) k d lt = elim (cases_lt k n) [
  | inl less ↦ (get_or_append_left (numbers_below n) (n ∷ []) d k (omega (arith, length-numbers_below n))
      ∙ get_or-numbers_below n k d less)
  | inr most ↦ (let is : n ≡ k = omega arith in get_or_push (numbers_below n) n d k (length-numbers_below n ∙ is) ∙ is)
]

-- what a function gives for number k stands at place k
pub get_or-by : {X : Type 0} (f : ℕ → X) (n k : ℕ) (d : X) → k < n → get_or (map f (numbers_below n)) k d ≡ f k
get_or-by f n k d lt =
    get_or-map f (numbers_below n) k 0 d (omega (arith, length-numbers_below n)) ∙ ap f (get_or-numbers_below n k 0 lt)
