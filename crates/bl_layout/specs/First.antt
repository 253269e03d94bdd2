-- The first number that passes a test.
use Rattle.std.specs.Prelude.{◌≡◌, ◌<◌, ◌≤◌, ℕ, Bool, true, false}

-- the first of some numbers from 0 on that passes, or how many there are
pub record IsFirst (passes : ℕ → Bool) (count n : ℕ) : Type 0 where
  pub before : (k : ℕ) → k < n → passes k ≡ false
  pub at : n < count → passes n ≡ true
  pub within : n ≤ count
