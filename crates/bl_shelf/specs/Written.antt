-- What was put into a sink that tells.
use Rattle.std.specs.Prelude.{◌≡◌, ℕ, List, ◌++◌, take, Option, option_map}

-- these bytes are added at the end
abbrev pub Grows : Option (List ℕ) → List ℕ → Option (List ℕ) → Type 0
Grows old bytes new = new ≡ option_map (λ written. written ++ bytes) old

-- some of the bytes are added at the end, from the first on
abbrev pub GrowsByPrefix : Option (List ℕ) → List ℕ → Option (List ℕ) → Type 0
GrowsByPrefix old bytes new = (n : ℕ) × Grows old (take n bytes) new
