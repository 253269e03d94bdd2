-- What the page of a file that is held says of the file's bytes.
use Rattle.std.specs.Prelude.{◌≡◌, ℕ, ◌<◌, All, List, length, take, drop}

-- some bytes are so many and below 256, and those from a place on are those that fill the page
pub record HavePage (size page_at filled : ℕ) (page bytes : List ℕ) : Type 0 where
  pub whole : length bytes ≡ size
  pub below : All (λ byte. byte < 256) bytes
  pub part : take filled (drop page_at bytes) ≡ take filled page
