-- What is so of the bytes that a shelf tells under a name.
use Rattle.std.specs.Prelude.{ℕ, List, Option, IfSome, IsSomeAnd}
use Rattle.std.specs.Option.{ForSome}
use Rattle.bl_shelf.specs.Told.{Told, bytes_under}

-- where the shelf tells and has the name, its bytes are such
abbrev pub IfHeld : Option Told → List ℕ → (List ℕ → Type 0) → Type 0
IfHeld told name Such = IfSome told (λ t. IfSome (bytes_under name t) Such)

-- the same as a condition of a call
abbrev pub ForHeld : Option Told → List ℕ → (List ℕ → Type 0) → Type 0
ForHeld told name Such = ForSome told (λ t. ForSome (bytes_under name t) Such)

-- where the shelf tells, the name is held and its bytes are such
abbrev pub IsHeldAnd : Option Told → List ℕ → (List ℕ → Type 0) → Type 0
IsHeldAnd told name Such = IfSome told (λ t. IsSomeAnd (bytes_under name t) Such)
