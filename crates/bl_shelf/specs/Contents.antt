-- What an answer of a shelf says of the files that it tells.
use Rattle.std.specs.Prelude.{◌≡◌, ℕ, ◌<◌, ◌≤◌, All, List, length, take, drop, Option, Some, None, option_map, IfSome, Result, IsErrOf}
use Rattle.std.specs.Option.{ForSome}
use Rattle.bl_shelf.specs.Told.{Told, bytes_under}
use Rattle.bl_shelf.specs.declared.shelf.ShelfFault.{ShelfFault}
use Rattle.bl_shelf.specs.declared.shelf.ShelfFault.TheVariants.{Absent}

-- where the shelf tells, the name is held and its bytes are of this number
abbrev pub IsSizeOf : Option Told → List ℕ → ℕ → Type 0
IsSizeOf told name size = IfSome told (λ t. option_map length (bytes_under name t) ≡ Some size)

-- where the shelf tells and has the name, its bytes reach to this place
abbrev pub Reaches : Option Told → List ℕ → ℕ → Type 0
Reaches told name end = ForSome told (λ t. ForSome (bytes_under name t) (λ bytes. end ≤ length bytes))

-- where the shelf tells, the name is held and these are its bytes from this place on
abbrev pub AreBytesAt : Option Told → List ℕ → ℕ → List ℕ → Type 0
AreBytesAt told name at part =
    IfSome told (λ t. option_map (λ bytes. take (length part) (drop at bytes)) (bytes_under name t) ≡ Some part)

-- where the shelf tells and has the name, its bytes are below 256
abbrev pub IsOfBytes : Option Told → List ℕ → Type 0
IsOfBytes told name = IfSome told (λ t. IfSome (bytes_under name t) (All (λ byte. byte < 256)))

-- where the shelf tells, `Absent` comes exactly where the name isn't held
pub record IsAbsentExactly {T : Type 0} (told : Option Told) (name : List ℕ) (result : Result T ShelfFault) : Type 0 where
  pub only : IsErrOf result Absent → IfSome told (λ t. bytes_under name t ≡ None)
  pub then : IfSome told (λ t. bytes_under name t ≡ None → IsErrOf result Absent)
