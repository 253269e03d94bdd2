-- Lists of checks, as each command has one: a check gives the ending of a run, or nothing where the run may go
-- on. This project's own.
use Rattle.std.specs.Prelude.{Bool, if◌then◌else◌, List, [], ◌∷◌, Option, Some, None}
use Rattle.std.specs.Option.{option_or}
use Rattle.bl_commands.specs.declared.ending.Ending.{Ending}

-- an ending where a test holds
abbrev pub ending_if : Bool → Ending → Option Ending
ending_if test ending = if test then Some ending else None

-- the first ending of some checks
abbrev pub first_ending : List (Option Ending) → Option Ending
first_ending [] = None
first_ending (check ∷ checks) = option_or check (first_ending checks)
