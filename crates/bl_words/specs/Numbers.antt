-- The number in a word, as it is read digit by digit. This project's own.
use Rattle.std.specs.Prelude.{ℕ, ◌+◌, List, min}
use Rattle.bl_format.specs.Members.{number_in}

-- the number that digits spell, where all that are greater than a limit are as one
abbrev pub capped_number : ℕ → List ℕ → ℕ
capped_number greatest digits = min (number_in digits) (greatest + 1)
