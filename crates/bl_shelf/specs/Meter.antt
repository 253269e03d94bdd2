-- The counts of a fake, and its calls that are to fail.
use Rattle.std.specs.Prelude.{ℕ, List, Contains}
use Rattle.bl_shelf.specs.declared.meter.Meter.{Meter}

-- the numbers of the calls that are to fail, the first call being 0
abbrev pub fails_of : Meter → List ℕ
fails_of m = m.fails.items

-- how many calls there were
abbrev pub calls_of : Meter → ℕ
calls_of m = m.calls

-- how many calls failed
abbrev pub faults_of : Meter → ℕ
faults_of m = m.faults

-- the next call is to fail
abbrev pub IsDueAt : Meter → Type 0
IsDueAt m = Contains (fails_of m) (calls_of m)
