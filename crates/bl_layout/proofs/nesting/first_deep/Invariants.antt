use Rattle.std.proofs.Common.{◌≡◌, drop}
use Rattle.bl_format.specs.Words.{find_map}
use Rattle.bl_layout.specs.Nesting.{fault_of_nesting}
use Rattle.bl_layout.proofs.nesting.first_deep.Given as goal

abbrev pub invariant-loop-nesting : goal.invariant-loop-nesting
invariant-loop-nesting l = find_map fault_of_nesting l.nestings ≡ find_map fault_of_nesting (drop l.nesting-index l.nestings)
