use Rattle.std.proofs.Common.{◌≡◌, take}
use Rattle.bl_layout.proofs.copy.copy_of_types.Given as goal

abbrev pub invariant-loop-entry : goal.invariant-loop-entry
invariant-loop-entry l = l.copy.items ≡ take l.entry-index l.types
