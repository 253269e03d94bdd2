use Rattle.std.proofs.Common.{◌≡◌, drop}
use Rattle.bl_format.specs.Words.{find_map}
use Rattle.bl_layout.specs.NewLengths.{fault_of_length}
use Rattle.bl_layout.proofs.new_width.length_fault.Given as goal

abbrev pub invariant-loop-length : goal.invariant-loop-length
invariant-loop-length l = find_map fault_of_length l.lengths ≡ find_map fault_of_length (drop l.length-index l.lengths)
