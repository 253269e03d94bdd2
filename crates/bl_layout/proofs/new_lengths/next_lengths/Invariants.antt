use Rattle.std.proofs.Common.{◌≡◌, map}
use Rattle.std.specs.Prelude.{slice_index}
use Rattle.bl_format.specs.Words.{numbers_below}
use Rattle.bl_layout.specs.NewLengths.{next_length}
use Rattle.bl_layout.proofs.new_lengths.next_lengths.Given as goal

abbrev pub invariant-loop-s : goal.invariant-loop-s
invariant-loop-s l = l.next.items ≡ map (next_length (slice_index l.lengths) l.layout.catalogue l.layout.width l.to) (numbers_below l.s)
