use Rattle.std.proofs.Common.{◌≡◌}
use Rattle.bl_layout.proofs.NewLengthLemmas.{lengths_within}
use Rattle.bl_layout.proofs.new_lengths.new_lengths.Given as goal

abbrev pub invariant-loop : goal.invariant-loop
invariant-loop l = l.lengths.items ≡ lengths_within l.counter l.layout.catalogue l.layout.width l.to
