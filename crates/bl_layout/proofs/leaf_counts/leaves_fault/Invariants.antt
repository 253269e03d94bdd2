use Rattle.bl_layout.proofs.CountLemmas.{AreFew}
use Rattle.bl_layout.proofs.leaf_counts.leaves_fault.Given as goal

abbrev pub invariant-loop-count : goal.invariant-loop-count
invariant-loop-count l = AreFew l.catalogue l.fn.width l.count-index l.leaves
