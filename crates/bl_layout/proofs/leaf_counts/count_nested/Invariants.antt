use Rattle.bl_layout.specs.Counts.{AreCounts}
use Rattle.bl_layout.proofs.leaf_counts.count_nested.Given as goal

abbrev pub invariant-loop-s : goal.invariant-loop-s
invariant-loop-s l = AreCounts l.catalogue l.width l.depth l.s l.counts
