use Rattle.bl_layout.specs.Counts.{AreCounts}
use Rattle.bl_layout.proofs.leaf_counts.leaf_counts.Given as goal

abbrev pub invariant-loop-depth : goal.invariant-loop-depth
invariant-loop-depth l = AreCounts l.catalogue l.width l.depth 0 l.counts.items
