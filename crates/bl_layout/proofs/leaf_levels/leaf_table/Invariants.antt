use Rattle.bl_layout.specs.Leaves.{StandBelow, lists_of}
use Rattle.bl_layout.proofs.leaf_levels.leaf_table.Given as goal

abbrev pub invariant-loop-nesting : goal.invariant-loop-nesting
invariant-loop-nesting l = StandBelow l.catalogue l.width l.nesting (lists_of l.table.items)
