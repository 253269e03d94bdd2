use Rattle.bl_layout.specs.Leaves.{lists_of}
use Rattle.bl_layout.proofs.LevelLemmas.{StandUpTo}
use Rattle.bl_layout.proofs.leaf_levels.build_level.Given as goal

abbrev pub invariant-loop-s : goal.invariant-loop-s
invariant-loop-s l = StandUpTo l.catalogue l.width l.nesting l.s (lists_of l.table)
