use Rattle.bl_plan.proofs.FirstLeafTable.{HasFirstBelow}
use Rattle.bl_plan.proofs.source_members.first_leaves.Given as goal

abbrev pub invariant-loop-place : goal.invariant-loop-place
invariant-loop-place l = HasFirstBelow l.layout.catalogue l.layout.width l.s l.place l.table
