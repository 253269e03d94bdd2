use Rattle.bl_draft.proofs.StructsPlanned.{PlannedSoFar}
use Rattle.bl_draft.proofs.structs.plans_of.Given as goal

abbrev pub invariant-loop-head : goal.invariant-loop-head
invariant-loop-head l = PlannedSoFar l.outline l.draft l.heads l.head-index l.planned.items l.plans.items
