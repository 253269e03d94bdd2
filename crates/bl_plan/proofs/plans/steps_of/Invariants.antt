use Rattle.bl_format.specs.Layout.{named_leaves, struct_length}
use Rattle.bl_plan.proofs.PlanLaws.{IsPlanned}
use Rattle.bl_plan.proofs.plans.steps_of.Given as goal

-- the steps are those of the leaves so far
abbrev pub invariant-loop-leaf : goal.invariant-loop-leaf
invariant-loop-leaf l =
    IsPlanned (struct_length l.from.catalogue l.s) (struct_length l.to.catalogue l.t)
    (named_leaves l.from.catalogue l.from.width l.s) (named_leaves l.to.catalogue l.to.width l.t) l.leaf l.steps.items
