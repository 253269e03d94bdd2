use Rattle.std.proofs.Common.{◌≡◌, take}
use Rattle.bl_plan.specs.Straight.{straight}
use Rattle.bl_plan.proofs.steps.Plan.straight.Given as goal

-- the steps are those of the steps so far
abbrev pub invariant-loop-step : goal.invariant-loop-step
invariant-loop-step l = l.steps.items ≡ straight (take l.step-index l.own)
