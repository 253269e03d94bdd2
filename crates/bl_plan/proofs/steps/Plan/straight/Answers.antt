use Rattle.std.proofs.Common.{ap, ◌∙◌, arith}
use Rattle.bl_plan.specs.declared.steps.Carry.TheVariants.{Kept}
use Rattle.bl_plan.specs.declared.steps.Step.{Step}
use Rattle.bl_plan.specs.Meetings.{with_step}
use Rattle.bl_plan.specs.Straight.{straight}
use Rattle.bl_plan.proofs.StraightLaws.{straight_more, straight_all, straight-carries}
use Rattle.bl_plan.proofs.steps.Plan.straight.Goals as goal

abbrev no_step : Step
no_step = record { from = 0; to = 0; count = 0; carry = Kept 0 }

pub loop-step-preserved : goal.loop-step-preserved
loop-step-preserved c =
    straight_more c.as_slice-own.result.now c.loop-step.steps.items c.push_step.new.steps.items c.loop-step.step-index no_step
    c.loop-step-test.true c.loop-step.invariant
    (c.in_ok-push_step.ensures ∙ ap (with_step c.loop-step.steps.items) c.bytewise.ensures)

pub returns-clause-is : goal.returns-clause-is
returns-clause-is c =
    c.from_vec.ensures
    ∙ straight_all c.as_slice-own.result.now c.loop-step.steps.items c.loop-step.step-index (omega (arith, c.loop-step-test.false)) c.loop-step.invariant
    ∙ ap straight c.as_slice-own.ensures

pub returns-clause-carries : goal.returns-clause-carries
returns-clause-carries c = λ x y same of.
    straight-carries c.args.self.now (record { steps = c.from_vec.result })
    (c.from_vec.ensures
    ∙ straight_all c.as_slice-own.result.now c.loop-step.steps.items c.loop-step.step-index (omega (arith, c.loop-step-test.false)) c.loop-step.invariant
    ∙ ap straight c.as_slice-own.ensures)
    x y same of
