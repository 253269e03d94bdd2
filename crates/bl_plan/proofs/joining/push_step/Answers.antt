use Rattle.std.proofs.Common.{◌≡◌, List, OnOk, sym, ap, subst, ◌∙◌, arith}
use Rattle.bl_plan.specs.declared.steps.Step.{Step}
use Rattle.bl_plan.specs.Meetings.{with_step}
use Rattle.bl_plan.proofs.StepsBehind.{with_step-last, with_step-first}
use Rattle.bl_plan.proofs.joining.push_step.Goals as goal

pub returns-in-Some : goal.returns-in-Some
returns-in-Some c =
    subst (λ (t : List Step). OnOk c.push_both.result (c.push_both.new.steps.items ≡ t))
    (sym (ap (λ (t : List Step). with_step t c.args.step) c.in-Some.ensures.items ∙ with_step-last c.pop.new.self.items c.in-Some.last c.args.step))
    c.push_both.ensures

pub returns-in_ok-push-in-None : goal.returns-in_ok-push-in-None
returns-in_ok-push-in-None c =
    with_step-first c.args.steps.now.items c.pop.new.self.items c.push.new.self.items c.args.step
    (omega (arith, c.in-None.ensures.cases.0, c.args.steps.now.ok)) c.in-None.ensures.items c.in_ok-push-in-None.ensures.items
