use Rattle.std.proofs.Common.{◌≤◌, ◌+◌, ℕ, List, length, get_or, refl, sym, ap, subst, ◌∙◌}
use Rattle.bl_plan.specs.declared.steps.Carry.TheVariants.{Kept}
use Rattle.bl_plan.specs.declared.steps.Step.{Step}
use Rattle.bl_plan.specs.Steps.{step_end, steps_written}
use Rattle.bl_rebuild.proofs.Applications.{IsApplied, next_inside, applied_more, applied_all}
use Rattle.bl_rebuild.proofs.element.apply.Goals as goal

abbrev no_step : Step
no_step = record { from = 0; to = 0; count = 0; carry = Kept 0 }

pub clear-requires-clause-inside : goal.clear-requires-clause-inside
clear-requires-clause-inside g c =
    (next_inside (g.I.Images.names c.args.images.now) c.args.from c.args.to c.args.src.now (length c.args.dst.now) c.as_slice-steps.result.now
    c.loop-step.step-index c.loop-step.done _ c.loop-step.dst c.loop-step-test.true c.loop-step.invariant).0

pub put_step-requires-clause-room : goal.put_step-requires-clause-room
put_step-requires-clause-room g c =
    let inside = (next_inside (g.I.Images.names c.args.images.now) c.args.from c.args.to c.args.src.now (length c.args.dst.now) c.as_slice-steps.result.now
    c.loop-step.step-index c.loop-step.done no_step c.loop-step.dst c.loop-step-test.true c.loop-step.invariant).1 in
    subst (λ (n : ℕ). step_end (get_or c.as_slice-steps.result.now c.loop-step.step-index no_step) ≤ n) (sym c.clear.ensures.length) inside

pub loop-step-preserved : goal.loop-step-preserved
loop-step-preserved g c =
    let names = g.I.Images.names c.args.images.now in
    let n = length c.args.dst.now in
    let steps = c.as_slice-steps.result.now in
    let i = c.loop-step.step-index in
    subst (λ (e : ℕ). IsApplied names c.args.from c.args.to c.args.src.now n steps (i + 1) e c.put_step.new.dst) (sym c.step_end-done.ensures)
    (applied_more names c.args.from c.args.to c.args.src.now n steps i c.loop-step.done _ _ c.loop-step.dst c.clear.new.dst c.put_step.new.dst
    c.loop-step-test.true refl c.clear.ensures.cleared c.put_step.ensures.put c.loop-step.invariant)

pub returns-clause-applied : goal.returns-clause-applied
returns-clause-applied g c =
    let names = g.I.Images.names c.args.images.now in
    let n = length c.args.dst.now in
    applied_all names c.args.from c.args.to c.args.src.now n c.as_slice-steps.result.now c.loop-step.step-index c.loop-step.done c.loop-step.dst c.clear-2.new.dst
    (length c.loop-step.dst) c.loop-step-test.false refl c.clear-2.ensures.cleared c.loop-step.invariant
    ∙ ap (λ (t : List Step). steps_written names c.args.from c.args.to c.args.src.now n 0 t) c.as_slice-steps.ensures
