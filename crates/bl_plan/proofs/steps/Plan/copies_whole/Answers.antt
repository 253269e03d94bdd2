use Rattle.std.proofs.Common.{sym, ap, ◌∙◌}
use Rattle.bl_plan.specs.Straight.{keep_first}
use Rattle.bl_plan.proofs.StraightLaws.{copies_whole_of}
use Rattle.bl_plan.proofs.steps.Plan.copies_whole.Goals as goal

pub returns-then-from-to-clause-copies : goal.returns-then-from-to-clause-copies
returns-then-from-to-clause-copies c = λ is x y same from to.
    copies_whole_of x y c.args.self.now c.args.from c.args.to c.if-from-to.true
    (sym (ap (keep_first c.args.from) c.as_slice.ensures) ∙ sym c.keep_first.ensures ∙ is) same from to
