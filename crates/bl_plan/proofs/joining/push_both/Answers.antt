use Rattle.std.proofs.Common.{sym, ◌∙◌}
use Rattle.bl_plan.proofs.StepsBehind.{is_continued}
use Rattle.bl_plan.proofs.joining.push_both.Goals as goal

pub joined-requires : goal.joined-requires
joined-requires c = (is_continued c.args.first c.args.second (sym c.continues.ensures ∙ c.if-continues.true)).count
