use Rattle.bl_plan.proofs.PlanLaws.{count_some}
use Rattle.bl_plan.proofs.meeting.kept_count.Goals as goal

pub overflow_sub-result : goal.overflow_sub-result
overflow_sub-result c =
    let of = c.args.to.now in
    count_some of.catalogue of.width c.args.t c.args.target c.leaf_at-2.result.now c.requires.target c.leaf_at-2.ensures.is
