use Rattle.std.proofs.Common.{◌∙◌}
use Rattle.bl_plan.specs.Meetings.{leaf_at, meeting_at, meeting_by}
use Rattle.bl_plan.proofs.PlanLaws.{kept_fits}
use Rattle.bl_plan.proofs.meeting.meeting_at.Goals as goal

pub meeting_by-requires : goal.meeting_by-requires
meeting_by-requires c =
    let of = c.args.from.now in
    kept_fits of.catalogue of.width c.args.s c.args.source c.kept_count-kept.result c.leaf_at-x.result.now (leaf_at c.args.to.now c.args.t c.args.target)
    c.leaf_at-x.ensures.has_layout c.requires.s c.requires.source c.leaf_at-x.ensures.is c.kept_count-kept.ensures

pub returns : goal.returns
unfolding meeting_at
returns c =
    let x = c.leaf_at-x.ensures.is in
    let y = c.leaf_at-y.ensures.is in
    c.meeting_by.ensures
    ∙ (λ i. meeting_by (c.width.ensures i) (c.width-2.ensures i) (x i) (y i) (c.kept_count-kept.ensures i) (c.are_alike-alike.ensures i) (x i).kind (y i).kind)
