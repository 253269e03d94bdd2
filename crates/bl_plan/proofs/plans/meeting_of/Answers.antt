use Rattle.std.proofs.Common.{ℕ, Option, sym, ap, ◌∙◌}
use Rattle.bl_format.specs.Layout.{named_leaves}
use Rattle.bl_plan.specs.Meetings.{leaf_at, meeting_of}
use Rattle.bl_plan.proofs.PlanLaws.{source_at}
use Rattle.bl_plan.proofs.plans.meeting_of.Goals as goal

pub meeting_at-requires-clause-source : goal.meeting_at-requires-clause-source
meeting_at-requires-clause-source c =
    let of = c.args.from.now in
    (source_at (named_leaves of.catalogue of.width c.args.s) (leaf_at c.args.to.now c.args.t c.args.leaf) c.in-Some.source (sym c.requires.found ∙ c.in-Some.is)).0

pub returns-in-Some : goal.returns-in-Some
unfolding meeting_of
returns-in-Some c =
    let of = c.args.from.now in
    c.meeting_at.ensures
    ∙ sym (ap (λ (o : Option ℕ). meeting_of of.width c.args.to.now.width (named_leaves of.catalogue of.width c.args.s) o (leaf_at c.args.to.now c.args.t c.args.leaf)) c.in-Some.is)

pub returns-in-None : goal.returns-in-None
unfolding meeting_of
returns-in-None c =
    let of = c.args.from.now in
    sym (ap (λ (o : Option ℕ). meeting_of of.width c.args.to.now.width (named_leaves of.catalogue of.width c.args.s) o (leaf_at c.args.to.now c.args.t c.args.leaf)) c.in-None.is)
