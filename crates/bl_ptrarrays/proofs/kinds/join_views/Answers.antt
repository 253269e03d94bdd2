use Rattle.std.proofs.Common.{◌∙◌, arith}
use Rattle.std.proofs.lemmas.List.{length-set}
use Rattle.bl_ptrarrays.proofs.ViewsJoined.{joined_views-next, joined_views-end}
use Rattle.bl_ptrarrays.proofs.kinds.join_views.Goals as goal

pub loop-view-preserved : goal.loop-view-preserved
loop-view-preserved c = (
  joined_views-next c.args.seen.now c.loop-view.view-index _ c.joined.result c.loop-view.kinds _ c.loop-view-test.true
      c.loop-view.invariant.0 c.joined.ensures,
  length-set c.loop-view.kinds _ _ ∙ c.loop-view.invariant.1,
)

pub returns : goal.returns
returns c =
    joined_views-end c.args.seen.now c.loop-view.view-index c.loop-view.kinds _ (omega (arith, c.loop-view-test.false))
    c.loop-view.invariant.0
