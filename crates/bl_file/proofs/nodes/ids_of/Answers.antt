use Rattle.std.proofs.Common.{◌∙◌}
use Rattle.bl_file.proofs.IdLemmas.{ids-more}
use Rattle.bl_file.proofs.nodes.ids_of.Goals as goal

pub loop-node-preserved : goal.loop-node-preserved
loop-node-preserved c =
    c.in_ok-push.ensures.items
    ∙ ids-more c.args.layout.now.catalogue c.deref.result.now c.args.nodes.now c.loop-node.node-index _ c.loop-node.ids.items c.is_id_by.result
    (c.deref.ensures.value ∙ c.in_ok-parts.ensures) c.loop-node-test.true c.is_id_by.ensures c.loop-node.invariant
