use Rattle.std.proofs.Common.{◌+◌, List, ℕ, sym, subst, arith}
use Rattle.bl_addresses.proofs.GroupLemmas.{GroupsSoFar, groups-more, groups-long, groups-all}
use Rattle.bl_addresses.proofs.groups.groups_of.Goals as goal

pub loop-node-preserved : goal.loop-node-preserved
loop-node-preserved c =
    let nodes = c.args.nodes.now in
    let i = c.loop-node.node-index in
    subst (GroupsSoFar nodes (i + 1) c.heads_after-heads.result) (sym {A = List ℕ} c.in_ok-push.ensures.items)
    (groups-more nodes i c.loop-node.heads c.heads_after-heads.result c.loop-node.groups.items _
    c.loop-node-test.true c.heads_after-heads.ensures c.loop-node.invariant)

pub returns-clause-len : goal.returns-clause-len
returns-clause-len c =
    groups-long c.args.nodes.now c.loop-node.groups.items
    (groups-all c.args.nodes.now c.loop-node.node-index c.loop-node.heads c.loop-node.groups.items (omega (arith, c.loop-node-test.false)) c.loop-node.invariant)
