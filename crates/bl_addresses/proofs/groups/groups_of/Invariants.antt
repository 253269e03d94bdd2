use Rattle.bl_addresses.proofs.GroupLemmas.{GroupsSoFar}
use Rattle.bl_addresses.proofs.groups.groups_of.Given as goal

abbrev pub invariant-loop-node : goal.invariant-loop-node
invariant-loop-node l = GroupsSoFar l.nodes l.node-index l.heads l.groups.items
