use Rattle.std.proofs.Common.{◌≡◌, take}
use Rattle.bl_file.specs.Outlines.{ids_of}
use Rattle.bl_file.proofs.nodes.ids_of.Given as goal

abbrev pub invariant-loop-node : goal.invariant-loop-node
invariant-loop-node l = l.ids.items ≡ ids_of l.layout.catalogue (take l.node-index l.nodes)
