use Rattle.std.proofs.Common.{◌≡◌, drop}
use Rattle.bl_format.specs.Words.{find_map}
use Rattle.bl_format.specs.Nodes.{node_fault}
use Rattle.bl_file.proofs.nodes.first_node_fault.Given as goal

abbrev pub invariant-loop-node : goal.invariant-loop-node
invariant-loop-node l =
    find_map (node_fault l.layout.catalogue) (drop l.node-index l.nodes) ≡ find_map (node_fault l.layout.catalogue) l.nodes
