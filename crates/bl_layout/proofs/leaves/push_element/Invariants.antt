use Rattle.std.proofs.Common.{◌≡◌, ◌++◌, take}
use Rattle.bl_layout.specs.Leaves.{element_leaves}
use Rattle.bl_layout.proofs.leaves.push_element.Given as goal

abbrev pub invariant-loop-leaf : goal.invariant-loop-leaf
invariant-loop-leaf l = l.leaves.items ≡ l.initial.leaves.items ++ element_leaves l.part (take l.leaf-index l.inside) l.element
