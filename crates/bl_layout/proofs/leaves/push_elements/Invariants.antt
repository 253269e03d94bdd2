use Rattle.std.proofs.Common.{◌≡◌, ◌++◌}
use Rattle.bl_layout.specs.Leaves.{leaves_of_elements}
use Rattle.bl_layout.proofs.leaves.push_elements.Given as goal

abbrev pub invariant-loop-element : goal.invariant-loop-element
invariant-loop-element l = l.leaves.items ≡ l.initial.leaves.items ++ leaves_of_elements l.part l.inside l.element
