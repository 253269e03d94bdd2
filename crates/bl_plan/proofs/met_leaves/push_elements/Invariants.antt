use Rattle.std.proofs.Common.{◌≡◌, ◌++◌}
use Rattle.std.specs.Prelude.{flat_map}
use Rattle.bl_format.specs.Words.{numbers_below}
use Rattle.bl_plan.specs.SourcePlaces.{element_places}
use Rattle.bl_plan.proofs.met_leaves.push_elements.Given as goal

abbrev pub invariant-loop-element : goal.invariant-loop-element
invariant-loop-element l =
    l.places.items ≡ l.initial.places.items ++ flat_map (element_places l.elements l.found) (numbers_below l.element)
