use Rattle.std.proofs.Common.{◌≡◌, ◌++◌, take}
use Rattle.bl_plan.specs.SourcePlaces.{element_places}
use Rattle.bl_plan.proofs.met_leaves.push_element.Given as goal

abbrev pub invariant-loop-place : goal.invariant-loop-place
invariant-loop-place l =
    l.places.items ≡ l.initial.places.items ++ element_places l.elements (take l.place-index l.found) l.element
