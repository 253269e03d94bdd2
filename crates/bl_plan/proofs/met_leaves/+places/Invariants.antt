use Rattle.std.proofs.Common.{◌+◌, ◌*◌, ◌-◌, length}
use Rattle.bl_format.specs.Layout.{named_leaves, nesting}
use Rattle.bl_plan.proofs.PlacesSoFar.{AreUpTo}
use Rattle.bl_plan.proofs.met_leaves.+places.Given as goal

-- a struct by value is nested less deep than the one in which it stands, and members are put for a struct
abbrev pub decreases-push_member : goal.decreases-push_member
decreases-push_member l = 2 * nesting l.to.now.catalogue l.t

abbrev pub decreases-source_places : goal.decreases-source_places
decreases-source_places l = 2 * nesting l.to.now.catalogue l.t + 1

abbrev pub invariant-source_places-loop-leaves : goal.invariant-source_places-loop-leaves
invariant-source_places-loop-leaves l =
    AreUpTo (named_leaves l.from.catalogue l.from.width l.s) l.to.catalogue l.to.width l.t l.places.items

abbrev pub decreases-source_places-loop-leaves : goal.decreases-source_places-loop-leaves
decreases-source_places-loop-leaves l = length l.leaves - length l.places.items
