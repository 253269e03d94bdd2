use Rattle.std.proofs.Common.{◌-◌}
use Rattle.bl_plan.specs.Meetings.{leaf_at}
use Rattle.bl_plan.proofs.WayLemmas.{IsWalked}
use Rattle.bl_plan.proofs.members.direct_member.Given as goal

-- the place is that of the way from this step on
abbrev pub invariant-loop-step : goal.invariant-loop-step
invariant-loop-step l =
    IsWalked l.layout.catalogue l.layout.width (leaf_at l.layout l.s l.leaf).way (l.step - 1) l.place.s l.place.at
