use Rattle.std.proofs.Common.{◌-◌, ◌≤◌, ◌<◌}
use Rattle.bl_format.specs.Layout.{member_count, member_offset}
use Rattle.bl_plan.proofs.members.member_at.Given as goal

-- the member stands from the low one on, and before the high one
abbrev pub invariant-search : goal.invariant-search
invariant-search l =
    (l.low < l.high) × (l.high ≤ member_count l.layout.catalogue l.place.s)
    × (member_offset l.layout.catalogue l.layout.width l.place.s l.low ≤ l.place.at)
    × (l.place.at < member_offset l.layout.catalogue l.layout.width l.place.s l.high)

abbrev pub decreases-search : goal.decreases-search
decreases-search l = l.high - l.low
