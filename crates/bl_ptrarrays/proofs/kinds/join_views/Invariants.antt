use Rattle.std.proofs.Common.{◌≡◌, length, drop}
use Rattle.bl_ptrarrays.specs.Joined.{joined_views}
use Rattle.bl_ptrarrays.proofs.kinds.join_views.Given as goal

abbrev pub invariant-loop-view : goal.invariant-loop-view
invariant-loop-view l =
    (joined_views (drop l.view-index l.seen) l.kinds ≡ joined_views l.seen l.initial.kinds) × (length l.kinds ≡ length l.initial.kinds)
