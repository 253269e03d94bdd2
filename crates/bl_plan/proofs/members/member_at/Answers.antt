use Rattle.std.proofs.Common.{arith}
use Rattle.bl_plan.proofs.WayLemmas.{member_offset-zero, some_member}
use Rattle.bl_plan.proofs.members.member_at.Goals as goal

pub search-init : goal.search-init
search-init c =
    let of = c.args.layout.now in
    let some = some_member of.catalogue of.width c.args.place.s c.args.place.at c.requires in
    let start = member_offset-zero of.catalogue of.width c.args.place.s in
    let count = c.member_count-high.ensures in
    let inside = c.requires.inside in (
      omega (arith, some, count),
      omega (arith, count),
      omega (arith, start),
      rw count inside,
    )
