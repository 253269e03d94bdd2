use Rattle.std.proofs.Common.{◌∙◌, sym, arith}
use Rattle.bl_addresses.specs.Marks.{mark_of, marks_by}
use Rattle.bl_addresses.proofs.MarkLemmas.{length-marks_by}
use Rattle.bl_addresses.proofs.OrderLemmas.{members_push, members_skip, members_all}
use Rattle.bl_addresses.proofs.order.members.Goals as goal
use Rattle.bl_addresses.proofs.order.members.Goals.{then-is_member+in_ok-push, else-is_member}

pub loop-n-preserved : goal.loop-n-preserved
loop-n-preserved c =
    let scope = c.args.scope in
    let marks = marks_by c.args.groups.now c.args.addresses.now c.args.ids.now in
    let n = c.loop-n.n in
    let rows = c.loop-n.rows.items in
    let mark = mark_of c.mark_at-mark.result in
    let long = length-marks_by c.args.groups.now c.args.addresses.now c.args.ids.now c.requires.addresses c.requires.ids in
    let test = c.loop-n-test.true in
    elim c.if-is_member.branch [
      | then-is_member+in_ok-push w ↦
          rw (
            w.rows-is,
            w.in_ok-push.ensures.items,
            w.row_of.ensures,
          ) (members_push scope marks n rows mark (omega (arith, long, test)) c.mark_at-mark.ensures
          (sym c.is_member.ensures ∙ w.if-is_member.true) c.loop-n.invariant)
      | else-is_member w ↦
          rw w.rows-is (members_skip scope marks n rows mark c.mark_at-mark.ensures
          (sym c.is_member.ensures ∙ w.if-is_member.false) c.loop-n.invariant)
    ]

pub returns : goal.returns
returns c =
    let marks = marks_by c.args.groups.now c.args.addresses.now c.args.ids.now in
    let long = length-marks_by c.args.groups.now c.args.addresses.now c.args.ids.now c.requires.addresses c.requires.ids in
    let end = c.loop-n-test.false in
    members_all c.args.scope marks c.loop-n.n c.loop-n.rows.items (omega (arith, long, end)) c.loop-n.invariant
