use Rattle.std.proofs.Common.{◌<◌, length, arith}
use Rattle.bl_draft.proofs.ListLemmas.{same-more}
use Rattle.bl_draft.proofs.own.have_same_members.Goals as goal

pub loop-k-preserved : goal.loop-k-preserved
loop-k-preserved c =
    let below : c.loop-k.k < length c.args.others.now = omega (arith, c.loop-k-test.true, c.if-members-others.false) in
    same-more c.args.members.now c.args.others.now c.loop-k.k _ _ c.loop-k-test.true below
    (c.is_same_member.ensures.0 c.if-not-is_same_member.false) c.loop-k.invariant
