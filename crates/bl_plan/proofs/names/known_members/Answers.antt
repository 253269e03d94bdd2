use Rattle.std.proofs.Common.{arith}
use Rattle.bl_plan.proofs.NameLemmas.{one_member_known, all_members_known}
use Rattle.bl_plan.proofs.names.known_members.Goals as goal

pub loop-member-preserved : goal.loop-member-preserved
loop-member-preserved c =
    one_member_known c.args.layout.now.catalogue c.args.s c.loop-member.known c.learn.new.known c.member_key.result.now c.loop-member.member
    (omega (arith, c.loop-member-test.true, c.member_count-member-end.ensures)) c.member_key.ensures c.in_ok-learn.ensures c.loop-member.invariant

pub returns : goal.returns
returns c =
    all_members_known c.args.layout.now.catalogue c.args.s c.loop-member.known c.loop-member.member
    (omega (arith, c.loop-member-test.false, c.member_count-member-end.ensures)) c.loop-member.invariant
