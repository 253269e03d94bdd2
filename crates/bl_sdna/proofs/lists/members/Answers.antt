use Rattle.std.proofs.Common.{sym}
use Rattle.std.proofs.lemmas.Result.{err_from_is_err_and}
use Rattle.bl_format.specs.Schema.{member_at}
use Rattle.bl_sdna.proofs.Many.{goes_on, ends, is_done, fails_exactly}
use Rattle.bl_sdna.proofs.lists.members.Goals as goal

pub returns-clause-read : goal.returns-clause-read
returns-clause-read c = is_done (member_at c.args.order c.args.types c.args.names c.args.bytes.now) c.loop.members.items c.args.count c.loop.counter c.loop.place _ c.loop-test.false c.loop.invariant.whole

pub loop-preserved : goal.loop-preserved
loop-preserved c = record {
  within = c.in_ok-member.ensures.within;
  whole = rw c.in_ok-push.ensures.items (goes_on (member_at c.args.order c.args.types c.args.names c.args.bytes.now) c.loop.members.items c.args.count c.loop.counter c.loop.place c.in_ok-member.member c.in_ok-member.after _ c.loop-test.true (sym c.in_ok-member.ensures.read) c.loop.invariant.whole);
}

pub returns-in_err-member-clause-read : goal.returns-in_err-member-clause-read
returns-in_err-member-clause-read c =
    let p = err_from_is_err_and c.from_residual.result c.from_residual.ensures.1 in
    rw (p.1, p.2) (ends (member_at c.args.order c.args.types c.args.names c.args.bytes.now) c.in_err-member.field-0.0 c.loop.members.items c.args.count c.loop.counter c.loop.place _ c.loop-test.true (fails_exactly c.in_err-member.field-0.0 ((member_at c.args.order c.args.types c.args.names c.args.bytes.now) c.loop.place) c.in_err-member.ensures.read) c.loop.invariant.whole)
