use Rattle.std.proofs.Common.{sym}
use Rattle.std.proofs.lemmas.Result.{err_from_is_err_and}
use Rattle.bl_format.specs.Schema.{count_at}
use Rattle.bl_sdna.proofs.Many.{goes_on, ends, is_done, fails_exactly}
use Rattle.bl_sdna.proofs.lists.lengths.Goals as goal

pub returns-clause-read : goal.returns-clause-read
returns-clause-read c = is_done (count_at c.args.order 2 c.args.bytes.now) c.loop.lengths.items c.args.count c.loop.counter c.loop.place _ c.loop-test.false c.loop.invariant.whole

pub loop-preserved : goal.loop-preserved
loop-preserved c = record {
  within = c.in_ok-length.ensures.within;
  whole = rw c.in_ok-push.ensures.items (goes_on (count_at c.args.order 2 c.args.bytes.now) c.loop.lengths.items c.args.count c.loop.counter c.loop.place c.in_ok-length.length c.in_ok-length.after _ c.loop-test.true (sym c.in_ok-length.ensures.read) c.loop.invariant.whole);
}

pub returns-in_err-length-clause-read : goal.returns-in_err-length-clause-read
returns-in_err-length-clause-read c =
    let p = err_from_is_err_and c.from_residual.result c.from_residual.ensures.1 in
    rw (p.1, p.2) (ends (count_at c.args.order 2 c.args.bytes.now) c.in_err-length.field-0.0 c.loop.lengths.items c.args.count c.loop.counter c.loop.place _ c.loop-test.true (fails_exactly c.in_err-length.field-0.0 ((count_at c.args.order 2 c.args.bytes.now) c.loop.place) c.in_err-length.ensures.read) c.loop.invariant.whole)
