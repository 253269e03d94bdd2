use Rattle.std.proofs.lemmas.Result.{err_from_is_err_and}
use Rattle.bl_format.specs.Schema.{name_at}
use Rattle.bl_sdna.proofs.Many.{goes_on, ends, is_done}
use Rattle.bl_sdna.proofs.lists.names.Goals as goal

pub returns-clause-read : goal.returns-clause-read
returns-clause-read c = is_done (name_at c.args.bytes.now) c.loop.names.items c.args.count c.loop.counter c.loop.place _ c.loop-test.false c.loop.invariant.whole

pub loop-preserved : goal.loop-preserved
loop-preserved c = record {
  within = c.in_ok-name.ensures.within;
  whole = rw (c.in_ok-push.ensures.items, c.in_ok-from_slice.ensures) (goes_on (name_at c.args.bytes.now) c.loop.names.items c.args.count c.loop.counter c.loop.place c.in_ok-name.name.now c.in_ok-name.after _ c.loop-test.true c.in_ok-name.ensures.read c.loop.invariant.whole);
}

pub returns-in_err-name-clause-read : goal.returns-in_err-name-clause-read
returns-in_err-name-clause-read c =
    let p = err_from_is_err_and c.from_residual.result c.from_residual.ensures.1 in
    rw (p.1, p.2) (ends (name_at c.args.bytes.now) c.in_err-name.field-0.0 c.loop.names.items c.args.count c.loop.counter c.loop.place _ c.loop-test.true c.in_err-name.ensures.read c.loop.invariant.whole)
