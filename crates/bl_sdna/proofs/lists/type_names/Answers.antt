use Rattle.std.proofs.Common.{◌≡◌, ◌-◌, false, [], sym, ◌∙◌, arith}
use Rattle.std.proofs.lemmas.Result.{err_from_is_err_and}
use Rattle.std.specs.Str.{bytes_eq}
use Rattle.bl_sdna.specs.Lists.{has_name, type_name_at}
use Rattle.bl_sdna.proofs.Seen.{many_after, goes_on, ends, is_done, front_none, type_names}
use Rattle.bl_sdna.proofs.lists.type_names.Goals as goal

pub loop-init : goal.loop-init
loop-init c = let all : c.args.count - 0 ≡ c.args.count = omega arith in record {
  within = c.requires;
  whole = rw (c.new-names.ensures.items, c.new-seen.ensures.empty, all) (front_none (many_after (type_name_at c.args.bytes.now) bytes_eq (λ x. false) c.args.count c.args.at) ∙ sym (type_names c.args.bytes.now [] c.args.count c.args.at));
}

pub returns-clause-read : goal.returns-clause-read
returns-clause-read c = is_done (type_name_at c.args.bytes.now) bytes_eq c.loop.names.items (has_name c.loop.seen) c.args.count c.loop.counter c.loop.place _ c.loop-test.false c.loop.invariant.whole

pub loop-preserved : goal.loop-preserved
loop-preserved c = record {
  within = c.in_ok-name.ensures.within;
  whole = rw (c.in_ok-push.ensures.items, c.in_ok-from_slice.ensures) (goes_on (type_name_at c.args.bytes.now) bytes_eq c.loop.names.items (has_name c.loop.seen) (has_name c.type_name_at.new.seen) c.args.count c.loop.counter c.loop.place c.in_ok-name.name.now c.in_ok-name.after _ c.loop-test.true c.in_ok-name.ensures.read c.in_ok-name.ensures.seen c.loop.invariant.whole);
}

pub returns-in_err-name-clause-read : goal.returns-in_err-name-clause-read
returns-in_err-name-clause-read c =
    let p = err_from_is_err_and c.from_residual.result c.from_residual.ensures.1 in
    rw (p.1, p.2) (ends (type_name_at c.args.bytes.now) bytes_eq c.in_err-name.field-0.0 c.loop.names.items (has_name c.loop.seen) c.args.count c.loop.counter c.loop.place _ c.loop-test.true c.in_err-name.ensures.read c.loop.invariant.whole)
