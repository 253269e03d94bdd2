use Rattle.std.proofs.Common.{◌≡◌, ◌-◌, false, [], sym, ◌∙◌, arith}
use Rattle.std.proofs.lemmas.Result.{err_from_is_err_and}
use Rattle.std.specs.BTreeSet.{contains}
use Rattle.std.specs.Ordering.{nat_cmp}
use Rattle.bl_sdna.specs.Lists.{struct_at}
use Rattle.bl_sdna.proofs.Seen.{many_after, goes_on, ends, is_done, front_none, is_type_of, structs}
use Rattle.bl_sdna.proofs.lists.structs.Goals as goal

pub loop-init : goal.loop-init
loop-init c = let all : c.args.count - 0 ≡ c.args.count = omega arith in record {
  within = c.requires;
  whole = rw (c.new-structs.ensures.items, c.new-seen.ensures.empty, all) (front_none (many_after (struct_at c.args.order c.args.types c.args.names c.args.bytes.now) is_type_of (λ x. false) c.args.count c.args.at) ∙ sym (structs c.args.order c.args.types c.args.names c.args.bytes.now [] c.args.count c.args.at));
}

pub returns-clause-read : goal.returns-clause-read
returns-clause-read c = is_done (struct_at c.args.order c.args.types c.args.names c.args.bytes.now) is_type_of c.loop.structs.items (contains nat_cmp c.loop.seen) c.args.count c.loop.counter c.loop.place _ c.loop-test.false c.loop.invariant.whole

pub loop-preserved : goal.loop-preserved
loop-preserved c = record {
  within = c.in_ok-entry.ensures.within;
  whole = rw (c.in_ok-push.ensures.items) (goes_on (struct_at c.args.order c.args.types c.args.names c.args.bytes.now) is_type_of c.loop.structs.items (contains nat_cmp c.loop.seen) (contains nat_cmp c.struct_at.new.seen) c.args.count c.loop.counter c.loop.place c.in_ok-entry.entry c.in_ok-entry.after _ c.loop-test.true c.in_ok-entry.ensures.read c.in_ok-entry.ensures.seen c.loop.invariant.whole);
}

pub returns-in_err-entry-clause-read : goal.returns-in_err-entry-clause-read
returns-in_err-entry-clause-read c =
    let p = err_from_is_err_and c.from_residual.result c.from_residual.ensures.1 in
    rw (p.1, p.2) (ends (struct_at c.args.order c.args.types c.args.names c.args.bytes.now) is_type_of c.in_err-entry.field-0.0 c.loop.structs.items (contains nat_cmp c.loop.seen) c.args.count c.loop.counter c.loop.place _ c.loop-test.true c.in_err-entry.ensures.read c.loop.invariant.whole)
