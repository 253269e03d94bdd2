use Rattle.std.proofs.Common.{◌+◌, List, length, sym, subst, ◌∙◌, arith}
use Rattle.bl_format.specs.declared.raw.RawKind.{RawKind}
use Rattle.bl_file.proofs.KindLemmas.{KindsSoFar, viewed-long, kinds-more, kinds-all, kinds-long}
use Rattle.bl_file.proofs.PairLemmas.{pairs_long}
use Rattle.bl_file.proofs.kinds.kinds_by.Goals as goal

pub bounds-viewed-k : goal.bounds-viewed-k
bounds-viewed-k c =
    let long = viewed-long c.args.seen.now (length c.args.nodes.now) c.as_slice-viewed.result.now (c.as_slice-viewed.ensures.value ∙ c.in-Ok.ensures) in
    omega (arith, long, c.loop-k-test.true)

pub loop-k-preserved : goal.loop-k-preserved
loop-k-preserved c =
    let nodes = c.args.nodes.now in
    let seen = c.args.seen.now in
    let k = c.loop-k.k in
    subst (KindsSoFar nodes seen (k + 1)) (sym {A = List RawKind} c.in_ok-push.ensures.items)
    (kinds-more nodes seen c.as_slice-viewed.result.now c.loop-k.kinds.items k _ _ c.kind_by.result
    (c.as_slice-viewed.ensures.value ∙ c.in-Ok.ensures) c.loop-k-test.true c.kind_by.ensures c.loop-k.invariant)

pub returns-clause-len : goal.returns-clause-len
returns-clause-len c =
    kinds-long c.args.nodes.now c.args.seen.now c.loop-k.kinds.items
    (kinds-all c.args.nodes.now c.args.seen.now c.loop-k.kinds.items c.loop-k.k (omega (arith, c.loop-k-test.false)) c.loop-k.invariant)

pub returns-clause-pairs : goal.returns-clause-pairs
returns-clause-pairs c =
    pairs_long c.args.nodes.now c.args.seen.now c.loop-k.kinds.items
    (kinds-all c.args.nodes.now c.args.seen.now c.loop-k.kinds.items c.loop-k.k (omega (arith, c.loop-k-test.false)) c.loop-k.invariant)
