use Rattle.std.proofs.Common.{◌≡◌, ◌<◌, length, ap, sym, arith}
use Rattle.bl_layout.proofs.CountLemmas.{AreFew-none, AreFew-push, AreFew-over, AreFew-all, count_at, leaf_counts-len, leaf_count-small}
use Rattle.bl_layout.proofs.leaf_counts.leaves_fault.Goals as goal

pub loop-count-init : goal.loop-count-init
loop-count-init c = AreFew-none c.args.catalogue.now c.args.width

pub overflow_add-leaves : goal.overflow_add-leaves
overflow_add-leaves c =
    let cat = c.args.catalogue.now in
    let w = c.args.width in
    let s = c.loop-count.count-index in
    let inside : s < length cat.structs = omega (arith, c.loop-count-test.true, ap length c.requires.counts, leaf_counts-len cat w) in
    omega (arith, c.loop-count.invariant.small, count_at cat w c.args.counts.now s 0 c.requires.counts inside, leaf_count-small cat w s c.requires.catalogue c.requires.members inside)

pub returns-then-leaves-gt-MAX_LEAVES : goal.returns-then-leaves-gt-MAX_LEAVES
returns-then-leaves-gt-MAX_LEAVES c =
    let cat = c.args.catalogue.now in
    let w = c.args.width in
    let s = c.loop-count.count-index in
    let inside : s < length cat.structs = omega (arith, c.loop-count-test.true, ap length c.requires.counts, leaf_counts-len cat w) in
    sym (AreFew-over cat w s _ c.loop-count.leaves c.loop-count.invariant (count_at cat w c.args.counts.now s 0 c.requires.counts inside) inside c.if-leaves-gt-MAX_LEAVES.true)

pub loop-count-preserved : goal.loop-count-preserved
loop-count-preserved c =
    let cat = c.args.catalogue.now in
    let w = c.args.width in
    let s = c.loop-count.count-index in
    let inside : s < length cat.structs = omega (arith, c.loop-count-test.true, ap length c.requires.counts, leaf_counts-len cat w) in
    AreFew-push cat w s _ c.loop-count.leaves c.loop-count.invariant (count_at cat w c.args.counts.now s 0 c.requires.counts inside) c.if-leaves-gt-MAX_LEAVES.false

pub returns : goal.returns
returns c =
    let cat = c.args.catalogue.now in
    let w = c.args.width in
    let all : c.loop-count.count-index ≡ length cat.structs = omega (arith, c.loop-count-test.false, c.loop-count.auto.count-index-end, ap length c.requires.counts, leaf_counts-len cat w) in
    sym (AreFew-all cat w c.loop-count.count-index c.loop-count.leaves c.loop-count.invariant all)
