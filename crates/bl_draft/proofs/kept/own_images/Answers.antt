use Rattle.std.proofs.Common.{ℕ, ◌+◌, List, sym, subst, arith}
use Rattle.bl_draft.specs.Kept.{flag_at}
use Rattle.bl_draft.proofs.KeptLemmas.{ImagesSoFar, images-more, count-few}
use Rattle.bl_draft.proofs.kept.own_images.Goals as goal

pub image_after-requires : goal.image_after-requires
image_after-requires c =
    omega (arith, count-few (flag_at c.args.kept.now) c.loop-is_kept.is_kept-index c.loop-is_kept.entries c.loop-is_kept.images.items c.loop-is_kept.invariant, c.loop-is_kept-test.true, c.requires)

pub count_after-entries-requires : goal.count_after-entries-requires
count_after-entries-requires c =
    omega (arith, count-few (flag_at c.args.kept.now) c.loop-is_kept.is_kept-index c.loop-is_kept.entries c.loop-is_kept.images.items c.loop-is_kept.invariant, c.loop-is_kept-test.true, c.requires)

pub loop-is_kept-preserved : goal.loop-is_kept-preserved
loop-is_kept-preserved c =
    let kept = flag_at c.args.kept.now in
    let i = c.loop-is_kept.is_kept-index in
    subst (ImagesSoFar kept (i + 1) c.count_after-entries.result) (sym {A = List ℕ} c.in_ok-push.ensures.items)
    (images-more kept i c.loop-is_kept.entries c.count_after-entries.result c.image_after.result
    c.loop-is_kept.images.items c.image_after.ensures c.count_after-entries.ensures c.loop-is_kept.invariant)
