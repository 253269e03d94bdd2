use Rattle.std.proofs.Common.{suc, arith}
use Rattle.bl_draft.proofs.AllNodes.{differs-by}
use Rattle.bl_draft.proofs.whole.are_own_images.Goals as goal

pub returns-then-image-k : goal.returns-then-image-k
returns-then-image-k c = (
  λ none. absurd (cc),
  λ all. absurd (differs-by (λ k. suc k) c.args.images.now c.loop-k.k c.args.count 0 c.loop-k-test.true
      (λ is. omega (arith, c.if-image-k.true, is)) all),
)
