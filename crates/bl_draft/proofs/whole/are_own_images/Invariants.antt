use Rattle.std.proofs.Common.{◌≡◌, take}
use Rattle.bl_draft.specs.Whole.{all_images}
use Rattle.bl_draft.proofs.whole.are_own_images.Given as goal

abbrev pub invariant-loop-k : goal.invariant-loop-k
invariant-loop-k l = take l.k l.images ≡ all_images l.k
