use Rattle.bl_draft.specs.Kept.{flag_at}
use Rattle.bl_draft.proofs.KeptLemmas.{ImagesSoFar}
use Rattle.bl_draft.proofs.kept.own_images.Given as goal

abbrev pub invariant-loop-is_kept : goal.invariant-loop-is_kept
invariant-loop-is_kept l = ImagesSoFar (flag_at l.kept) l.is_kept-index l.entries l.images.items
