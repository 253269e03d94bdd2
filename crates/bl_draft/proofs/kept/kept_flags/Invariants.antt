use Rattle.bl_draft.specs.Kept.{file_of}
use Rattle.bl_draft.proofs.KeptLemmas.{KeptSoFar}
use Rattle.bl_draft.proofs.kept.kept_flags.Given as goal

abbrev pub invariant-loop-node : goal.invariant-loop-node
invariant-loop-node l = KeptSoFar l.catalogue (file_of l.nodes l.from) l.node-index l.stays l.kept.items
