use Rattle.bl_draft.proofs.SpeakersMade.{UsedSoFar}
use Rattle.bl_draft.proofs.speakers.used_structs.Given as goal

abbrev pub invariant-loop-head : goal.invariant-loop-head
invariant-loop-head l = UsedSoFar l.count l.heads l.head-index l.used.items
