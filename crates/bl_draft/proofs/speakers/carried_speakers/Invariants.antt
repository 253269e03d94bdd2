use Rattle.bl_draft.proofs.SpeakersMade.{SpeakersSoFar}
use Rattle.bl_draft.proofs.speakers.carried_speakers.Given as goal

abbrev pub invariant-loop-s : goal.invariant-loop-s
invariant-loop-s l = SpeakersSoFar l.prepared.outline.now l.prepared.draft.now l.used.items l.s l.speakers.items
