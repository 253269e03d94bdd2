use Rattle.bl_layout.proofs.DuplicateLemmas.{AreMarks}
use Rattle.bl_layout.proofs.duplicates.first_duplicate.Given as goal

abbrev pub invariant-loop-k : goal.invariant-loop-k
invariant-loop-k l = AreMarks l.identifiers l.members l.mark l.marks l.k
