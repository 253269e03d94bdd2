use Rattle.bl_file.proofs.KindLemmas.{KindsSoFar}
use Rattle.bl_file.proofs.kinds.kinds_by.Given as goal

abbrev pub invariant-loop-k : goal.invariant-loop-k
invariant-loop-k l = KindsSoFar l.nodes l.seen l.k l.kinds.items
