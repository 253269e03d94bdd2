use Rattle.bl_plan.proofs.NameLemmas.{HasStructsBelow}
use Rattle.bl_plan.proofs.names.known_structs.Given as goal

abbrev pub invariant-loop-number : goal.invariant-loop-number
invariant-loop-number l = HasStructsBelow l.catalogue l.number l.known
