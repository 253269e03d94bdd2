use Rattle.bl_plan.proofs.NameLemmas.{HasMembersBelow}
use Rattle.bl_plan.proofs.names.known_members.Given as goal

abbrev pub invariant-loop-member : goal.invariant-loop-member
invariant-loop-member l = HasMembersBelow l.layout.catalogue l.s l.member l.known
