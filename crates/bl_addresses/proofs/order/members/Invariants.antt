use Rattle.bl_addresses.specs.Marks.{marks_by}
use Rattle.bl_addresses.proofs.OrderLemmas.{HasMembersBelow}
use Rattle.bl_addresses.proofs.order.members.Given as goal

abbrev pub invariant-loop-n : goal.invariant-loop-n
invariant-loop-n l = HasMembersBelow l.scope (marks_by l.groups l.addresses l.ids) l.n l.rows.items
