use Rattle.bl_addresses.proofs.OrderLemmas.{members_moved}
use Rattle.bl_addresses.proofs.order.sort.Goals as goal

pub returns-else-not-are_sorted-clause-order : goal.returns-else-not-are_sorted-clause-order
returns-else-not-are_sorted-clause-order c scope marks members = record {
  members = members_moved scope marks _ _ c.sort_parts.ensures.moved members;
  sorted = c.are_sorted.ensures c.if-not-are_sorted.false;
}
