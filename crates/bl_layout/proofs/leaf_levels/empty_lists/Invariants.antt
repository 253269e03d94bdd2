use Rattle.std.proofs.Common.{◌≡◌, length}
use Rattle.bl_layout.proofs.leaf_levels.empty_lists.Given as goal

abbrev pub invariant-loop : goal.invariant-loop
invariant-loop l = length l.table.items ≡ l.counter
