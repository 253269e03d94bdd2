use Rattle.std.proofs.Common.{length, ◌-◌}
use Rattle.std.specs.Prelude.{IsPermutation}
use Rattle.bl_addresses.proofs.order.sort_parts.Given as goal

abbrev pub invariant-loop-from : goal.invariant-loop-from
invariant-loop-from l = IsPermutation l.fn.rows l.rows

abbrev pub decreases-loop-from : goal.decreases-loop-from
decreases-loop-from l = length l.initial.rows - l.from
