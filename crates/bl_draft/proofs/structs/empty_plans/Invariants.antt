use Rattle.std.proofs.Common.{◌≡◌, length}
use Rattle.bl_draft.proofs.structs.empty_plans.Given as goal

abbrev pub invariant-loop : goal.invariant-loop
invariant-loop l = length l.plans.items ≡ l.counter
