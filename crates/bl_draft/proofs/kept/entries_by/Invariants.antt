use Rattle.std.proofs.Common.{◌≡◌}
use Rattle.bl_draft.specs.Kept.{flag_at, entries_by}
use Rattle.bl_draft.proofs.kept.entries_by.Given as goal

abbrev pub invariant-loop-n : goal.invariant-loop-n
invariant-loop-n l = l.entries.items ≡ entries_by (flag_at l.kept) l.n
