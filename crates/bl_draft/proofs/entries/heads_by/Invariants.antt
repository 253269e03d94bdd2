use Rattle.std.proofs.Common.{◌≡◌, take}
use Rattle.bl_draft.specs.Own.{entry_heads}
use Rattle.bl_draft.proofs.entries.heads_by.Given as goal

abbrev pub invariant-loop-entry : goal.invariant-loop-entry
invariant-loop-entry l = l.heads.items ≡ entry_heads l.nodes (take l.entry-index l.entries)
