use Rattle.std.proofs.Common.{◌≡◌, take}
use Rattle.std.specs.Prelude.{map}
use Rattle.bl_draft.specs.Entries.{source_group}
use Rattle.bl_draft.proofs.entries.source_groups.Given as goal

abbrev pub invariant-loop-entry : goal.invariant-loop-entry
invariant-loop-entry l = l.groups.items ≡ map (source_group l.table) (take l.entry-index l.entries)
