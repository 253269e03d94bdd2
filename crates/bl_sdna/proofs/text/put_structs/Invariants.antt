use Rattle.std.proofs.Common.{◌≡◌, ◌++◌, take}
use Rattle.std.specs.Prelude.{flat_map}
use Rattle.bl_format.specs.Schema.{struct_written}
use Rattle.bl_sdna.proofs.text.put_structs.Given as goal

abbrev pub invariant-loop-entry : goal.invariant-loop-entry
invariant-loop-entry l = l.text.items ≡ l.initial.text.items ++ flat_map (struct_written l.order) (take l.entry-index l.entries)
