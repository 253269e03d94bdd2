use Rattle.std.proofs.Common.{◌≡◌, ◌++◌, take}
use Rattle.std.specs.Prelude.{flat_map}
use Rattle.bl_format.specs.Schema.{name_written}
use Rattle.bl_sdna.proofs.text.put_type_names.Given as goal

abbrev pub invariant-loop-entry : goal.invariant-loop-entry
invariant-loop-entry l = l.text.items ≡ l.initial.text.items ++ flat_map (λ t. name_written t.name) (take l.entry-index l.types)
