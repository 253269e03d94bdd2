use Rattle.std.proofs.Common.{◌≡◌, ◌++◌, take}
use Rattle.std.specs.Prelude.{flat_map}
use Rattle.bl_num.specs.Numbers.{bytes_of}
use Rattle.bl_sdna.proofs.text.put_lengths.Given as goal

abbrev pub invariant-loop-entry : goal.invariant-loop-entry
invariant-loop-entry l = l.text.items ≡ l.initial.text.items ++ flat_map (λ t. bytes_of l.order 2 t.length) (take l.entry-index l.types)
