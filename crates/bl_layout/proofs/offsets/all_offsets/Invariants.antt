use Rattle.std.proofs.Common.{◌≡◌, ◌+◌, ◌<◌, None, map}
use Rattle.std.specs.Prelude.{All}
use Rattle.bl_format.specs.Words.{find_map, numbers_below}
use Rattle.bl_layout.specs.Check.{struct_fault, offsets_in}
use Rattle.bl_layout.specs.Graph.{links_of}
use Rattle.bl_layout.proofs.offsets.all_offsets.Given as goal

abbrev pub invariant-loop-s : goal.invariant-loop-s
invariant-loop-s l = record {
  none : find_map (struct_fault l.catalogue l.width) (numbers_below l.s) ≡ None;
  offsets : links_of l.offsets.items ≡ map (offsets_in l.catalogue l.width) (numbers_below l.s);
  fresh : All (λ m. m < l.s + 1) l.marks;
}
