use Rattle.std.proofs.Common.{◌≡◌, map}
use Rattle.std.specs.Prelude.{sum, slice_index}
use Rattle.bl_format.specs.Words.{numbers_below}
use Rattle.bl_format.specs.Layout.{member_offset}
use Rattle.bl_format.specs.Rewidth.{new_size}
use Rattle.bl_layout.proofs.new_lengths.next_length.Given as goal

abbrev pub invariant-loop-k : goal.invariant-loop-k
invariant-loop-k l = record {
  old : l.old ≡ member_offset l.layout.catalogue l.layout.width l.fn.s l.k;
  new : l.new ≡ sum (map (new_size (slice_index l.lengths) l.layout.catalogue l.to l.fn.s) (numbers_below l.k));
}
