use Rattle.std.proofs.Common.{◌≡◌, take}
use Rattle.bl_num.specs.declared.number.Width.{Width}
use Rattle.bl_format.specs.Rewidth.{rewidth}
use Rattle.bl_layout.specs.NewLengths.{new_lengths}
use Rattle.bl_layout.proofs.new_width.types_with.Given as goal

abbrev pub invariant-loop-t : goal.invariant-loop-t
invariant-loop-t l = (from to : Width) → l.fn.lengths ≡ new_lengths l.fn.catalogue from to → l.types.items ≡ take l.t (rewidth l.fn.catalogue from to).types
