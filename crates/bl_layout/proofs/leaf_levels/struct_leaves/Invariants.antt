use Rattle.std.proofs.Common.{◌≡◌}
use Rattle.std.specs.Prelude.{flat_map}
use Rattle.bl_format.specs.Words.{numbers_below}
use Rattle.bl_format.specs.Layout.{leaves_of}
use Rattle.bl_layout.specs.Leaves.{member_leaf_list}
use Rattle.bl_layout.proofs.leaf_levels.struct_leaves.Given as goal

abbrev pub invariant-loop-k : goal.invariant-loop-k
invariant-loop-k l = l.leaves.items ≡ flat_map (member_leaf_list (leaves_of l.catalogue l.width) l.catalogue l.width l.s) (numbers_below l.k)
