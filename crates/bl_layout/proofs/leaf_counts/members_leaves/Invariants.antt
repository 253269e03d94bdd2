use Rattle.std.proofs.Common.{◌≡◌, ◌≤◌, ◌*◌, ◌^◌, take}
use Rattle.std.specs.Prelude.{slice_index}
use Rattle.bl_layout.specs.Counts.{count_of_members}
use Rattle.bl_layout.proofs.leaf_counts.members_leaves.Given as goal

abbrev pub invariant-loop-member : goal.invariant-loop-member
invariant-loop-member l = record {
  leaves : l.leaves ≡ count_of_members (slice_index l.counts) l.catalogue l.width (take l.member-index l.members);
  small : l.leaves ≤ l.member-index * 2 ^ 48;
}
