use Rattle.std.proofs.Common.{◌≡◌, ◌≤◌, ◌^◌, take, map}
use Rattle.std.specs.Prelude.{fold, max, slice_index}
use Rattle.bl_layout.proofs.nesting.deeper_by_one.Given as goal

abbrev pub invariant-loop-t : goal.invariant-loop-t
invariant-loop-t l = record {
  deepest : l.deepest ≡ fold max 0 (map (slice_index l.nestings) (take l.t-index l.row));
  small : l.deepest ≤ 2 ^ 32;
}
