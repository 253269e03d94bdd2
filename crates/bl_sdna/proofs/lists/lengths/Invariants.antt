use Rattle.std.proofs.Common.{◌≡◌, ◌≤◌, ◌-◌, length}
use Rattle.bl_format.specs.Schema.{count_at, many_at}
use Rattle.bl_sdna.proofs.Many.{with_front}
use Rattle.bl_sdna.proofs.lists.lengths.Given as goal

-- what was read and what is still to be read is all that is read
abbrev pub invariant-loop : goal.invariant-loop
invariant-loop l = record {
  within : l.place ≤ length l.bytes;
  whole : with_front l.lengths.items (many_at (count_at l.order 2 l.bytes) (l.count - l.counter) l.place) ≡ many_at (count_at l.order 2 l.bytes) l.count l.at;
}
