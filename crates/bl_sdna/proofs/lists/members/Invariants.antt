use Rattle.std.proofs.Common.{◌≡◌, ◌≤◌, ◌-◌, length}
use Rattle.bl_format.specs.Schema.{many_at, member_at}
use Rattle.bl_sdna.proofs.Many.{with_front}
use Rattle.bl_sdna.proofs.lists.members.Given as goal

-- what was read and what is still to be read is all that is read
abbrev pub invariant-loop : goal.invariant-loop
invariant-loop l = record {
  within : l.place ≤ length l.bytes;
  whole : with_front l.members.items (many_at (member_at l.order l.types l.names l.bytes) (l.count - l.counter) l.place) ≡ many_at (member_at l.order l.types l.names l.bytes) l.count l.at;
}
