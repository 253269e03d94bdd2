use Rattle.std.proofs.Common.{◌≡◌, ◌≤◌, ◌-◌, [], length}
use Rattle.std.specs.BTreeSet.{contains}
use Rattle.std.specs.Ordering.{nat_cmp}
use Rattle.bl_format.specs.Schema.{structs_at}
use Rattle.bl_sdna.specs.Lists.{struct_at}
use Rattle.bl_sdna.proofs.Many.{with_front}
use Rattle.bl_sdna.proofs.Seen.{many_after, is_type_of}
use Rattle.bl_sdna.proofs.lists.structs.Given as goal

-- what was read and what is still to be read is all that is read
abbrev pub invariant-loop : goal.invariant-loop
invariant-loop l = record {
  within : l.place ≤ length l.bytes;
  whole : with_front l.structs.items (many_after (struct_at l.order l.types l.names l.bytes) is_type_of (contains nat_cmp l.seen) (l.count - l.counter) l.place) ≡ (structs_at l.order l.types l.names l.bytes [] l.count l.at);
}
