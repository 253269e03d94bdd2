use Rattle.std.proofs.Common.{◌≡◌, ◌≤◌, ◌-◌, [], length}
use Rattle.bl_format.specs.Schema.{type_names_at}
use Rattle.std.specs.Str.{bytes_eq}
use Rattle.bl_sdna.specs.Lists.{has_name, type_name_at}
use Rattle.bl_sdna.proofs.Many.{with_front}
use Rattle.bl_sdna.proofs.Seen.{many_after}
use Rattle.bl_sdna.proofs.lists.type_names.Given as goal

-- what was read and what is still to be read is all that is read
abbrev pub invariant-loop : goal.invariant-loop
invariant-loop l = record {
  within : l.place ≤ length l.bytes;
  whole : with_front l.names.items (many_after (type_name_at l.bytes) bytes_eq (has_name l.seen) (l.count - l.counter) l.place) ≡ (type_names_at l.bytes [] l.count l.at);
}
