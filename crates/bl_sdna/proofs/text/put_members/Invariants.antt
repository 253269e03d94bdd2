use Rattle.std.proofs.Common.{◌≡◌, ◌++◌, take}
use Rattle.std.specs.Prelude.{flat_map}
use Rattle.bl_format.specs.Schema.{member_written}
use Rattle.bl_sdna.proofs.text.put_members.Given as goal

abbrev pub invariant-loop-member : goal.invariant-loop-member
invariant-loop-member l = l.text.items ≡ l.initial.text.items ++ flat_map (member_written l.order) (take l.member-index l.members)
