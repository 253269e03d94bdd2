use Rattle.std.proofs.Common.{◌≡◌, ◌<◌, ◌^◌, take}
use Rattle.bl_format.specs.Members.{number_in}
use Rattle.bl_layout.proofs.member_names.number_in.Given as goal

abbrev pub invariant-loop-digit : goal.invariant-loop-digit
invariant-loop-digit l = record {
  value : l.number ≡ number_in (take l.digit-index l.digits);
  small : l.number < 10 ^ l.digit-index;
}
