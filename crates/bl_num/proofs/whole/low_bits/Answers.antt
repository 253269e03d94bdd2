use Rattle.std.proofs.Common.{ap, ◌∙◌, ◌*◌}
use Rattle.std.specs.Int.RustNames.{bit_and}
use Rattle.std.proofs.lemmas.Nat.{and_mask}
use Rattle.bl_num.proofs.whole.low_bits.Goals as goal

pub returns : goal.returns
returns c = ap (bit_and c.args.value) c.all_bits.ensures ∙ and_mask c.args.value (8 * c.args.bytes)
