use Rattle.std.proofs.Common.{◌∙◌}
use Rattle.bl_num.specs.Numbers.{number_meant, cast_of}
use Rattle.bl_num.proofs.SignedBits.{carried_after}
use Rattle.bl_num.proofs.whole.cast.Goals as goal

pub returns : goal.returns
unfolding number_meant cast_of
returns c =
    c.low_bits.ensures
    ∙ carried_after c.args.from.signed c.args.value c.args.from.bytes c.args.to.bytes c.sign_bit-sign.result c.low_bits-shifted.result c.requires.from_length c.requires.to_length c.sign_bit-sign.ensures c.low_bits-shifted.ensures
