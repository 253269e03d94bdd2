use Rattle.std.proofs.Common.{◌≡◌, pos, ◌-ℤ◌, arith}
use Rattle.std.proofs.lemmas.Int.{ints}
use Rattle.bl_num.specs.Numbers.{number_meant}
use Rattle.bl_num.proofs.SignedBits.{meant_after}
use Rattle.bl_num.proofs.whole.value_of.Goals as goal

pub returns : goal.returns
unfolding number_meant
returns c =
    let value : pos c.low_bits-shifted.result -ℤ pos c.sign_bit-sign.result ≡ number_meant c.args.of c.args.value =
    meant_after c.args.of.signed c.args.value c.args.of.bytes c.sign_bit-sign.result c.low_bits-shifted.result c.requires c.sign_bit-sign.ensures c.low_bits-shifted.ensures in
    omega (arith, ints, value, c.from.ensures, c.from-2.ensures, c.low_bits-shifted.type_inv, c.sign_bit-sign.type_inv)
