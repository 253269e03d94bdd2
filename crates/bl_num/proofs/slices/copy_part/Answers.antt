-- What a slice holds are bytes.
use Rattle.std.proofs.Common.{arith}
use Rattle.std.proofs.lemmas.List.{get_or_default}
use Rattle.bl_num.proofs.slices.copy_part.Goals as goal

pub returns-clause-below : goal.returns-clause-below
returns-clause-below c = λ k d lt. let same = get_or_default c.args.bytes.now k d 0 lt in let byte = c.type_inv.bytes k in omega (arith, same, byte)
