use Rattle.std.proofs.Common.{length, ap, arith}
use Rattle.bl_plan.proofs.NameLemmas.{all_known, is_catalogue}
use Rattle.bl_plan.proofs.names.known_structs.Goals as goal

pub overflow_cast-number-end : goal.overflow_cast-number-end
overflow_cast-number-end c = omega (arith, (is_catalogue c.args.catalogue.now c.requires).few_structs, ap length c.as_slice.ensures)

pub returns : goal.returns
returns c =
    all_known c.args.catalogue.now c.loop-number.known c.loop-number.number
    (omega (arith, c.loop-number-test.false, ap length c.as_slice.ensures)) c.loop-number.invariant
