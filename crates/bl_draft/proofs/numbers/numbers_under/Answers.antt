use Rattle.std.proofs.Common.{length, ap, arith}
use Rattle.bl_plan.proofs.NameLemmas.{is_catalogue}
use Rattle.bl_draft.proofs.numbers.numbers_under.Goals as goal

pub overflow_cast-s-end : goal.overflow_cast-s-end
overflow_cast-s-end c = omega (arith, (is_catalogue c.args.from.now c.requires.from).few_structs, ap length c.as_slice-count.ensures)
