use Rattle.std.proofs.Common.{arith}
use Rattle.bl_words.proofs.words.capped_number.Goals as goal

pub overflow_mul-next : goal.overflow_mul-next
overflow_mul-next c = omega (arith, c.loop-digit.invariant, c.ranges.greatest)
