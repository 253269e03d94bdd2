use Rattle.std.proofs.Common.{◌≡◌, take}
use Rattle.bl_words.specs.Numbers.{capped_number}
use Rattle.bl_words.proofs.words.capped_number.Given as goal

abbrev pub invariant-loop-digit : goal.invariant-loop-digit
invariant-loop-digit l = l.number ≡ capped_number l.fn.greatest (take l.digit-index l.digits)
