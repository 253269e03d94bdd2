use Rattle.std.proofs.Common.{◌≡◌, map}
use Rattle.bl_format.specs.Words.{numbers_below}
use Rattle.bl_selection.specs.Selection.{index_under}
use Rattle.bl_draft.proofs.numbers.numbers_under.Given as goal

abbrev pub invariant-loop-s : goal.invariant-loop-s
invariant-loop-s l = l.numbers.items ≡ map (index_under l.catalogue l.from) (numbers_below l.s)
