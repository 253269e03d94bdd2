use Rattle.std.proofs.Common.{◌≡◌}
use Rattle.bl_layout.proofs.NestingLemmas.{nestings_within}
use Rattle.bl_layout.proofs.nesting.nestings_by_rounds.Given as goal

abbrev pub invariant-loop : goal.invariant-loop
invariant-loop l = l.nestings.items ≡ nestings_within l.counter l.catalogue
