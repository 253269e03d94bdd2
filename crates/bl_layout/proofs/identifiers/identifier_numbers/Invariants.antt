use Rattle.bl_layout.specs.Identifiers.{known_number}
use Rattle.bl_layout.proofs.IdentifierLemmas.{Knows}
use Rattle.bl_layout.proofs.identifiers.identifier_numbers.Given as goal

abbrev pub invariant-loop-i : goal.invariant-loop-i
invariant-loop-i l = Knows l.names (known_number l.known) l.numbers.items l.i
