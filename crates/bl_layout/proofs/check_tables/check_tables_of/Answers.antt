use Rattle.std.proofs.Common.{arith}
use Rattle.bl_layout.proofs.GraphLemmas.{links_inside}
use Rattle.bl_layout.proofs.NumberedLemmas.{length-numbered}
use Rattle.bl_layout.proofs.check_tables.check_tables_of.Goals as goal

pub identifier_numbers-requires-clause-few : goal.identifier_numbers-requires-clause-few
identifier_numbers-requires-clause-few c =
    rw (c.numbered-names.ensures, c.as_slice.ensures) (omega (arith, length-numbered c.args.catalogue.now.names))

pub ranks_of-requires-clause-inside : goal.ranks_of-requires-clause-inside
ranks_of-requires-clause-inside c = rw c.deref.ensures.value (links_inside c.args.catalogue.now c.in_ok-inner.inner.items c.in_ok-inner.ensures)
