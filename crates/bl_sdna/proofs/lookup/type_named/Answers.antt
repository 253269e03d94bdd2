use Rattle.std.proofs.Common.{length, ap, arith}
use Rattle.bl_format.proofs.CatalogueRead.{IsCatalogue-can_be_read}
use Rattle.bl_sdna.proofs.lookup.type_named.Goals as goal

pub overflow_cast-result : goal.overflow_cast-result
overflow_cast-result c = omega (arith, (IsCatalogue-can_be_read c.args.catalogue.now c.requires).few_types, c.loop-number-test.true, ap length c.as_slice-entry-items.ensures)
