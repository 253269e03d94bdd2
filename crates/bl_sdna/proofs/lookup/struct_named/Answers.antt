use Rattle.std.proofs.Common.{length, ap, arith}
use Rattle.bl_sdna.proofs.Readable.{struct_type_inside}
use Rattle.bl_format.proofs.CatalogueRead.{IsCatalogue-can_be_read}
use Rattle.bl_sdna.proofs.lookup.struct_named.Goals as goal

pub is_named-requires : goal.is_named-requires
is_named-requires c = struct_type_inside c.args.catalogue.now c.as_slice-entry-items.result.now c.loop-number.number c.entry-item.result c.requires c.as_slice-entry-items.ensures c.loop-number-test.true c.entry-item.is

pub overflow_cast-result : goal.overflow_cast-result
overflow_cast-result c = omega (arith, (IsCatalogue-can_be_read c.args.catalogue.now c.requires).few_structs, c.loop-number-test.true, ap length c.as_slice-entry-items.ensures)
