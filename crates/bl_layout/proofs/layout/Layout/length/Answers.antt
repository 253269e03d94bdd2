use Rattle.bl_format.proofs.CatalogueRead.{IsCatalogue-can_be_read}
use Rattle.bl_layout.proofs.layout.Layout.length.Goals as goal

pub struct_length-requires-clause-catalogue : goal.struct_length-requires-clause-catalogue
struct_length-requires-clause-catalogue c = IsCatalogue-can_be_read c.self.inside.catalogue c.self.invariant.has_layout.can_be_read
