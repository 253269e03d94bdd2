use Rattle.bl_format.proofs.CatalogueRead.{IsCatalogue-can_be_read}
use Rattle.bl_layout.proofs.layout.Layout.struct_count.Goals as goal

pub struct_count-requires : goal.struct_count-requires
struct_count-requires c = IsCatalogue-can_be_read c.self.inside.catalogue c.self.invariant.has_layout.can_be_read
