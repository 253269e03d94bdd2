use Rattle.bl_format.proofs.CatalogueRead.{IsCatalogue-can_be_read}
use Rattle.bl_layout.proofs.layout.Layout.member_content.Goals as goal

pub member_content-requires-clause-catalogue : goal.member_content-requires-clause-catalogue
member_content-requires-clause-catalogue c = IsCatalogue-can_be_read c.self.inside.catalogue c.self.invariant.has_layout.can_be_read
