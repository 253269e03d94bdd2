use Rattle.bl_format.proofs.CatalogueRead.{IsCatalogue-can_be_read}
use Rattle.bl_layout.proofs.layout.Layout.member_key.Goals as goal

pub member_key-requires-clause-catalogue : goal.member_key-requires-clause-catalogue
member_key-requires-clause-catalogue c = IsCatalogue-can_be_read c.self.inside.catalogue c.self.invariant.has_layout.can_be_read
