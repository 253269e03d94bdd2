use Rattle.bl_format.proofs.MemberPasses.{first_fault-none}
use Rattle.bl_format.proofs.CatalogueRead.{IsCatalogue-can_be_read}
use Rattle.bl_layout.proofs.ShapeLemmas.{shape_with-shape_of}
use Rattle.bl_layout.proofs.shapes.member_shape.Goals as goal

pub entry_of-entry-requires-clause-catalogue : goal.entry_of-entry-requires-clause-catalogue
entry_of-entry-requires-clause-catalogue c = IsCatalogue-can_be_read c.args.catalogue.now c.requires.has_layout.can_be_read

pub part_of-part-requires-clause-catalogue : goal.part_of-part-requires-clause-catalogue
part_of-part-requires-clause-catalogue c = IsCatalogue-can_be_read c.args.catalogue.now c.requires.has_layout.can_be_read

pub part_of-part-requires-clause-members : goal.part_of-part-requires-clause-members
part_of-part-requires-clause-members c = first_fault-none c.args.catalogue.now c.args.width c.requires.has_layout.no_fault

pub returns : goal.returns
returns c =
    rw (c.shape_with.ensures, c.short_name-name.ensures.is, c.part_of-part.ensures.part, c.inner_struct-inner.ensures, c.entry_of-entry.ensures.entry)
    (shape_with-shape_of c.args.catalogue.now c.args.width c.args.s c.args.member)
