use Rattle.bl_layout.proofs.ReadLemmas.{can_be_read-short_names}
use Rattle.bl_format.proofs.CatalogueRead.{IsCatalogue-can_be_read}
use Rattle.bl_layout.proofs.layout.tables_and_leaves.Goals as goal

pub checked_layout_tables-requires : goal.checked_layout_tables-requires
checked_layout_tables-requires c = IsCatalogue-can_be_read c.args.catalogue.now c.requires

pub leaf_table-requires-clause-catalogue : goal.leaf_table-requires-clause-catalogue
leaf_table-requires-clause-catalogue c = IsCatalogue-can_be_read c.args.catalogue.now c.requires

pub leaf_table-requires-clause-names : goal.leaf_table-requires-clause-names
leaf_table-requires-clause-names c = can_be_read-short_names c.args.catalogue.now c.requires
