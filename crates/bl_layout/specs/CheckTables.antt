-- What the checks of members look at beside the catalogue.
use Rattle.bl_format.specs.declared.catalogue.Catalogue.{Catalogue}
use Rattle.bl_layout.specs.declared.check_tables.CheckTables.{CheckTables}
use Rattle.bl_layout.specs.Tables.{AreTables, numbered}
use Rattle.bl_layout.specs.Identifiers.{AreIdentifierNumbers}
use Rattle.bl_layout.specs.Graph.{AreInnerStructs, AreRanks, links_of}

-- the parts are those of the catalogue
pub record IsCheckTables (c : Catalogue) (s : CheckTables) : Type 0 where
  pub tables : AreTables c s.tables
  pub identifiers : AreIdentifierNumbers (numbered c.names) s.identifiers.items
  pub inner : AreInnerStructs c s.inner.items
  pub ranks : AreRanks (links_of s.inner.items) s.ranks.items
