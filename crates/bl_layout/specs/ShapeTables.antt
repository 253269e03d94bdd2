-- What the shapes of members, and the leaves of structs, are made from.
use Rattle.std.specs.Prelude.{◌≡◌}
use Rattle.bl_num.specs.declared.number.Width.{Width}
use Rattle.bl_format.specs.declared.catalogue.Catalogue.{Catalogue}
use Rattle.bl_layout.specs.declared.shape_tables.ShapeTables.{ShapeTables}
use Rattle.bl_layout.specs.declared.shape_tables.LayoutTables.{LayoutTables}
use Rattle.bl_layout.specs.Tables.{AreTables}
use Rattle.bl_layout.specs.Check.{AreOffsets}
use Rattle.bl_layout.specs.Nesting.{nestings_in}

-- the parts are those of the catalogue at the width
pub record IsShapeTables (c : Catalogue) (w : Width) (f : ShapeTables) : Type 0 where
  pub tables : AreTables c f.tables
  pub offsets : AreOffsets c w f.offsets.items

-- and so are the nestings of its structs
pub record IsLayoutTables (c : Catalogue) (w : Width) (g : LayoutTables) : Type 0 where
  pub shape_tables : IsShapeTables c w g.shape_tables
  pub nestings : g.nestings.items ≡ nestings_in c
