-- What contracts see of a layout, and what its parts are.
use Rattle.std.specs.Prelude.{◌≡◌, List, map}
use Rattle.std.specs.declared.vec.Vec.{Vec}
use Rattle.std.specs.declared.alloc.Global.{Global}
use Rattle.bl_num.specs.declared.number.Width.{Width}
use Rattle.bl_format.specs.declared.catalogue.Catalogue.{Catalogue}
use Rattle.bl_format.specs.declared.layout.Leaf.{Leaf}
use Rattle.bl_format.specs.Layout.{HasLayout, leaves_of, struct_numbers}
use Rattle.bl_layout.specs.declared.shape_tables.ShapeTables.{ShapeTables}
use Rattle.bl_layout.specs.Leaves.{lists_of}
use Rattle.bl_layout.specs.ShapeTables.{IsShapeTables}

-- a catalogue and the width of the pointers in its structs
pub record LaidOut : Type 0 where
  pub catalogue : Catalogue
  pub width : Width

-- the lists of leaves are those of all structs
abbrev pub AreLeaves : Catalogue → Width → List (Vec Leaf Global) → Type 0
AreLeaves c w leaves = lists_of leaves ≡ map (leaves_of c w) (struct_numbers c)

-- the catalogue has a layout at the width, and these are its parts
pub record IsLaidOut (c : Catalogue) (w : Width) (f : ShapeTables) (table : List (Vec Leaf Global)) : Type 0 where
  pub has_layout : HasLayout c w
  pub shape_tables : IsShapeTables c w f
  pub leaves : AreLeaves c w table
