-- The tables of a catalogue's names and types.
use Rattle.std.specs.Prelude.{◌≡◌, ◌^◌, List, map, take}
use Rattle.bl_format.specs.declared.catalogue.Catalogue.{Catalogue}
use Rattle.bl_layout.specs.declared.tables.Tables.{Tables}
use Rattle.bl_layout.specs.MemberNames.{entry_of_name}
use Rattle.bl_layout.specs.BasicTypes.{AreContents}

-- the first of some names or types: those that a number of 16 bits may mean
unfoldable pub numbered : {A : Type 0} → List A → List A
numbered xs = take (2 ^ 16) xs

-- the tables are those of the catalogue's names and types that a number may mean
pub record AreTables (c : Catalogue) (t : Tables) : Type 0 where
  pub names : t.names.items ≡ map entry_of_name (numbered c.names)
  pub contents : AreContents (numbered c.types) c.structs t.contents.items
