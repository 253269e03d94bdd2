-- Which nodes are IDs, by a table of the structs that have the part of an ID.
use Rattle.std.specs.Prelude.{ℕ, ◌==◌, ◌&&◌, Bool, false, not, List, map, Option, Some, None, slice_index_or, codes}
use Rattle.std.specs.Str.{bytes_eq}
use Rattle.bl_format.specs.declared.file.Head.{Head}
use Rattle.bl_format.specs.declared.catalogue.Catalogue.{Catalogue}
use Rattle.bl_format.specs.Blocks.{is_two_letter}
use Rattle.bl_format.specs.Layout.{struct_name, struct_numbers}
use Rattle.bl_format.specs.Nodes.{has_id_part}

-- a struct is `ID`, where there is one
abbrev pub is_id_struct : Catalogue → Option ℕ → Bool
is_id_struct c None = false
is_id_struct c (Some s) = bytes_eq (struct_name c s) (codes "ID")

-- by the number of a struct, whether it has the part of an ID
abbrev pub id_parts : Catalogue → List Bool
id_parts c = map (has_id_part c) (struct_numbers c)

-- a node is an ID, by which structs have that part
abbrev pub is_id_by : List Bool → Head → Bool
is_id_by parts x =
    is_two_letter x.code && x.count == 1 && not (x.index == 0) && slice_index_or parts x.index false
