-- What list prints: a line for each ID. This project's own.
use Rattle.std.specs.Prelude.{ℕ, [], ◌∷◌, ◌++◌, flat_map, codes, decimal}
use Rattle.bl_format.specs.declared.catalogue.Catalogue.{Catalogue}
use Rattle.bl_linking.specs.References.{Graph, node_in, node_code, node_struct, node_is_id, nodes_where, full_name, users_of}
use Rattle.bl_commands.specs.Texts.{Text, shown_bytes, shown_code, quoted_bytes, line}

-- the line of ID n: its number, code, full name, struct and users
abbrev pub id_line : Catalogue → Graph → ℕ → Text
id_line c g n =
    let x = node_in g n in
    line ((codes "#" ++ decimal n) ∷ shown_code (node_code x) ∷ quoted_bytes (full_name x)
    ∷ shown_bytes (node_struct x) ∷ codes "users" ∷ decimal (users_of c g n) ∷ [])

-- what list prints: the lines of all IDs
unfoldable pub list_text : Catalogue → Graph → Text
list_text c g = flat_map (id_line c g) (nodes_where g (node_is_id c))
