-- What schema prints: a line of the header, and the lines of each struct. This project's own.
use Rattle.std.specs.Prelude.{ℕ, List, [], ◌∷◌, ◌++◌, length, flat_map, codes, decimal}
use Rattle.bl_num.specs.declared.number.Order.{Order}
use Rattle.bl_num.specs.declared.number.Order.TheVariants.{Little, Big}
use Rattle.bl_num.specs.declared.number.Width.{Width}
use Rattle.bl_num.specs.Numbers.{pointer_bytes}
use Rattle.bl_format.specs.declared.file.Header.{Header}
use Rattle.bl_format.specs.declared.catalogue.Catalogue.{Catalogue}
use Rattle.bl_format.specs.Layout.{struct_numbers, member_numbers, struct_name, struct_length, name_entry, member_entry, type_entry, member_size, member_offset}
use Rattle.bl_commands.specs.Texts.{Text, shown_bytes, line}

-- the word for an order
abbrev pub order_text : Order → Text
order_text Little = codes "little"
order_text Big = codes "big"

-- what stands before the line of a member
abbrev pub indent : Text
indent = codes "  "

-- the first line: what the header says, and how many names, types and structs the catalogue has
unfoldable pub schema_line : Header → ℕ → ℕ → ℕ → Text
schema_line h names types structs =
    line (codes "version" ∷ decimal h.version ∷ codes "width" ∷ decimal (pointer_bytes h.width)
    ∷ codes "order" ∷ order_text h.order ∷ codes "names" ∷ decimal names
    ∷ codes "types" ∷ decimal types ∷ codes "structs" ∷ decimal structs ∷ [])

-- the line of a struct: its number, its name and its length
unfoldable pub struct_line : ℕ → List ℕ → ℕ → Text
struct_line s name len = line (codes "struct" ∷ decimal s ∷ shown_bytes name ∷ decimal len ∷ [])

-- the line of a member by its offset, its size, the name of its type and its whole name
unfoldable pub member_line_by : ℕ → ℕ → List ℕ → List ℕ → Text
member_line_by offset size type_name name =
    indent ++ line (decimal offset ∷ decimal size ∷ shown_bytes type_name ∷ shown_bytes name ∷ [])

-- the whole name of member k of struct s
abbrev pub whole_member_name : Catalogue → ℕ → ℕ → List ℕ
whole_member_name c s k = name_entry c (member_entry c s k).name_number

-- the line of member k of struct s
abbrev pub member_line : Catalogue → Width → ℕ → ℕ → Text
member_line c w s k =
    let type_name = (type_entry c (member_entry c s k).type_number).name in
    member_line_by (member_offset c w s k) (member_size c w s k) type_name (whole_member_name c s k)

-- the lines of struct s: its own, and then those of its members
abbrev pub struct_lines : Catalogue → Width → ℕ → Text
struct_lines c w s =
    struct_line s (struct_name c s) (struct_length c s) ++ flat_map (member_line c w s) (member_numbers c s)

-- what schema prints: the line of the header and the catalogue's counts, and then the lines of all structs
unfoldable pub schema_text : Header → Catalogue → Text
schema_text h c =
    schema_line h (length c.names) (length c.types) (length c.structs)
    ++ flat_map (struct_lines c h.width) (struct_numbers c)
