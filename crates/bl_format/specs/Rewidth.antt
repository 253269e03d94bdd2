-- A catalogue at another width of pointers: the same names, types and structs, with the lengths that the
-- structs have then. This project's own.
use Rattle.std.specs.Prelude.{ℕ, zero, suc, ◌+◌, ◌-◌, ◌*◌, nat_lt, if◌then◌else◌, length, map, sum, Option, Some, None}
use Rattle.bl_num.specs.declared.number.Width.{Width}
use Rattle.bl_num.specs.Numbers.{pointer_bytes}
use Rattle.bl_format.specs.declared.catalogue.Catalogue.{Catalogue}
use Rattle.bl_format.specs.declared.catalogue.TypeEntry.{TypeEntry}
use Rattle.std.specs.List.{enumerate_from}
use Rattle.bl_format.specs.declared.layout.LayoutFault.{LayoutFault}
use Rattle.bl_format.specs.declared.layout.LayoutFault.TheVariants.{TooLong}
use Rattle.bl_format.specs.Limits.{longest_type}
use Rattle.bl_format.specs.Words.{find_map}
use Rattle.bl_format.specs.Layout.{struct_length, struct_of_type, struct_numbers, member_numbers, member_offset, member_count, name_of, inner_struct, type_entry, member_entry}

-- the bytes of a struct behind its last member, its unnamed tail
unfoldable pub tail_of : Catalogue → Width → ℕ → ℕ
tail_of c w s = struct_length c s - member_offset c w s (member_count c s)

-- the bytes of one element by value: those of its struct, or else of the member's type
abbrev pub new_value_size : (ℕ → ℕ) → Catalogue → ℕ → ℕ → Option ℕ → ℕ
new_value_size lengths c s k (Some t) = lengths t
new_value_size lengths c s k None = (type_entry c (member_entry c s k).type_number).length

-- the bytes of a member at a width, by the lengths that structs have then
abbrev pub new_size : (ℕ → ℕ) → Catalogue → Width → ℕ → ℕ → ℕ
new_size lengths c to s k =
    let name = name_of c s k in
    let size = if name.pointer then pointer_bytes to else new_value_size lengths c s k (inner_struct c s k) in
    size * name.count

-- the length of a struct that is nested at most n deep: its members at the new width, and its old tail
unfoldable pub length_within : ℕ → Catalogue → Width → Width → ℕ → ℕ
length_within zero c from to s = 0
length_within (suc n) c from to s =
    sum (map (new_size (length_within n c from to) c to s) (member_numbers c s)) + tail_of c from s

-- the length of a struct at the new width; none is nested deeper than there are structs
abbrev pub new_length : Catalogue → Width → Width → ℕ → ℕ
new_length c from to s = length_within (length c.structs) c from to s

-- the length of a type at the new width, by its struct and its old length
abbrev pub type_length : Catalogue → Width → Width → Option ℕ → ℕ → ℕ
type_length c from to None old = old
type_length c from to (Some s) old = new_length c from to s

-- the catalogue at another width: each type that has a struct gets the struct's new length
unfoldable pub rewidth : Catalogue → Width → Width → Catalogue
rewidth c from to = record c { types = map at_new_width (enumerate_from 0 c.types) }
  where
    at_new_width : ℕ × TypeEntry → TypeEntry
    at_new_width p = record p.1 { length = type_length c from to (struct_of_type c p.0) p.1.length }

-- the new length of the first struct that is too long for a type
unfoldable pub rewidth_fault : Catalogue → Width → Width → Option LayoutFault
rewidth_fault c from to = find_map fault (struct_numbers c)
  where
    fault : ℕ → Option LayoutFault
    fault s =
        let n = new_length c from to s in
        if nat_lt longest_type n then Some (TooLong n) else None
