-- The lengths that structs have at another width, round by round, and the types with them.
use Rattle.std.specs.Prelude.{◌≡◌, ◌≤◌, ◌<◌, ◌+◌, ◌*◌, ℕ, nat_lt, if◌then◌else◌, List, length, map, sum, slice_index, Option, Some, None}
use Rattle.bl_num.specs.declared.number.Width.{Width}
use Rattle.bl_num.specs.Numbers.{pointer_bytes}
use Rattle.bl_format.specs.declared.catalogue.Catalogue.{Catalogue}
use Rattle.bl_format.specs.declared.catalogue.TypeEntry.{TypeEntry}
use Rattle.bl_format.specs.declared.layout.Shape.{Shape}
use Rattle.bl_format.specs.declared.layout.LayoutFault.{LayoutFault}
use Rattle.bl_format.specs.declared.layout.LayoutFault.TheVariants.{TooLong}
use Rattle.bl_format.specs.Limits.{longest_type}
use Rattle.bl_format.specs.Layout.{member_numbers, struct_length, struct_numbers}
use Rattle.bl_format.specs.Rewidth.{new_size, new_length, tail_of}

-- the bytes of a member by value, by the struct that it is and the lengths that structs have then
abbrev pub value_size : (ℕ → ℕ) → Shape → Option ℕ → ℕ
value_size lengths shape (Some t) = lengths t * shape.count
value_size lengths shape None = shape.size

-- the bytes of a member of some shape at a width
abbrev pub size_by : (ℕ → ℕ) → Width → Shape → ℕ
size_by lengths to shape =
    if shape.pointer then pointer_bytes to * shape.count else value_size lengths shape shape.inner

-- the length of a struct: its members at the new width, by the lengths that structs have then, and its old tail
abbrev pub next_length : (ℕ → ℕ) → Catalogue → Width → Width → ℕ → ℕ
next_length lengths c from to s = sum (map (new_size lengths c to s) (member_numbers c s)) + tail_of c from s

-- the lengths of all structs after one round more
abbrev pub next_lengths : (ℕ → ℕ) → Catalogue → Width → Width → List ℕ
next_lengths lengths c from to = map (next_length lengths c from to) (struct_numbers c)

-- each struct has a length, which is at most twice its old one
pub record AreShort (c : Catalogue) (lengths : List ℕ) : Type 0 where
  pub len : length lengths ≡ length c.structs
  pub short : (s : ℕ) → s < length c.structs → slice_index lengths s ≤ 2 * struct_length c s

-- the new lengths of all structs
abbrev pub new_lengths : Catalogue → Width → Width → List ℕ
new_lengths c from to = map (new_length c from to) (struct_numbers c)

-- the fault of a struct of some length
abbrev pub fault_of_length : ℕ → Option LayoutFault
fault_of_length n = if nat_lt longest_type n then Some (TooLong n) else None

-- the length of a type by its struct and its old length
abbrev pub length_by : List ℕ → Option ℕ → ℕ → ℕ
length_by lengths (Some s) old = slice_index lengths s
length_by lengths None old = old

-- a type with the length of its struct
abbrev pub type_with : List ℕ → Option ℕ → TypeEntry → TypeEntry
type_with lengths number entry = record entry { length = length_by lengths number entry.length }
