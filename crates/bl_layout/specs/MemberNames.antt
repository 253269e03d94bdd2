-- A member's name as the code holds it: places and lengths in place of the bytes themselves.
use Rattle.std.specs.Prelude.{ℕ, ◌+◌, Bool, ◌&&◌, ◌==◌, nat_le, List, length, slice_index, min, Option, option_map, unwrap_or, is_some}
use Rattle.std.specs.List.{prefix_len}
use Rattle.std.specs.Char.{is_ascii_digit}
use Rattle.std.specs.Str.{byte}
use Rattle.bl_format.specs.Limits.{most_elements}
use Rattle.bl_format.specs.Members.{MemberName, member_name, other_name, most_digits, extents, product}
use Rattle.bl_layout.specs.declared.member_names.NameShape.{NameShape}
use Rattle.bl_layout.specs.declared.member_names.NameEntry.{NameEntry}

-- the shape of a name's parts
abbrev pub shape_of_name : MemberName → NameShape
shape_of_name m = record {
  pointer = m.pointer;
  depth = m.depth;
  identifier_at = m.identifier_at;
  identifier_len = length m.identifier;
  key_len = length m.key;
  brackets = m.brackets;
  count = m.count;
}

-- what a name says, where it is bad too
abbrev pub name_parts : List ℕ → MemberName
name_parts name = unwrap_or (member_name name) (other_name name)

-- the entry of a name
abbrev pub entry_of_name : List ℕ → NameEntry
entry_of_name name = record { shape = shape_of_name (name_parts name); is_good = is_some (member_name name) }

-- a count, where all that pass the limit are as one
abbrev pub bounded_count : ℕ → ℕ
bounded_count n = min n (most_elements + 1)

-- the shape of a name that may have too many elements
abbrev pub bounded_shape : MemberName → NameShape
bounded_shape m = record (shape_of_name m) { count = bounded_count m.count }

-- the count of some brackets that fill a text
abbrev pub bracket_count : List ℕ → Option ℕ
bracket_count text = option_map (λ ns. bounded_count (product ns)) (extents (length text) text)

-- a byte opens the brackets round the digits with which some text begins
abbrev pub opens_number : ℕ → List ℕ → Bool
opens_number first text =
    let n = prefix_len is_ascii_digit text in
    first == byte "[" && nat_le 1 n && nat_le n most_digits && slice_index text n == byte "]"
