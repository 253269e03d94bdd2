-- What is known of a member. Places and lengths in its name are short.
use Rattle.std.proofs.Common.{◌≡◌, ℕ, ◌+◌, ◌≤◌, ◌<◌, ◌^◌, Bool, true, false, List, [], length, take, drop, Option, Some, None, refl, arith}
use Rattle.std.specs.Prelude.{◌==◌, ◌&&◌, codes, nat_le, nat_lt, slice_index, option_map, unwrap_or, if◌then◌else◌}
use Rattle.std.specs.List.{prefix_len}
use Rattle.std.specs.Str.{byte, bytes_eq}
use Rattle.std.proofs.lemmas.List.{length-drop, length-take}
use Rattle.std.proofs.lemmas.List.Sums.{prefix_len-le-length}
use Rattle.bl_num.specs.declared.number.Width.{Width}
use Rattle.bl_format.specs.declared.catalogue.Catalogue.{Catalogue}
use Rattle.bl_format.specs.Limits.{most_elements}
use Rattle.bl_format.specs.Members.{MemberName, member_name, other_name, within_count, plain_name, plain_parts, function_name, function_parts, extents, is_word_byte}
use Rattle.bl_format.specs.Schema.{CanBeRead}
use Rattle.bl_format.specs.Layout.{name_entry, member_entry, name_of, element_size, member_size, inner_struct, shape_of}
use Rattle.bl_layout.specs.MemberNames.{name_parts, shape_of_name, entry_of_name}
use Rattle.bl_layout.specs.Sizes.{inner_of}
use Rattle.bl_layout.specs.Leaves.{part_of}
use Rattle.bl_layout.specs.Shapes.{IsShort, shape_with}
use Rattle.bl_layout.proofs.ReadLemmas.{can_be_read-short_names}

-- ---- names

-- what a name says is short, where it is what some form gives
abbrev SaysShort : List ℕ → Option MemberName → Type 0
SaysShort name o = IsShort (shape_of_name (unwrap_or (within_count o) (other_name name)))

other_short : (name : List ℕ) → IsShort (shape_of_name (other_name name))
other_short name = record { depth = omega arith; identifier_at = omega arith; identifier_len = omega arith; key_len = omega arith }

counted_short : (name : List ℕ) (m : MemberName) → IsShort (shape_of_name m) → SaysShort name (Some m)
counted_short name m is = go (nat_le m.count most_elements)
  where
    go : (b : Bool) → IsShort (shape_of_name (unwrap_or (if b then Some m else None) (other_name name)))
    go true = is
    go false = other_short name

plain_short : (name : List ℕ) → length name < 2 ^ 32 → SaysShort name (plain_name name)
plain_short name short = go (n == 0) (extents (length (drop (stars + n) name)) (drop (stars + n) name))
  where
    stars : ℕ
    stars = prefix_len (λ b. b == byte "*") name

    n : ℕ
    n = prefix_len is_word_byte (drop stars name)

    go : (b : Bool) (o : Option (List ℕ)) → SaysShort name (if b then None else option_map (plain_parts name stars n) o)
    go true o = other_short name
    go false None = other_short name
    go false (Some ns) =
        let within : stars ≤ length name = prefix_len-le-length (λ b. b == byte "*") name in
        counted_short name (plain_parts name stars n ns) (record {
          depth = omega (arith, within, short);
          identifier_at = omega (arith, within, short);
          identifier_len = omega (arith, length-take n (drop stars name), length-drop stars name, short);
          key_len = omega (arith, length-take (stars + n) name, short);
        })

function_short : (name : List ℕ) → length name < 2 ^ 32 → SaysShort name (function_name name)
function_short name short = go (bytes_eq (take 2 name) (codes "(*") && nat_lt 0 n && slice_index name (n + 2) == byte ")")
  where
    n : ℕ
    n = prefix_len is_word_byte (drop 2 name)

    go : (b : Bool) → SaysShort name (if b then Some (function_parts name n) else None)
    go true = counted_short name (function_parts name n) (record {
      depth = omega arith;
      identifier_at = omega arith;
      identifier_len = omega (arith, length-take n (drop 2 name), length-drop 2 name, short);
      key_len = short;
    })
    go false = other_short name

-- places and lengths in a short name are short
pub name_short : (name : List ℕ) → length name < 2 ^ 32 → IsShort (shape_of_name (name_parts name))
unfolding member_name
name_short name short = go (slice_index name 0 == byte "(") (function_name name) (plain_name name) (function_short name short) (plain_short name short)
  where
    go : (b : Bool) (f p : Option MemberName) → SaysShort name f → SaysShort name p → SaysShort name (if b then f else p)
    go true f p of_f of_p = of_f
    go false f p of_f of_p = of_p

-- so are those in a name of a catalogue that can be read
pub entry_short : (c : Catalogue) (n : ℕ) → CanBeRead c → n < length c.names → IsShort (entry_of_name (name_entry c n)).shape
entry_short c n read lt = name_short (name_entry c n) (can_be_read-short_names c read n [] lt)

-- ---- shapes

-- the shape of a member by its parts
pub shape_with-shape_of : (c : Catalogue) (w : Width) (s k : ℕ)
    → shape_with (entry_of_name (name_entry c (member_entry c s k).name_number)).shape (part_of c w s k) (inner_of c (member_entry c s k)) ≡ shape_of c w s k
unfolding shape_of member_size element_size name_of inner_struct
shape_with-shape_of c w s k = refl
