-- Short ways to write the files of the rows: bytes in hexadecimal, heads, and catalogues by numbers.
use Rattle.std.specs.Prelude.{ℕ, ◌+◌, ◌-◌, ◌*◌, nat_lt, if◌then◌else◌, List, [], ◌∷◌, ◌++◌, take, map, flat_map, replicate, codes}
use Prim.Native.String.{String}
use Rattle.bl_num.specs.declared.number.Order.TheVariants.{Little, Big}
use Rattle.bl_num.specs.declared.number.Width.TheVariants.{Four, Eight}
use Rattle.bl_format.specs.declared.catalogue.Catalogue.{Catalogue}
use Rattle.bl_format.specs.declared.catalogue.TypeEntry.{TypeEntry}
use Rattle.bl_format.specs.declared.catalogue.StructEntry.{StructEntry}
use Rattle.bl_format.specs.declared.catalogue.MemberEntry.{MemberEntry}
use Rattle.bl_format.specs.declared.file.Header.{Header}
use Rattle.bl_format.specs.declared.file.Head.{Head}
use Rattle.bl_format.specs.Nodes.{File}

-- the number of a hexadecimal digit, 0 to 9 or a to f
abbrev digit : ℕ → ℕ
digit c = if nat_lt c 97 then c - 48 else c - 87

-- the bytes of two digits each that a text spells
abbrev bytes_in : List ℕ → List ℕ
bytes_in (a ∷ b ∷ cs) = (16 * digit a + digit b) ∷ bytes_in cs
bytes_in _ = []

-- bytes in hexadecimal
abbrev pub hex : String → List ℕ
hex text = bytes_in (codes text)

-- a code of four bytes, with zeros behind two letters
abbrev pub code : String → List ℕ
code text = take 4 (codes text ++ replicate 2 0)

-- texts, each with a line's end
abbrev pub lines : List (List ℕ) → List ℕ
lines texts = flat_map (λ t. t ++ 10 ∷ []) texts

-- headers by their version
abbrev pub header_4 : ℕ → Header
header_4 version = record { width = Four; order = Little; version = version }

abbrev pub header_8 : ℕ → Header
header_8 version = record { width = Eight; order = Little; version = version }

abbrev pub header_4_big : ℕ → Header
header_4_big version = record { width = Four; order = Big; version = version }

abbrev pub header_8_big : ℕ → Header
header_8_big version = record { width = Eight; order = Big; version = version }

-- a head: its code, length, address, struct number, count and place
abbrev pub head : List ℕ → ℕ → ℕ → ℕ → ℕ → ℕ → Head
head code len address index count at =
    record { code = code; len = len; address = address; index = index; count = count; at = at }

-- a file of a header, a catalogue, bytes and the heads of its nodes
abbrev pub file : Header → Catalogue → List ℕ → List Head → File
file h c bytes nodes = record { header = h; catalogue = c; nodes = nodes; bytes = bytes }

-- a catalogue: names, types with their lengths, and structs, each the number of its type with its members,
-- which are the numbers of type and name
abbrev pub catalogue : List (List ℕ) → List (List ℕ × ℕ) → List (ℕ × List (ℕ × ℕ)) → Catalogue
catalogue names types structs =
    record { names = names; types = map type_entry types; structs = map struct_entry structs }
  where
    type_entry : List ℕ × ℕ → TypeEntry
    type_entry t = record { name = t.0; length = t.1 }

    member_entry : ℕ × ℕ → MemberEntry
    member_entry m = record { type_number = m.0; name_number = m.1 }

    struct_entry : ℕ × List (ℕ × ℕ) → StructEntry
    struct_entry s = record { type_number = s.0; members = map member_entry s.1 }
