-- The leaves of structs whose pointers say anything of raw nodes.
use Rattle.std.specs.Prelude.{◌≢◌, ◌≤◌, ℕ, ◌+◌, ◌*◌, if◌then◌else◌, List, [], ◌∷◌, map, slice_index_or, Option, Some, None, option_map}
use Rattle.std.specs.List.{filter_map}
use Rattle.bl_num.specs.declared.number.Order.{Order}
use Rattle.bl_num.specs.declared.number.Width.{Width}
use Rattle.bl_num.specs.Numbers.{IsWholeLength, number_of}
use Rattle.bl_format.specs.declared.catalogue.Catalogue.{Catalogue}
use Rattle.bl_format.specs.declared.layout.Kind.{Kind}
use Rattle.bl_format.specs.declared.layout.Kind.TheVariants as kinds
use Rattle.bl_format.specs.declared.layout.Leaf.{Leaf}
use Rattle.bl_format.specs.declared.raw.RawKind.{RawKind}
use Rattle.bl_format.specs.declared.raw.RawKind.TheVariants.{Pair}
use Rattle.bl_format.specs.Words.{part, contains}
use Rattle.bl_format.specs.Layout.{Basic, IsWhole, IsFloat, IsVoid, basic_named, leaves_of, struct_numbers}
use Rattle.bl_format.specs.Nodes.{view_of}
use Rattle.bl_file.specs.declared.speakers.Speaker.{Speaker}

-- the bytes of what a pointer to a basic type points to, by the length of the type
abbrev pub basic_length : Option Basic → ℕ → Option ℕ
basic_length None n = None
basic_length (Some (IsWhole signed (k ∷ []))) n = Some k
basic_length (Some (IsWhole signed ks)) n = if contains ks n then Some n else None
basic_length (Some (IsFloat k)) n = Some k
basic_length (Some IsVoid) n = Some 0

-- by the number of a type, the bytes of the basic type that it is
abbrev pub basic_lengths : Catalogue → List (Option ℕ)
basic_lengths c = map (λ t. basic_length (basic_named t.name) t.length) c.types

-- what the pointers of a leaf's kind say, by the basic types of a catalogue
abbrev pub said_by : List (Option ℕ) → Kind → Option RawKind
said_by basics (kinds.Pointer depth t) = view_of depth (slice_index_or basics t None)
said_by basics (kinds.Whole whole) = None
said_by basics (kinds.Bits n) = None
said_by basics kinds.Opaque = None

-- a leaf whose pointers say this
abbrev pub speaker_with : Leaf → RawKind → Speaker
speaker_with x kind = record { offset = x.offset; size = x.size; count = x.count; kind = kind }

-- a leaf, if it says anything
abbrev pub speaker_of : List (Option ℕ) → Leaf → Option Speaker
speaker_of basics x = option_map (speaker_with x) (said_by basics x.kind)

-- the leaves that say anything
abbrev pub speakers_of : List (Option ℕ) → List Leaf → List Speaker
speakers_of basics leaves = filter_map (speaker_of basics) leaves

-- by the number of a struct, its leaves that say anything
abbrev pub struct_speakers : Catalogue → Width → List (Option ℕ) → List (List Speaker)
struct_speakers c w basics = map (λ s. speakers_of basics (leaves_of c w s)) (struct_numbers c)

-- a leaf that says anything stands in so many bytes, its elements are as long as a number, and it says of none that it is a
-- pair
pub record IsHeard (n : ℕ) (x : Speaker) : Type 0 where
  pub fits : x.offset + x.size * x.count ≤ n
  pub number : IsWholeLength x.size
  pub no_pair : x.kind ≢ Pair

-- the number in element k of a leaf that says anything, in the bytes of an element of its struct
abbrev pub speaker_number : Order → Speaker → List ℕ → ℕ → ℕ
speaker_number order x bytes k = number_of order x.size (part bytes (x.offset + k * x.size) x.size)
