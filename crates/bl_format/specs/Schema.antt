-- The catalogue: how it is read from the payload of its block from left to right, with the first fault; how
-- it is written; and the grammar of payloads, which says the same without places. The form is that of
-- Blender's SDNA (`DNA_genfile`). This project's own: which fault comes first, that numbers of 16 bits have
-- no sign, and that any bytes may stand as padding and behind the last struct.
use Rattle.std.specs.Prelude.{◌≡◌, ◌≢◌, All, ℕ, zero, suc, ◌+◌, ◌-◌, ◌^◌, ◌<◌, Bool, true, false, not, ◌==◌, nat_lt, if◌then◌else◌, List, [], ◌∷◌, ◌++◌, length, drop, map, flat_map, Option, Some, None, Result, Ok, Err, codes}
use Rattle.std.specs.List.{list_any, position, zip, AllPairs}
use Rattle.std.specs.Str.{bytes_eq}
use Rattle.bl_num.specs.declared.number.Order.{Order}
use Rattle.bl_num.specs.Numbers.{bytes_of}
use Rattle.bl_format.specs.declared.catalogue.Catalogue.{Catalogue}
use Rattle.bl_format.specs.declared.catalogue.TypeEntry.{TypeEntry}
use Rattle.bl_format.specs.declared.catalogue.StructEntry.{StructEntry}
use Rattle.bl_format.specs.declared.catalogue.MemberEntry.{MemberEntry}
use Rattle.bl_format.specs.declared.catalogue.SdnaFault.{SdnaFault}
use Rattle.bl_format.specs.declared.catalogue.SdnaFault.TheVariants.{BadTag, CutShort, BadIndex, TwoTypes, TwoStructs, NoMemory}
use Rattle.bl_format.specs.Words.{part, number_at, is_one_of, aligned_place, zeros}

-- ---- one thing at a place

-- what is read at a place: a value and the place behind it, or a fault
abbrev pub Reading : Type 0 → Type 0
Reading A = Result (A × ℕ) SdnaFault

-- what is read behind a first reading, unless that has a fault
infixl 10 ◌>>=◌
abbrev pub ◌>>=◌ : {A B : Type 0} → Result A SdnaFault → (A → Result B SdnaFault) → Result B SdnaFault
(Ok x) >>= f = f x
(Err e) >>= f = Err e

-- a call that failed did so by this fault of what is read, or for want of memory
abbrev pub Fails : {Y : Type 0} → SdnaFault → Result Y SdnaFault → Type 0
Fails NoMemory read = Unit {0}
Fails e read = read ≡ Err e

-- what a call answered, seen by a view, is what is read, unless memory ran out
abbrev pub Gives : {X Y : Type 0} → (X → Y) → Result X SdnaFault → Result Y SdnaFault → Type 0
Gives view (Ok x) read = read ≡ Ok (view x)
Gives view (Err e) read = Fails e read

-- a fault where a test doesn't hold
abbrev pub ensure : Bool → SdnaFault → Result ℕ SdnaFault
ensure true fault = Ok 0
ensure false fault = Err fault

-- the place behind a tag of four bytes
unfoldable pub tag_at : List ℕ → List ℕ → ℕ → Result ℕ SdnaFault
tag_at tag p at =
    if nat_lt (length p) (at + 4) then Err (CutShort at) else
    if bytes_eq (part p at 4) tag then Ok (at + 4) else
    Err (BadTag at)

-- a number of n bytes
unfoldable pub count_at : Order → ℕ → List ℕ → ℕ → Reading ℕ
count_at order n p at =
    if nat_lt (length p) (at + n) then Err (CutShort at) else Ok (number_at order p at n, at + n)

-- a number of two bytes that is below n, as those of types and names are
unfoldable pub index_at : Order → ℕ → List ℕ → ℕ → Reading ℕ
index_at order n p at = do
  x ← count_at order 2 p at
  _ ← ensure (nat_lt x.0 n) (BadIndex at)
  Ok x

-- the bytes before a zero that stands so far on, and the place behind it
abbrev pub name_by : List ℕ → ℕ → Option ℕ → Reading (List ℕ)
name_by p at None = Err (CutShort at)
name_by p at (Some n) = Ok (part p at n, at + n + 1)

-- a name, which a zero ends
unfoldable pub name_at : List ℕ → ℕ → Reading (List ℕ)
name_at p at = name_by p at (position (λ b. b == 0) (drop at p))

-- ---- many things, one after another

-- n things of one sort
unfoldable pub many_at : {A : Type 0} → (ℕ → Reading A) → ℕ → ℕ → Reading (List A)
many_at one zero at = Ok ([], at)
many_at one (suc n) at = do
  first ← one at
  others ← many_at one n first.1
  Ok (first.0 ∷ others.0, others.1)

-- n type names, none of which stands among those before
unfoldable pub type_names_at : List ℕ → List (List ℕ) → ℕ → ℕ → Reading (List (List ℕ))
type_names_at p before zero at = Ok ([], at)
type_names_at p before (suc n) at = do
  name ← name_at p at
  _ ← ensure (not (is_one_of name.0 before)) (TwoTypes at)
  others ← type_names_at p (name.0 ∷ before) n name.1
  Ok (name.0 ∷ others.0, others.1)

-- a member: the number of its type and that of its name
unfoldable pub member_at : Order → ℕ → ℕ → List ℕ → ℕ → Reading MemberEntry
member_at order types names p at = do
  t ← index_at order types p at
  n ← index_at order names p t.1
  Ok (record { type_number = t.0; name_number = n.0 }, n.1)

-- n structs, none of a type that a struct before has
unfoldable pub structs_at : Order → ℕ → ℕ → List ℕ → List ℕ → ℕ → ℕ → Reading (List StructEntry)
structs_at order types names p before zero at = Ok ([], at)
structs_at order types names p before (suc n) at = do
  t ← index_at order types p at
  _ ← ensure (not (list_any (λ x. x == t.0) before)) (TwoStructs at)
  count ← count_at order 2 p t.1
  members ← many_at (member_at order types names p) count.0 count.1
  others ← structs_at order types names p (t.0 ∷ before) n members.1
  Ok (record { type_number = t.0; members = members.0 } ∷ others.0, others.1)

-- types of some names and lengths
abbrev pub type_entries : List (List ℕ) → List ℕ → List TypeEntry
type_entries names lengths = map (λ x. record { name = x.0; length = x.1 }) (zip names lengths)

-- ---- the four parts

-- the names of members, behind the first two tags
abbrev pub names_at : Order → List ℕ → Reading (List (List ℕ))
names_at order p = do
  a ← tag_at (codes "SDNA") p 0
  b ← tag_at (codes "NAME") p a
  n ← count_at order 4 p b
  many_at (name_at p) n.0 n.1

-- the names of types, from the next multiple of 4 on
abbrev pub types_at : Order → List ℕ → ℕ → Reading (List (List ℕ))
types_at order p at = do
  a ← tag_at (codes "TYPE") p (aligned_place at)
  n ← count_at order 4 p a
  type_names_at p [] n.0 n.1

-- the lengths of so many types, from the next multiple of 4 on
abbrev pub lengths_at : Order → ℕ → List ℕ → ℕ → Reading (List ℕ)
lengths_at order types p at = do
  a ← tag_at (codes "TLEN") p (aligned_place at)
  many_at (count_at order 2 p) types a

-- all structs, from the next multiple of 4 on, for so many types and names
abbrev pub all_structs_at : Order → ℕ → ℕ → List ℕ → ℕ → Reading (List StructEntry)
all_structs_at order types names p at = do
  a ← tag_at (codes "STRC") p (aligned_place at)
  n ← count_at order 4 p a
  structs_at order types names p [] n.0 n.1

-- the catalogue of a payload, or the first fault
unfoldable pub catalogue_of : Order → List ℕ → Result Catalogue SdnaFault
catalogue_of order p = do
  names ← names_at order p
  types ← types_at order p names.1
  lengths ← lengths_at order (length types.0) p types.1
  structs ← all_structs_at order (length types.0) (length names.0) p lengths.1
  Ok (record { names = names.0; types = type_entries types.0 lengths.0; structs = structs.0 })

-- ---- what is written

-- how many bytes stand between a part of a payload and the next multiple of 4; each part begins at one
abbrev pub padding_of : List ℕ → ℕ
padding_of text = aligned_place (length text) - length text

-- a name and the zero that ends it
abbrev pub name_written : List ℕ → List ℕ
name_written name = name ++ 0 ∷ []

-- the number of a member's type and that of its name
abbrev pub member_written : Order → MemberEntry → List ℕ
member_written order m = bytes_of order 2 m.type_number ++ bytes_of order 2 m.name_number

-- the number of a struct's type, how many members it has, and the members
abbrev pub struct_written : Order → StructEntry → List ℕ
struct_written order s =
    bytes_of order 2 s.type_number
    ++ bytes_of order 2 (length s.members)
    ++ flat_map (member_written order) s.members

-- the first part of a payload: the names of members
abbrev pub names_part : Order → Catalogue → List ℕ
names_part order c =
    codes "SDNA" ++ codes "NAME" ++ bytes_of order 4 (length c.names) ++ flat_map name_written c.names

-- the second part: the names of types
abbrev pub types_part : Order → Catalogue → List ℕ
types_part order c =
    codes "TYPE" ++ bytes_of order 4 (length c.types) ++ flat_map (λ t. name_written t.name) c.types

-- the third part: the lengths of types
abbrev pub lengths_part : Order → Catalogue → List ℕ
lengths_part order c = codes "TLEN" ++ flat_map (λ t. bytes_of order 2 t.length) c.types

-- the last part: the structs
abbrev pub structs_part : Order → Catalogue → List ℕ
structs_part order c =
    codes "STRC" ++ bytes_of order 4 (length c.structs) ++ flat_map (struct_written order) c.structs

-- a part and zeros up to the next multiple of 4
abbrev pub with_padding : List ℕ → List ℕ
with_padding text = text ++ zeros (padding_of text)

-- the payload of a catalogue, with zeros as padding
unfoldable pub catalogue_written : Order → Catalogue → List ℕ
catalogue_written order c =
    with_padding (names_part order c)
    ++ with_padding (types_part order c)
    ++ with_padding (lengths_part order c)
    ++ structs_part order c

-- ---- the grammar: which catalogues have a payload, and which payloads are theirs

-- a name that a zero can end: none of its bytes is one
abbrev pub IsName : List ℕ → Type 0
IsName name = All (λ b. b ≢ 0) name

-- the numbers of a member are those of a type and of a name
pub record MemberFits (c : Catalogue) (m : MemberEntry) : Type 0 where
  pub type_number : m.type_number < length c.types
  pub name_number : m.name_number < length c.names
  pub type_number_fits : m.type_number < 2 ^ 16
  pub name_number_fits : m.name_number < 2 ^ 16

-- a struct's type is one of the catalogue's, and its members fit
pub record StructFits (c : Catalogue) (s : StructEntry) : Type 0 where
  pub type_number : s.type_number < length c.types
  pub type_number_fits : s.type_number < 2 ^ 16
  pub few_members : length s.members < 2 ^ 16
  pub members : All (MemberFits c) s.members

-- a catalogue that a payload can have: counts fit their fields, numbers are in range, type names differ,
-- and so do the types of structs
pub record IsCatalogue (c : Catalogue) : Type 0 where
  pub few_names : length c.names < 2 ^ 32
  pub few_types : length c.types < 2 ^ 32
  pub few_structs : length c.structs < 2 ^ 32
  pub names : All IsName c.names
  pub type_names : All (λ t. IsName t.name) c.types
  pub type_names_differ : AllPairs (λ t u. t.name ≢ u.name) c.types
  pub lengths_fit : All (λ t. t.length < 2 ^ 16) c.types
  pub structs : All (StructFits c) c.structs
  pub struct_types_differ : AllPairs (λ s t. s.type_number ≢ t.type_number) c.structs

-- a payload of this catalogue: its parts, with any bytes as padding and behind the last struct
pub record IsPayload (order : Order) (c : Catalogue) (p : List ℕ) : Type 0 where
  pub is_catalogue : IsCatalogue c
  pub before_types : List ℕ
  pub before_lengths : List ℕ
  pub before_structs : List ℕ
  pub rest : List ℕ
  pub types_aligned : length before_types ≡ padding_of (names_part order c)
  pub lengths_aligned : length before_lengths ≡ padding_of (types_part order c)
  pub structs_aligned : length before_structs ≡ padding_of (lengths_part order c)
  pub text : p ≡ names_part order c ++ before_types ++ types_part order c ++ before_lengths
      ++ lengths_part order c ++ before_structs ++ structs_part order c ++ rest

-- some payload of fewer than 2^32 bytes reads as the catalogue
pub record CanBeRead (c : Catalogue) : Type 0 where
  pub order : Order
  pub payload : List ℕ
  pub bytes : All (λ b. b < 256) payload
  pub short : length payload < 2 ^ 32
  pub reads : catalogue_of order payload ≡ Ok c
