-- Where the members of a catalogue's structs stand, which faults a layout may have, and the leaves of a
-- struct: its members in order, those that are structs by value opened up. Sizes and offsets are those of
-- Blender's SDNA (`DNA_genfile`). The checks, the list of basic types with their signs and the limits are
-- this project's own.
use Rattle.std.specs.Prelude.{◌≡◌, ℕ, zero, suc, ◌+◌, ◌*◌, max, Bool, true, false, not, ◌&&◌, ◌||◌, ◌==◌, nat_lt, if◌then◌else◌, List, [], ◌∷◌, length, map, flat_map, filter_map, fold, sum, get_or, Option, Some, None, option_map, unwrap_or, is_some, codes}
use Rattle.std.specs.List.{find}
use Rattle.std.specs.Option.{option_or}
use Rattle.std.specs.Str.{bytes_eq}
use Rattle.bl_num.specs.declared.number.Width.{Width}
use Rattle.bl_num.specs.Numbers.{pointer_bytes}
use Rattle.bl_format.specs.declared.catalogue.Catalogue.{Catalogue}
use Rattle.bl_format.specs.declared.catalogue.TypeEntry.{TypeEntry}
use Rattle.bl_format.specs.declared.catalogue.StructEntry.{StructEntry}
use Rattle.bl_format.specs.declared.catalogue.MemberEntry.{MemberEntry}
use Rattle.bl_format.specs.declared.layout.Kind.{Kind}
use Rattle.bl_format.specs.declared.layout.Kind.TheVariants as kinds
use Rattle.bl_format.specs.declared.layout.Leaf.{Leaf}
use Rattle.bl_format.specs.declared.layout.Shape.{Shape}
use Rattle.bl_format.specs.declared.layout.LayoutFault.{LayoutFault}
use Rattle.bl_format.specs.declared.layout.LayoutFault.TheVariants.{BadName, BasicLength, Overrun, Cyclic, DuplicateMember, TooDeep, TooManyLeaves}
use Rattle.bl_format.specs.Limits.{deepest_nesting, most_leaves}
use Rattle.bl_format.specs.Words.{find_map, first_place, numbers_below, is_one_of, contains, numbers_reached}
use Rattle.bl_format.specs.Members.{MemberName, member_name, other_name}
use Rattle.bl_format.specs.Schema.{CanBeRead}

-- ---- looking things up

-- A number out of range gives something without a name, a length or members: a struct or a member that
-- isn't there has the first type number and name number that aren't there either.

-- the type of a number
abbrev pub type_entry : Catalogue → ℕ → TypeEntry
type_entry c t = get_or c.types t (record { name = []; length = 0 })

-- the struct of a number
abbrev pub struct_entry : Catalogue → ℕ → StructEntry
struct_entry c s = get_or c.structs s (record { type_number = length c.types; members = [] })

-- member k of struct s
abbrev pub member_entry : Catalogue → ℕ → ℕ → MemberEntry
member_entry c s k =
    get_or (struct_entry c s).members k (record { type_number = length c.types; name_number = length c.names })

-- how many members a struct has
abbrev pub member_count : Catalogue → ℕ → ℕ
member_count c s = length (struct_entry c s).members

-- the numbers of all structs
abbrev pub struct_numbers : Catalogue → List ℕ
struct_numbers c = numbers_below (length c.structs)

-- the numbers of a struct's members
abbrev pub member_numbers : Catalogue → ℕ → List ℕ
member_numbers c s = numbers_below (member_count c s)

-- the name of a number
abbrev pub name_entry : Catalogue → ℕ → List ℕ
name_entry c n = get_or c.names n []

-- the name of a struct, which is that of its type
abbrev pub struct_name : Catalogue → ℕ → List ℕ
struct_name c s = (type_entry c (struct_entry c s).type_number).name

-- the bytes of one value of a struct, which are those of its type
abbrev pub struct_length : Catalogue → ℕ → ℕ
struct_length c s = (type_entry c (struct_entry c s).type_number).length

-- the number of the type of a name
unfoldable pub type_named : Catalogue → List ℕ → Option ℕ
type_named c name = first_place (λ t. bytes_eq t.name name) c.types

-- the number of the struct of a type
abbrev pub struct_of_type : Catalogue → ℕ → Option ℕ
struct_of_type c t = first_place (λ s. s.type_number == t) c.structs

-- the number of the struct of a name
unfoldable pub struct_named : Catalogue → List ℕ → Option ℕ
struct_named c name = first_place (λ s. bytes_eq (type_entry c s.type_number).name name) c.structs

-- the number of the struct of a name, and 0 where there is none
abbrev pub struct_number : Catalogue → List ℕ → ℕ
struct_number c name = unwrap_or (struct_named c name) 0

-- what the name of member k of struct s says, where it is bad too
unfoldable pub name_of : Catalogue → ℕ → ℕ → MemberName
name_of c s k =
    let name = name_entry c (member_entry c s k).name_number in
    unwrap_or (member_name name) (other_name name)

-- ---- kinds of types

-- a basic type: a whole number with a sign or without and the lengths in bytes that it may have, a float of
-- so many bytes, or nothing
pub data Basic : Type 0 where
  IsWhole : (signed : Bool) → (lengths : List ℕ) → Basic
  IsFloat : (bytes : ℕ) → Basic
  IsVoid : Basic

-- the basic types by their names
abbrev pub basic_types : List (List ℕ × Basic)
basic_types =
    (codes "char", IsWhole true (1 ∷ []))
    ∷ (codes "int8_t", IsWhole true (1 ∷ []))
    ∷ (codes "uchar", IsWhole false (1 ∷ []))
    ∷ (codes "short", IsWhole true (2 ∷ []))
    ∷ (codes "ushort", IsWhole false (2 ∷ []))
    ∷ (codes "int", IsWhole true (4 ∷ []))
    ∷ (codes "long", IsWhole true (4 ∷ 8 ∷ []))
    ∷ (codes "ulong", IsWhole false (4 ∷ 8 ∷ []))
    ∷ (codes "int64_t", IsWhole true (8 ∷ []))
    ∷ (codes "uint64_t", IsWhole false (8 ∷ []))
    ∷ (codes "float", IsFloat 4)
    ∷ (codes "double", IsFloat 8)
    ∷ (codes "void", IsVoid)
    ∷ []

-- the basic type of a name
unfoldable pub basic_named : List ℕ → Option Basic
basic_named name = option_map (λ e. e.1) (find (λ e. bytes_eq e.0 name) basic_types)

-- the lengths that a basic type may have in a catalogue
abbrev pub lengths_of_basic : Basic → List ℕ
lengths_of_basic (IsWhole signed ls) = ls
lengths_of_basic (IsFloat n) = n ∷ []
lengths_of_basic IsVoid = 0 ∷ []

-- what a member by value holds: a basic type, a struct by its number, or opaque bytes
pub data Content : Type 0 where
  IsBasic : (basic : Basic) → Content
  IsStruct : (s : ℕ) → Content
  IsOpaque : Content

-- a struct, or bytes where a type has none
abbrev pub struct_or_bytes : Option ℕ → Content
struct_or_bytes None = IsOpaque
struct_or_bytes (Some s) = IsStruct s

-- what a type holds, by the basic type of its name and by its struct
abbrev pub basic_or_struct : Option Basic → Option ℕ → Content
basic_or_struct (Some b) s = IsBasic b
basic_or_struct None s = struct_or_bytes s

-- what a type holds; a type with the name of a basic type is that type, also where it has a struct
unfoldable pub content_of : Catalogue → ℕ → Content
content_of c t = basic_or_struct (basic_named (type_entry c t).name) (struct_of_type c t)

-- the number of the struct, where a struct is held
abbrev pub struct_of_content : Content → Option ℕ
struct_of_content (IsBasic b) = None
struct_of_content (IsStruct s) = Some s
struct_of_content IsOpaque = None

-- the number of the struct that member k of struct s is, by value
unfoldable pub inner_struct : Catalogue → ℕ → ℕ → Option ℕ
inner_struct c s k =
    if (name_of c s k).pointer
    then None
    else struct_of_content (content_of c (member_entry c s k).type_number)

-- ---- sizes and offsets

-- the bytes of one element of member k of struct s
unfoldable pub element_size : Catalogue → Width → ℕ → ℕ → ℕ
element_size c w s k =
    if (name_of c s k).pointer
    then pointer_bytes w
    else (type_entry c (member_entry c s k).type_number).length

-- the bytes of all elements of a member
unfoldable pub member_size : Catalogue → Width → ℕ → ℕ → ℕ
member_size c w s k = element_size c w s k * (name_of c s k).count

-- where a member stands in its struct: behind all members before it
unfoldable pub member_offset : Catalogue → Width → ℕ → ℕ → ℕ
member_offset c w s k = sum (map (member_size c w s) (numbers_below k))

-- ---- faults of a layout

-- the structs that stand in a struct by value, with or without elements
abbrev pub inner_structs : Catalogue → ℕ → List ℕ
inner_structs c s = filter_map (inner_struct c s) (member_numbers c s)

-- struct t stands in struct s by value
abbrev pub holds_struct : Catalogue → ℕ → ℕ → Bool
holds_struct c s t = contains (inner_structs c s) t

-- struct s is reached, by value, from a struct that stands in it
abbrev pub leads_back : Catalogue → ℕ → Option ℕ → Bool
leads_back c s None = false
leads_back c s (Some t) =
    contains (numbers_reached (holds_struct c) (length c.structs) (length c.structs) (t ∷ [])) s

-- a member's name is of neither form, or has too many elements
abbrev pub has_bad_name : Catalogue → ℕ → ℕ → Bool
has_bad_name c s k = not (is_some (member_name (name_entry c (member_entry c s k).name_number)))

-- its identifier stood before in its struct
abbrev pub is_duplicate : Catalogue → ℕ → ℕ → Bool
is_duplicate c s k =
    is_one_of (name_of c s k).identifier (map (λ j. (name_of c s j).identifier) (numbers_below k))

-- a basic type has no such length
abbrev pub is_bad_length : Option Basic → ℕ → Bool
is_bad_length None n = false
is_bad_length (Some b) n = not (contains (lengths_of_basic b) n)

-- it is by value of a basic type of another length than the list's, or its struct has a basic type's name,
-- so that at another width the length of that type could change
abbrev pub has_bad_length : Catalogue → ℕ → ℕ → Bool
has_bad_length c s k =
    let t = type_entry c (member_entry c s k).type_number in
    is_some (basic_named (struct_name c s))
    || (not (name_of c s k).pointer && is_bad_length (basic_named t.name) t.length)

-- it passes the length of its struct's type
abbrev pub overruns : Catalogue → Width → ℕ → ℕ → Bool
overruns c w s k = nat_lt (struct_length c s) (member_offset c w s (suc k))

-- the first check that member k of struct s fails: its name, its identifier, its basic type, a struct in
-- itself, the struct's length
unfoldable pub member_fault : Catalogue → Width → ℕ → ℕ → Option LayoutFault
member_fault c w s k =
    if has_bad_name c s k then Some (BadName s k) else
    if is_duplicate c s k then Some (DuplicateMember s k) else
    if has_bad_length c s k then Some (BasicLength s k) else
    if leads_back c s (inner_struct c s k) then Some (Cyclic s k) else
    if overruns c w s k then Some (Overrun s k) else
    None

-- the first fault of a member, struct by struct and member by member
unfoldable pub first_fault : Catalogue → Width → Option LayoutFault
first_fault c w = find_map (λ s. find_map (member_fault c w s) (member_numbers c s)) (struct_numbers c)

-- ---- leaves

-- one member on the way to a leaf: the number and the name of the struct in which it stands, the member's
-- number, key, identifier and name number, and the element
pub record MemberStep : Type 0 where
  pub s : ℕ
  pub member : ℕ
  pub owner : List ℕ
  pub key : List ℕ
  pub identifier : List ℕ
  pub name_number : ℕ
  pub element : ℕ

-- a leaf with the names on the way to it: the members on that way, outer ones first, the name of the leaf's
-- type, what it holds, where its first element stands in the struct, the bytes of an element, and how many
-- there are
pub record NamedLeaf : Type 0 where
  pub way : List MemberStep
  pub type_name : List ℕ
  pub kind : Kind
  pub offset : ℕ
  pub size : ℕ
  pub count : ℕ

-- a leaf that holds nothing, where a number is out of range
abbrev pub no_leaf : NamedLeaf
no_leaf = record { way = []; type_name = []; kind = kinds.Opaque; offset = 0; size = 0; count = 0 }

-- element e of member k of struct s, on the way to a leaf
abbrev pub member_step : Catalogue → ℕ → ℕ → ℕ → MemberStep
member_step c s k e =
    let n = name_of c s k in
    record {
      s = s;
      member = k;
      owner = struct_name c s;
      key = n.key;
      identifier = n.identifier;
      name_number = (member_entry c s k).name_number;
      element = e;
    }

-- what a leaf by value holds, of a type of n bytes
abbrev pub kind_of_content : Content → ℕ → Kind
kind_of_content (IsBasic (IsWhole signed ls)) n = kinds.Whole (record { bytes = n; signed = signed })
kind_of_content (IsBasic (IsFloat k)) n = kinds.Bits n
kind_of_content (IsBasic IsVoid) n = kinds.Opaque
kind_of_content (IsStruct s) n = kinds.Opaque
kind_of_content IsOpaque n = kinds.Opaque

-- what the leaf of member k of struct s holds
unfoldable pub kind_of : Catalogue → ℕ → ℕ → Kind
kind_of c s k =
    let t = (member_entry c s k).type_number in
    if (name_of c s k).pointer
    then kinds.Pointer (name_of c s k).depth t
    else kind_of_content (content_of c t) (type_entry c t).length

-- a leaf of an inner struct as a leaf of the outer one: behind one member more, and so many bytes further
-- on
abbrev pub leaf_behind : MemberStep → ℕ → NamedLeaf → NamedLeaf
leaf_behind step by x = record x { way = step ∷ x.way; offset = by + x.offset }

-- the one leaf of a member that isn't a struct by value
abbrev pub own_leaf : Catalogue → Width → ℕ → ℕ → NamedLeaf
own_leaf c w s k = record {
  way = member_step c s k 0 ∷ [];
  type_name = (type_entry c (member_entry c s k).type_number).name;
  kind = kind_of c s k;
  offset = member_offset c w s k;
  size = element_size c w s k;
  count = (name_of c s k).count;
}

-- the leaves of element e of a member that is a struct by value, which has some leaves inside
abbrev pub inner_leaves : List NamedLeaf → Catalogue → Width → ℕ → ℕ → ℕ → List NamedLeaf
inner_leaves inside c w s k e =
    map (leaf_behind (member_step c s k e) (member_offset c w s k + e * element_size c w s k)) inside

-- the leaves of a member by the struct that it is by value: of each element, or its own one
abbrev pub leaves_by : (ℕ → List NamedLeaf) → Catalogue → Width → ℕ → ℕ → Option ℕ → List NamedLeaf
leaves_by inside c w s k (Some t) =
    flat_map (inner_leaves (inside t) c w s k) (numbers_below (name_of c s k).count)
leaves_by inside c w s k None = own_leaf c w s k ∷ []

-- the leaves of a member, by those inside each struct; a member of size 0 has none
unfoldable pub member_leaves : (ℕ → List NamedLeaf) → Catalogue → Width → ℕ → ℕ → List NamedLeaf
member_leaves inside c w s k =
    if member_size c w s k == 0 then [] else leaves_by inside c w s k (inner_struct c s k)

-- the leaves of a struct that is nested at most n deep
unfoldable pub leaves_within : ℕ → Catalogue → Width → ℕ → List NamedLeaf
leaves_within zero c w s = []
leaves_within (suc n) c w s = flat_map (member_leaves (leaves_within n c w) c w s) (member_numbers c s)

-- the leaves of a struct with the names on the way to them; no struct of an accepted file is nested so deep
unfoldable pub named_leaves : Catalogue → Width → ℕ → List NamedLeaf
named_leaves c w s = leaves_within (deepest_nesting + 1) c w s

-- the outermost member on a way
abbrev pub first_member : List MemberStep → ℕ
first_member [] = 0
first_member (step ∷ steps) = step.member

-- the leaf by the numbers of the names on the way to it
abbrev pub leaf_of : NamedLeaf → Leaf
leaf_of x = record {
  member = first_member x.way;
  steps = map (λ step. record { name_number = step.name_number; element = step.element }) x.way;
  kind = x.kind;
  offset = x.offset;
  size = x.size;
  count = x.count;
}

-- the leaves of a struct, in order
unfoldable pub leaves_of : Catalogue → Width → ℕ → List Leaf
leaves_of c w s = map leaf_of (named_leaves c w s)

-- what is known of member k of struct s by its name and its place
unfoldable pub shape_of : Catalogue → Width → ℕ → ℕ → Shape
shape_of c w s k =
    let n = name_of c s k in
    record {
      pointer = n.pointer;
      depth = n.depth;
      identifier_at = n.identifier_at;
      identifier_len = length n.identifier;
      key_len = length n.key;
      brackets = n.brackets;
      count = n.count;
      offset = member_offset c w s k;
      size = member_size c w s k;
      inner = inner_struct c s k;
    }

-- ---- the two limits, and all faults

-- how deep structs stand in a struct, as far as n; one without structs by value has 1
unfoldable pub nesting_within : ℕ → Catalogue → ℕ → ℕ
nesting_within zero c s = 0
nesting_within (suc n) c s = suc (fold max 0 (map (nesting_within n c) (inner_structs c s)))

-- how deep structs stand in a struct: where none stands in itself, at most as deep as there are structs
unfoldable pub nesting : Catalogue → ℕ → ℕ
nesting c s = nesting_within (length c.structs) c s

-- the nesting of the first struct that passes the limit
unfoldable pub depth_fault : Catalogue → Option LayoutFault
depth_fault c = find_map fault (struct_numbers c)
  where
    fault : ℕ → Option LayoutFault
    fault s = if nat_lt deepest_nesting (nesting c s) then Some (TooDeep (nesting c s)) else None

-- how many leaves the structs below a number have together
unfoldable pub leaves_below : Catalogue → Width → ℕ → ℕ
leaves_below c w s = sum (map (λ t. length (named_leaves c w t)) (numbers_below s))

-- the leaves up to and with the first struct at which they pass the limit
unfoldable pub leaves_fault : Catalogue → Width → Option LayoutFault
leaves_fault c w = find_map fault (struct_numbers c)
  where
    fault : ℕ → Option LayoutFault
    fault s =
        let leaves = leaves_below c w (suc s) in
        if nat_lt most_leaves leaves then Some (TooManyLeaves leaves) else None

-- the first fault of a layout: of a member, else the first struct that passes the limit on nesting, else
-- the first at which the leaves pass theirs
unfoldable pub layout_fault : Catalogue → Width → Option LayoutFault
layout_fault c w = option_or (first_fault c w) (option_or (depth_fault c) (leaves_fault c w))

-- a catalogue that some payload has, with a layout at a width
pub record HasLayout (c : Catalogue) (w : Width) : Type 0 where
  pub can_be_read : CanBeRead c
  pub no_fault : layout_fault c w ≡ None
