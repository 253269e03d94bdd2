-- The size of a member by its entry, and what its type holds.
use Rattle.std.specs.Prelude.{ℕ, ◌*◌, Bool, not, ◌&&◌, ◌||◌, is_some, if◌then◌else◌, Option, Some, None}
use Rattle.bl_num.specs.declared.number.Width.{Width}
use Rattle.bl_num.specs.Numbers.{pointer_bytes}
use Rattle.bl_format.specs.declared.catalogue.Catalogue.{Catalogue}
use Rattle.bl_format.specs.declared.catalogue.MemberEntry.{MemberEntry}
use Rattle.bl_format.specs.Members.{MemberName}
use Rattle.bl_format.specs.Layout.{Basic, Content, IsBasic, IsStruct, IsOpaque, name_entry, type_entry, is_bad_length, content_of, struct_of_content}
use Rattle.bl_layout.specs.MemberNames.{name_parts}

-- what a member's name says
abbrev pub parts_of : Catalogue → MemberEntry → MemberName
parts_of c m = name_parts (name_entry c m.name_number)

-- the bytes of one element of a member
abbrev pub element_size_of : Catalogue → Width → MemberEntry → ℕ
element_size_of c w m =
    if (parts_of c m).pointer then pointer_bytes w else (type_entry c m.type_number).length

-- the bytes of all elements of a member
abbrev pub size_of : Catalogue → Width → MemberEntry → ℕ
size_of c w m = element_size_of c w m * (parts_of c m).count

-- the basic type that is held
abbrev pub basic_in : Content → Option Basic
basic_in (IsBasic b) = Some b
basic_in (IsStruct s) = None
basic_in IsOpaque = None

-- a member of a basic type has another length than that, or its struct has the name of a basic type
abbrev pub has_bad_length : Content → Content → ℕ → Bool → Bool
has_bad_length own content length pointer =
    is_some (basic_in own) || (not pointer && is_bad_length (basic_in content) length)

-- the struct that a member is by value
abbrev pub inner_of : Catalogue → MemberEntry → Option ℕ
inner_of c m = if (parts_of c m).pointer then None else struct_of_content (content_of c m.type_number)
