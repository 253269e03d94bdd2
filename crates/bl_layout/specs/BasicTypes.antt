-- What a type holds, as the code holds it, and what that means.
use Rattle.std.specs.Prelude.{◌≡◌, ◌==◌, ◌<◌, ℕ, List, [], ◌∷◌, length, Option, Some, None, if◌then◌else◌}
use Rattle.std.specs.List.{slice_index_or}
use Rattle.bl_format.specs.Layout.{Basic as BasicType, IsWhole, IsFloat, IsVoid, Content as TypeContent, IsBasic, IsStruct, IsOpaque, basic_named, basic_or_struct}
use Rattle.bl_format.specs.Words.{first_place, contains}
use Rattle.bl_format.specs.declared.catalogue.TypeEntry.{TypeEntry}
use Rattle.bl_format.specs.declared.catalogue.StructEntry.{StructEntry}
use Rattle.bl_layout.specs.declared.basic_types.Basic.{Basic}
use Rattle.bl_layout.specs.declared.basic_types.Basic.TheVariants.{Whole, Long, Float, Void}
use Rattle.bl_layout.specs.declared.basic_types.Content.{Content}
use Rattle.bl_layout.specs.declared.basic_types.Content.TheVariants as contents

-- the basic type that is meant
abbrev pub basic_meant : Basic → BasicType
basic_meant (Whole signed n) = IsWhole signed (n ∷ [])
basic_meant (Long signed) = IsWhole signed (4 ∷ 8 ∷ [])
basic_meant (Float n) = IsFloat n
basic_meant Void = IsVoid

-- the content that is meant
abbrev pub content_meant : Content → TypeContent
content_meant (contents.Basic b) = IsBasic (basic_meant b)
content_meant (contents.Struct s) = IsStruct s
content_meant contents.Opaque = IsOpaque

-- the bytes of what a pointer to a basic type points to, by the length of its type
abbrev pub length_behind : BasicType → ℕ → Option ℕ
length_behind (IsWhole signed (k ∷ [])) n = Some k
length_behind (IsWhole signed ks) n = if contains ks n then Some n else None
length_behind (IsFloat k) n = Some k
length_behind IsVoid n = Some 0

-- the number of the struct of a type, among some structs
abbrev pub struct_among : List StructEntry → ℕ → Option ℕ
struct_among structs t = first_place (λ s. s.type_number == t) structs

-- by the number of a type, the number of its struct
pub record IsStructTable (types : ℕ) (structs : List StructEntry) (table : List (Option ℕ)) : Type 0 where
  pub len : length table ≡ types
  pub numbers : (t : ℕ) → t < types → slice_index_or table t None ≡ struct_among structs t

-- by the number of a type, what it holds
pub record AreContents (types : List TypeEntry) (structs : List StructEntry) (table : List Content) : Type 0 where
  pub len : length table ≡ length types
  pub contents : (t : ℕ) → t < length types
      → content_meant (slice_index_or table t contents.Opaque)
      ≡ basic_or_struct (basic_named (slice_index_or types t (record { name = []; length = 0 })).name) (struct_among structs t)
