-- The shape of a member by its parts.
use Rattle.std.specs.Prelude.{ℕ, ◌<◌, ◌*◌, ◌^◌, Option}
use Rattle.bl_format.specs.declared.layout.Shape.{Shape}
use Rattle.bl_layout.specs.declared.leaves.Part.{Part}
use Rattle.bl_layout.specs.declared.member_names.NameShape.{NameShape}

-- the places and lengths in a name fit 32 bits
pub record IsShort (name : NameShape) : Type 0 where
  pub depth : name.depth < 2 ^ 32
  pub identifier_at : name.identifier_at < 2 ^ 32
  pub identifier_len : name.identifier_len < 2 ^ 32
  pub key_len : name.key_len < 2 ^ 32

-- the shape of a member by its name, the part that it is, and its struct
abbrev pub shape_with : NameShape → Part → Option ℕ → Shape
shape_with name part inner = record {
  pointer = name.pointer;
  depth = name.depth;
  identifier_at = name.identifier_at;
  identifier_len = name.identifier_len;
  key_len = name.key_len;
  brackets = name.brackets;
  count = part.count;
  offset = part.offset;
  size = part.size * part.count;
  inner = inner;
}
