-- The value of a leaf's element, and how it is shown. This project's own.
use Rattle.std.specs.Prelude.{ℕ, [], unwrap_or}
use Rattle.bl_format.specs.declared.layout.Kind.{Kind}
use Rattle.bl_format.specs.declared.layout.Kind.TheVariants as kinds
use Rattle.bl_format.specs.Layout.{NamedLeaf}
use Rattle.bl_format.specs.Graph.{Target, Value, Number, Pattern, Points, Opaque, Fields, path_of}
use Rattle.bl_linking.specs.References.{value_at_path}
use Rattle.bl_commands.specs.declared.report.Value.{Value as Shown}
use Rattle.bl_commands.specs.declared.report.Value.TheVariants.{Whole, Bits, Node as ShownNode, Bytes}

-- the value of element k of a leaf, among those of a struct's element
abbrev pub value_at : Fields → NamedLeaf → ℕ → Value Target
value_at fs x k = unwrap_or (value_at_path fs (path_of x.way k)) (Opaque [])

-- a value as a row shows it, by the kind of its leaf
abbrev pub shown_value : Kind → Value Target → Shown
shown_value kind (Number z) = Whole z
shown_value (kinds.Bits n) (Pattern v) = Bits n v
shown_value kind (Pattern v) = Bits 0 v
shown_value kind (Points to) = ShownNode to
shown_value kind (Opaque bytes) = Bytes bytes
