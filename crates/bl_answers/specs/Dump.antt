-- What dump prints: the rows of all nodes, in the form of a reporter. This project's own.
use Rattle.std.specs.Prelude.{ℕ, ◌+◌, ◌*◌, ◌&&◌, nat_lt, if◌then◌else◌, List, [], ◌∷◌, ◌++◌, length, map, flat_map, Option, Some, None, codes, decimal}
use Rattle.std.specs.List.{enumerate_from}
use Rattle.std.specs.Int.{div_ceil}
use Rattle.bl_num.specs.declared.number.Width.{Width}
use Rattle.bl_format.specs.declared.catalogue.Catalogue.{Catalogue}
use Rattle.bl_format.specs.declared.raw.RawKind.{RawKind}
use Rattle.bl_format.specs.declared.raw.RawKind.TheVariants as raw
use Rattle.bl_format.specs.Words.{part, numbers_below}
use Rattle.bl_format.specs.Layout.{MemberStep, NamedLeaf, named_leaves, struct_name, name_of, struct_number}
use Rattle.bl_format.specs.Graph.{Target, Value, Fields, Contents, IsBytes, IsNumbers, IsPointers, IsPair, Node, Struct, Raw}
use Rattle.bl_format.specs.Nodes.{pair_length}
use Rattle.bl_selection.specs.Fate.{is_char}
use Rattle.bl_linking.specs.References.{Graph, text_from}
use Rattle.bl_commands.specs.declared.report.Row.{Row}
use Rattle.bl_commands.specs.declared.report.Value.{Value as Shown}
use Rattle.bl_commands.specs.declared.report.Value.TheVariants.{Bits, Node as ShownNode, Bytes, Chars}
use Rattle.bl_commands.specs.Texts.{Text, Piece, row_text}
use Rattle.bl_answers.specs.Values.{value_at, shown_value}

-- `[k]` where there is an element to tell
abbrev pub index_text : Option ℕ → Text
index_text None = []
index_text (Some k) = codes "[" ++ decimal k ++ codes "]"

-- the element of a step that a path tells: element k, where the member has more than one
abbrev pub told_element : Catalogue → MemberStep → ℕ → Option ℕ
told_element c step k = if nat_lt 1 (name_of c step.s step.member).count then Some k else None

-- a way as text: identifiers joined by `.`, with the elements told; the last one has an index of its own
abbrev pub way_text : Catalogue → List MemberStep → (MemberStep → Option ℕ) → Text
way_text c [] last = []
way_text c (step ∷ []) last = step.identifier ++ index_text (last step)
way_text c (step ∷ next ∷ steps) last =
    step.identifier
    ++ index_text (told_element c step step.element)
    ++ codes "."
    ++ way_text c (next ∷ steps) last

-- the paths and values of a leaf: one with the text of a `char` array of more than one, and else one for
-- each element
abbrev pub leaf_rows : Catalogue → Fields → NamedLeaf → List (Text × Shown)
leaf_rows c fs x =
    let values = map (value_at fs x) (numbers_below x.count) in
    if is_char x && nat_lt 1 x.count
    then (way_text c x.way (λ step. None), Chars (text_from values)) ∷ []
    else map row_at (enumerate_from 0 values)
  where
    row_at : ℕ × Value Target → Text × Shown
    row_at p = (way_text c x.way (λ step. told_element c step p.0), shown_value x.kind p.1)

-- how many bytes of a raw node a row shows
abbrev pub row_bytes : ℕ
row_bytes = 32

-- the paths and values of bytes that stand at a place, cut into pieces
abbrev pub byte_rows : ℕ → List ℕ → List (Text × Shown)
byte_rows at bytes = map piece (numbers_below (div_ceil (length bytes) row_bytes))
  where
    piece : ℕ → Text × Shown
    piece i = (codes "@" ++ decimal (at + row_bytes * i), Bytes (part bytes (row_bytes * i) row_bytes))

-- the paths and values of what a raw node holds
abbrev pub content_rows : RawKind → Contents → List (Text × Shown)
content_rows kind (IsBytes bytes) = byte_rows 0 bytes
content_rows (raw.Numbers n) (IsNumbers patterns rest) =
    map (λ (p : ℕ × ℕ). (index_text (Some p.0), Bits n p.1)) (enumerate_from 0 patterns)
    ++ byte_rows (n * length patterns) rest
content_rows kind (IsNumbers patterns rest) = []
content_rows kind (IsPointers nodes) =
    map (λ (p : ℕ × Target). (index_text (Some p.0), ShownNode p.1)) (enumerate_from 0 nodes)
content_rows kind (IsPair first second rest) =
    (codes "first", Bits 4 first) ∷ (codes "second", Bits 4 second) ∷ byte_rows pair_length rest

-- a row of element e of node n, by a path and a value
abbrev pub row_of : ℕ → List ℕ → List ℕ → ℕ → Text × Shown → Row
row_of n code name e p = record {
  node = n;
  code = code;
  struct_name = name;
  element = e;
  path = p.0;
  value = p.1;
}

-- the rows of node n
unfoldable pub node_rows : Catalogue → Width → ℕ → Node → List Row
node_rows c w n (Struct code name group es) =
    let xs = named_leaves c w (struct_number c name) in
    let element_rows = λ (p : ℕ × Fields). map (row_of n code name p.0) (flat_map (leaf_rows c p.1) xs) in
    flat_map element_rows (enumerate_from 0 es)
node_rows c w n (Raw code group count kind contents) =
    map (row_of n code (codes "raw") 0) (content_rows kind contents)

-- the rows of all nodes
unfoldable pub graph_rows : Catalogue → Width → Graph → List Row
graph_rows c w g = flat_map (λ (p : ℕ × Node). node_rows c w p.0 p.1) (enumerate_from 0 g)

-- what dump prints: what a reporter of a form says of all rows
unfoldable pub dump_text : List Piece → Catalogue → Width → Graph → Text
dump_text form c w g = flat_map (row_text form) (graph_rows c w g)
