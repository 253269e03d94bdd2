-- The graph of a file: its nodes with the values that they hold and the nodes that their pointers name,
-- whatever the addresses, lengths and tails in the bytes. Two files with equal graphs say the same. This
-- project's own, over the structs of Blender's SDNA.
use Rattle.std.specs.Prelude.{ℕ, ◌+◌, ◌*◌, ◌/◌, ◌==◌, if◌then◌else◌, List, [], ◌∷◌, length, drop, map, flat_map, Option, Some, None, ℤ}
use Rattle.bl_num.specs.declared.number.Order.{Order}
use Rattle.bl_num.specs.declared.number.Width.{Width}
use Rattle.bl_num.specs.declared.number.Form.{Form}
use Rattle.bl_num.specs.Numbers.{number_of, number_meant, pointer_bytes}
use Rattle.bl_format.specs.declared.file.Header.{Header}
use Rattle.bl_format.specs.declared.file.Head.{Head}
use Rattle.bl_format.specs.declared.catalogue.Catalogue.{Catalogue}
use Rattle.bl_format.specs.declared.layout.Kind.{Kind}
use Rattle.bl_format.specs.declared.layout.Kind.TheVariants as kinds
use Rattle.bl_format.specs.declared.raw.RawKind.{RawKind}
use Rattle.bl_format.specs.declared.raw.RawKind.TheVariants as raw
use Rattle.bl_format.specs.declared.raw.View.{View}
use Rattle.bl_format.specs.Words.{part, numbers_below}
use Rattle.bl_format.specs.Layout.{MemberStep, NamedLeaf, named_leaves, struct_name, struct_length}
use Rattle.bl_format.specs.Nodes.{File, payload, group_of, marks, target_of, view_of_type, pair_length, raw_kind}
use Rattle.std.specs.List.{enumerate_from}

-- ---- what a graph is made of

-- a value: a whole number, a bit pattern, what a pointer names, or bytes; P is what pointers name
pub data Value (P : Type 0) : Type 0 where
  Number : (number : ℤ) → Value P
  Pattern : (bits : ℕ) → Value P
  Points : (to : P) → Value P
  Opaque : (bytes : List ℕ) → Value P

-- in a graph a pointer names a node or is null
abbrev pub Target : Type 0
Target = Option ℕ

-- the identifiers and elements on the way to a value
abbrev pub Path : Type 0
Path = List (List ℕ × ℕ)

-- one element of a struct node: each path once, in the catalogue's order, so the list is a finite map
abbrev pub Fields : Type 0
Fields = List (Path × Value Target)

-- what a raw node holds by its kind; numbers and a pair are followed by the bytes behind them
pub data Contents : Type 0 where
  IsBytes : (bytes : List ℕ) → Contents
  IsNumbers : (patterns rest : List ℕ) → Contents
  IsPointers : (nodes : List Target) → Contents
  IsPair : (first second : ℕ) → (rest : List ℕ) → Contents

-- a struct node has its code, its struct's name, its group and its elements; a raw one its code, group,
-- count, kind and contents
pub data Node : Type 0 where
  Struct : (code name : List ℕ) → (group : ℕ) → (elements : List Fields) → Node
  Raw : (code : List ℕ) → (group count : ℕ) → (kind : RawKind) → (contents : Contents) → Node

-- ---- reading values

-- what addresses name
abbrev pub Naming : Type 0 → Type 0
Naming P = ℕ → P

-- the value that some bytes have as a leaf of a kind
abbrev pub value_by : {P : Type 0} → Kind → Naming P → Order → List ℕ → Value P
value_by (kinds.Whole whole) names order bytes = Number (number_meant whole (number_of order whole.bytes bytes))
value_by (kinds.Bits n) names order bytes = Pattern (number_of order n bytes)
value_by (kinds.Pointer depth t) names order bytes = Points (names (number_of order (length bytes) bytes))
value_by kinds.Opaque names order bytes = Opaque bytes

-- the bytes of element k of a leaf, in those of a struct's element
abbrev pub leaf_bytes : NamedLeaf → List ℕ → ℕ → List ℕ
leaf_bytes x bytes k = part bytes (x.offset + k * x.size) x.size

-- the value of element k of a leaf, in the bytes of a struct's element
unfoldable pub leaf_value : {P : Type 0} → Naming P → Order → List ℕ → NamedLeaf → ℕ → Value P
leaf_value names order bytes x k = value_by x.kind names order (leaf_bytes x bytes k)

-- the path of element k of a leaf: the last member on the way has element k
abbrev pub path_of : List MemberStep → ℕ → Path
path_of [] k = []
path_of (step ∷ []) k = (step.identifier, k) ∷ []
path_of (step ∷ next ∷ steps) k = (step.identifier, step.element) ∷ path_of (next ∷ steps) k

-- a value of a struct's element, with its leaf and the element of that leaf
pub record Cell : Type 0 where
  pub leaf : NamedLeaf
  pub at : ℕ
  pub value : Value Target

-- a cell for each leaf and each of its elements, with the value that a function gives by the leaf's number,
-- the leaf and the element
unfoldable pub cells : (ℕ → NamedLeaf → ℕ → Value Target) → List NamedLeaf → List Cell
cells value xs = flat_map (λ p. map (cell_of p.0 p.1) (numbers_below p.1.count)) (enumerate_from 0 xs)
  where
    cell_of : ℕ → NamedLeaf → ℕ → Cell
    cell_of j x k = record { leaf = x; at = k; value = value j x k }

-- the map from path to value that some cells make
abbrev pub fields : List Cell → Fields
fields cs = map (λ (c : Cell). (path_of c.leaf.way c.at, c.value)) cs

-- so many elements of one size, in the bytes of a payload
abbrev pub elements : List ℕ → ℕ → ℕ → List (List ℕ)
elements bytes size count = map (λ e. part bytes (e * size) size) (numbers_below count)

-- the cells of one element of struct s, by its bytes
abbrev pub struct_cells : Naming Target → Order → Catalogue → Width → ℕ → List ℕ → List Cell
struct_cells names order c w s bytes =
    cells (λ j x k. leaf_value names order bytes x k) (named_leaves c w s)

-- ---- raw contents

-- as many pieces of n bytes as fit, one behind another
abbrev pub pieces : ℕ → List ℕ → List (List ℕ)
pieces n bytes = map (λ i. part bytes (i * n) n) (numbers_below (length bytes / n))

-- what bytes of a kind hold; what is left behind the last pointer isn't in the graph
unfoldable pub contents_by : RawKind → Naming Target → Form → List ℕ → Contents
contents_by raw.Bytes names form bytes = IsBytes bytes
contents_by (raw.Numbers n) names form bytes =
    IsNumbers (map (number_of form.order n) (pieces n bytes)) (drop (length bytes / n * n) bytes)
contents_by raw.Pointers names form bytes =
    let w = pointer_bytes form.width in
    IsPointers (map (λ p. names (number_of form.order w p)) (pieces w bytes))
contents_by raw.Pair names form bytes =
    IsPair (number_of form.order 4 bytes) (number_of form.order 4 (drop 4 bytes)) (drop pair_length bytes)

-- how long raw bytes of a kind are at another width
abbrev pub raw_length : RawKind → ℕ → Width → Width → ℕ
raw_length raw.Bytes len from to = len
raw_length (raw.Numbers n) len from to = len
raw_length raw.Pointers len from to = len / pointer_bytes from * pointer_bytes to
raw_length raw.Pair len from to = len

-- ---- views

-- what a value says of the node that it names, as a leaf of a kind
abbrev pub view_by : Catalogue → Kind → Value Target → List View
view_by c (kinds.Pointer depth t) (Points (Some n)) = view_list n (view_of_type c depth t)
  where
    view_list : ℕ → Option RawKind → List View
    view_list n None = []
    view_list n (Some k) = record { node = n; kind = k } ∷ []
view_by c k v = []

-- what the pointers among some cells say
abbrev pub views_of : Catalogue → List Cell → List View
views_of c cs = flat_map (λ (x : Cell). view_by c x.leaf.kind x.value) cs

-- ---- the graph

-- how a file of this header writes pointers and numbers
abbrev pub form_of : Header → Form
form_of h = record { width = h.width; order = h.order }

-- the codes of a file's nodes
abbrev pub file_codes : File → List (List ℕ)
file_codes f = map (λ (x : Head). x.code) f.nodes

-- what addresses name in a group of a file
abbrev pub file_names : File → ℕ → Naming Target
file_names f g = target_of (marks f) g

-- the bytes of each element of a struct node
abbrev pub node_elements : File → Head → List (List ℕ)
node_elements f x = elements (payload f.header f.bytes x) (struct_length f.catalogue x.index) x.count

-- the cells of each element of node k, a struct node
unfoldable pub node_cells : File → ℕ → Head → List (List Cell)
node_cells f k x =
    let g = group_of (file_codes f) k in
    let names = file_names f g in
    map (struct_cells names f.header.order f.catalogue f.header.width x.index) (node_elements f x)

-- what the pointers of node k say of the nodes that they name; a raw node says nothing
abbrev pub node_views : File → ℕ → Head → List View
node_views f k x = if x.index == 0 then [] else flat_map (views_of f.catalogue) (node_cells f k x)

-- what all pointers of a file say
unfoldable pub file_views : File → List View
file_views f = flat_map (λ p. node_views f p.0 p.1) (enumerate_from 0 f.nodes)

-- node k, by what all pointers say
unfoldable pub node_of : File → List View → ℕ → Head → Node
node_of f views k x =
    let g = group_of (file_codes f) k in
    let kind = raw_kind views x.code x.len k in
    let bytes = payload f.header f.bytes x in
    if x.index == 0
    then Raw x.code g x.count kind (contents_by kind (file_names f g) (form_of f.header) bytes)
    else Struct x.code (struct_name f.catalogue x.index) g (map fields (node_cells f k x))

-- the nodes of a file, in order
unfoldable pub graph : File → List Node
graph f = map (λ p. node_of f (file_views f) p.0 p.1) (enumerate_from 0 f.nodes)
