-- When a graph fits a header and a catalogue, so that its written form is accepted and has that graph. This project's
-- own.
use Rattle.std.specs.Prelude.{◌≡◌, ◌≢◌, ℕ, ◌^◌, ◌<◌, ◌≤◌, ◌==◌, ◌||◌, true, false, All, List, [], length, map, flat_map, zip, get_or, Some, None, codes}
use Rattle.std.specs.List.{enumerate_from}
use Rattle.std.specs.Str.{bytes_eq}
use Rattle.bl_num.specs.declared.number.Width.{Width}
use Rattle.bl_num.specs.Numbers.{pointer_bytes}
use Rattle.bl_format.specs.declared.file.Header.{Header}
use Rattle.bl_format.specs.declared.catalogue.Catalogue.{Catalogue}
use Rattle.bl_format.specs.declared.raw.View.{View}
use Rattle.bl_format.specs.Blocks.{IsCount, code_meant, first_version, last_version}
use Rattle.bl_format.specs.Schema.{catalogue_written}
use Rattle.bl_format.specs.Layout.{HasLayout, named_leaves, struct_length, struct_number}
use Rattle.bl_format.specs.Nodes.{Mark, group_of, is_id, target_of, raw_kind}
use Rattle.bl_format.specs.Graph.{Target, Naming, Fields, Node, Struct, Raw, view_by, IsBytes}
use Rattle.bl_format.specs.declared.raw.RawKind.TheVariants as raw
use Rattle.bl_selection.specs.Written.{address_of, element_written, contents_written}
use Rattle.bl_selection.specs.Fits.{Slot, slots, FieldsFit, ContentsFit}

-- ---- nodes of a graph as blocks

-- a node's code
abbrev pub node_code : Node → List ℕ
node_code (Struct code name g es) = code
node_code (Raw code g n kind contents) = code

-- a node's group
abbrev pub node_group : Node → ℕ
node_group (Struct code name g es) = g
node_group (Raw code g n kind contents) = g

-- the number of a node's struct, and 0 for raw data
abbrev pub node_index : Catalogue → Node → ℕ
node_index c (Struct code name g es) = struct_number c name
node_index c (Raw code g n kind contents) = 0

-- how many elements a node has
abbrev pub node_count : Node → ℕ
node_count (Struct code name g es) = length es
node_count (Raw code g n kind contents) = n

-- the elements of a struct, one after another as they are written
abbrev pub elements_written : Header → Catalogue → ℕ → List Fields → List ℕ
elements_written h c s es = flat_map (element_written h.order (struct_length c s) (named_leaves c h.width s)) es

-- the payload of a node
abbrev pub node_payload : Header → Catalogue → Node → List ℕ
node_payload h c (Struct code name g es) = elements_written h c (struct_number c name) es
node_payload h c (Raw code g n kind contents) = contents_written h kind contents

-- ---- what addresses name, and what pointers say

-- the codes of all nodes
abbrev pub node_codes : List Node → List (List ℕ)
node_codes nodes = map node_code nodes

-- what an address is compared with in node k of a graph
abbrev pub mark_in : Catalogue → List Node → ℕ → Node → Mark
mark_in c nodes k x = record {
  group = group_of (node_codes nodes) k;
  address = address_of (Some k);
  is_an_id = is_id c (node_code x) (node_count x) (node_index c x);
}

-- the marks of all nodes
unfoldable pub graph_marks : Catalogue → List Node → List Mark
graph_marks c nodes = map (λ p. mark_in c nodes p.0 p.1) (enumerate_from 0 nodes)

-- what addresses name for node k
abbrev pub names_for : Catalogue → List Node → ℕ → Naming Target
names_for c nodes k = target_of (graph_marks c nodes) (group_of (node_codes nodes) k)

-- a node that holds nothing, where a number is out of range
abbrev pub no_node : Node
no_node = Raw [] 0 0 raw.Bytes (IsBytes [])

-- a pointer in node k may name this: null, a node of k's group, or an ID
abbrev pub IsInScope : Catalogue → List Node → ℕ → Target → Type 0
IsInScope c nodes k None = Unit {0}
IsInScope c nodes k (Some t) =
    let y = get_or nodes t no_node in
    (t < length nodes)
    × ((group_of (node_codes nodes) t == group_of (node_codes nodes) k
    || is_id c (node_code y) (node_count y) (node_index c y)) ≡ true)

-- what the pointers among the fields of some leaf elements say
abbrev pub views_of_fields : Catalogue → List Slot → Fields → List View
views_of_fields c es fs = flat_map (λ q. view_by c q.0.0.kind q.1.1) (zip es fs)

-- what the pointers of a node say
abbrev pub views_of_node : Catalogue → Width → Node → List View
views_of_node c w (Struct code name g es) =
    flat_map (views_of_fields c (slots (named_leaves c w (struct_number c name)))) es
views_of_node c w (Raw code g n kind contents) = []

-- what all pointers of a graph say
unfoldable pub graph_views : Catalogue → Width → List Node → List View
graph_views c w nodes = flat_map (views_of_node c w) nodes

-- ---- what fits

-- what node k holds fits: a struct's fields its leaves and its scope, raw contents the kind that all pointers give
abbrev pub HoldsWhatFits : Header → Catalogue → List Node → ℕ → Node → Type 0
HoldsWhatFits h c nodes k (Struct code name g es) =
    (struct_number c name ≢ 0)
    × All (FieldsFit (names_for c nodes k) (slots (named_leaves c h.width (struct_number c name)))) es
HoldsWhatFits h c nodes k (Raw code g n kind contents) =
    (raw_kind (graph_views c h.width nodes) code (length (contents_written h kind contents)) k ≡ kind)
    × ContentsFit (names_for c nodes k) h.width kind contents

-- node k fits: its code reads back and is neither a catalogue's nor the end's, its group is the one that the codes
-- give, its numbers fit, and so does what it holds
pub record NodeFits (h : Header) (c : Catalogue) (nodes : List Node) (k : ℕ) (x : Node) : Type 0 where
  pub code_len : length (node_code x) ≡ 4
  pub code : code_meant (node_code x) ≡ node_code x
  pub no_end : bytes_eq (node_code x) (codes "ENDB") ≡ false
  pub no_catalogue : bytes_eq (node_code x) (codes "DNA1") ≡ false
  pub group : group_of (node_codes nodes) k ≡ node_group x
  pub len : IsCount (length (node_payload h c x))
  pub address : address_of (Some k) < 256 ^ pointer_bytes h.width
  pub index : IsCount (node_index c x)
  pub count : IsCount (node_count x)
  pub holds : HoldsWhatFits h c nodes k x

-- a graph fits a header and a catalogue: the version is read, the catalogue has a layout and can be written, and each
-- node fits
pub record GraphFits (h : Header) (c : Catalogue) (nodes : List Node) : Type 0 where
  pub version : (first_version ≤ h.version) × (h.version ≤ last_version)
  pub layout : HasLayout c h.width
  pub catalogue : IsCount (length (catalogue_written h.order c))
  pub each : All (λ p. NodeFits h c nodes p.0 p.1) (enumerate_from 0 nodes)
