-- What pointers say of raw nodes, as it is gathered: views of struct nodes are left out.
use Rattle.std.specs.Prelude.{◌≡◌, ◌<◌, ℕ, ◌+◌, ◌*◌, ◌==◌, nat_le, if◌then◌else◌, Bool, false, List, [], length, map, flat_map, filter, slice_get, take, get_or, All, Option, Some, None}
use Rattle.std.specs.List.{enumerate_from}
use Rattle.bl_num.specs.declared.number.Order.{Order}
use Rattle.bl_format.specs.declared.file.Head.{Head}
use Rattle.bl_format.specs.declared.file.Header.{Header}
use Rattle.bl_format.specs.declared.catalogue.Catalogue.{Catalogue}
use Rattle.bl_format.specs.declared.raw.RawKind.{RawKind}
use Rattle.bl_format.specs.declared.raw.RawKind.TheVariants.{Bytes, Numbers, Pointers, Pair}
use Rattle.bl_format.specs.declared.raw.View.{View}
use Rattle.bl_format.specs.Words.{numbers_below, part}
use Rattle.bl_format.specs.Blocks.{head_size}
use Rattle.bl_format.specs.Layout.{HasLayout, struct_length}
use Rattle.bl_format.specs.Nodes.{is_pair_code, pair_length, viewed_kind}
use Rattle.bl_format.specs.Graph.{Target, Naming}
use Rattle.bl_selection.specs.Selection.{no_head}
use Rattle.bl_file.specs.declared.speakers.Speaker.{Speaker}
use Rattle.bl_file.specs.declared.views.Sight.{Sight}
use Rattle.bl_file.specs.Heard.{AreHeard, views_of_target}
use Rattle.bl_file.specs.Outlines.{IsNodeIn}
use Rattle.bl_file.specs.Seen.{Namings}
use Rattle.bl_file.specs.Speakers.{speaker_number}

-- ---- raw nodes

-- a head is there, and that of raw data
abbrev pub is_raw_head : Option Head → Bool
is_raw_head None = false
is_raw_head (Some x) = x.index == 0

-- a node is raw
abbrev pub is_raw : List Head → ℕ → Bool
is_raw nodes n = is_raw_head (slice_get nodes n)

-- what is named, where it is a raw node
abbrev pub raw_target : List Head → Target → Target
raw_target nodes None = None
raw_target nodes (Some n) = if is_raw nodes n then Some n else None

-- of raw nodes two namings name the same
abbrev pub SaysOfRaw : List Head → Naming Target → Naming Target → Type 0
SaysOfRaw nodes names others = (address : ℕ) → raw_target nodes (names address) ≡ raw_target nodes (others address)

-- the views of raw nodes
abbrev pub raw_only : List Head → List View → List View
raw_only nodes views = filter (λ (v : View). is_raw nodes v.node) views

-- ---- views

-- the views of the first n elements of a leaf
abbrev pub element_views : List Head → Naming Target → Order → List ℕ → Speaker → ℕ → List View
element_views nodes names order bytes x n =
    flat_map (λ k. views_of_target x.kind (raw_target nodes (names (speaker_number order x bytes k)))) (numbers_below n)

-- the views of a leaf
abbrev pub speaker_views : List Head → Naming Target → Order → List ℕ → Speaker → List View
speaker_views nodes names order bytes x = element_views nodes names order bytes x x.count

-- the views of some leaves
abbrev pub speakers_views : List Head → Naming Target → Order → List ℕ → List Speaker → List View
speakers_views nodes names order bytes speakers = flat_map (speaker_views nodes names order bytes) speakers

-- ---- nodes

-- the place of element e of a node, in bytes from the file's start
abbrev pub element_at : Header → Catalogue → Head → ℕ → ℕ
element_at h c x e = x.at + head_size h + e * struct_length c x.index

-- the views of element e of a node by the leaves of its struct, in the bytes of its file
abbrev pub element_said : List Speaker → List Head → Naming Target → Header → Catalogue → Head → List ℕ → ℕ → List View
element_said speakers nodes names h c x b e =
    speakers_views nodes names h.order (part b (element_at h c x e) (struct_length c x.index)) speakers

-- the views of the first n elements of a node
abbrev pub elements_said : List Speaker → List Head → Naming Target → Header → Catalogue → Head → List ℕ → ℕ → List View
elements_said speakers nodes names h c x b n = flat_map (element_said speakers nodes names h c x b) (numbers_below n)

-- the views of a node, by the leaves of each struct that say anything
abbrev pub node_said : List (List Speaker) → List Head → Naming Target → Header → Catalogue → Head → List ℕ → List View
node_said structs nodes names h c x b =
    if x.index == 0 then [] else elements_said (get_or structs x.index []) nodes names h c x b x.count

-- ---- kinds

-- the kind that views give, and bytes in place of a pair, which no view gives
abbrev pub viewed_or_bytes : RawKind → RawKind
viewed_or_bytes Bytes = Bytes
viewed_or_bytes (Numbers n) = Numbers n
viewed_or_bytes Pointers = Pointers
viewed_or_bytes Pair = Bytes

-- the kind of a node, by that which its views give
abbrev pub kind_by : Head → RawKind → RawKind
kind_by x viewed =
    if x.index == 0
    then (if is_pair_code x.code then (if nat_le pair_length x.len then Pair else Bytes) else viewed_or_bytes viewed)
    else Bytes

-- the kinds of nodes, by the views of the raw ones
abbrev pub kinds_by : List Head → List View → List RawKind
kinds_by nodes views = map (λ (p : ℕ × Head). kind_by p.1 (viewed_kind views p.0)) (enumerate_from 0 nodes)

-- ---- what is read, and of what

-- the views are of nodes that are there
abbrev pub AreInside : List Head → List View → Type 0
AreInside nodes views = All (λ (v : View). v.node < length nodes) views

-- by what pointers are read is that of a file of so many bytes: its nodes, and leaves that can be heard in its structs
pub record IsSight (s : Sight) (n : ℕ) : Type 0 where
  pub width : s.layout.now.width ≡ s.header.now.width
  pub has_layout : HasLayout s.layout.now.catalogue s.layout.now.width
  pub nodes : All (IsNodeIn s.header.now s.layout.now.catalogue n) s.nodes.now
  pub heard : AreHeard s.layout.now.catalogue s.speakers.now

-- the views of node k, which has this head
abbrev pub head_said : Namings → Sight → List ℕ → ℕ → Head → List View
head_said names s b k x =
    node_said s.speakers.now s.nodes.now (names k) s.header.now s.layout.now.catalogue x b

-- the views of node k
abbrev pub node_at_said : Namings → Sight → List ℕ → ℕ → List View
node_at_said names s b k = head_said names s b k (get_or s.nodes.now k no_head)

-- the views of the nodes before node k
abbrev pub nodes_said : Namings → Sight → List ℕ → ℕ → List View
nodes_said names s b k = flat_map (λ (p : ℕ × Head). head_said names s b p.0 p.1) (enumerate_from 0 (take k s.nodes.now))
