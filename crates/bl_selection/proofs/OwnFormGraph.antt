-- Rebuilt under its own header and catalogue, the graph of an accepted file is the graph that it has.
use Rattle.std.proofs.Common.{◌≡◌, ℕ, zero, suc, ◌+◌, ◌^◌, ◌<◌, Bool, true, false, cond, All, List, [], ◌∷◌, length, get_or, drop, Option, Some, None, refl, sym, ap, subst, ◌∙◌, arith, inl, inr}
use Rattle.std.specs.Prelude.{◌==◌, nat_le, nat_lt, ◌*◌, map, flat_map}
use Rattle.std.specs.List.{enumerate_from}
use Rattle.std.proofs.lemmas.Bool.{leb-false, false_from_ne_true, eqb-true, cases_lt}
use Rattle.std.proofs.lemmas.List.{ext_get_or, get_or_past, length-map, length-take}
use Rattle.std.proofs.lemmas.List.Elements.{All-head, All-take, All-drop, All-filter}
use Rattle.std.proofs.lemmas.List.Folds.{flat_map-map}
use Rattle.std.proofs.lemmas.List.FromFn.{length-enumerate_from}
use Rattle.bl_format.specs.declared.file.Head.{Head}
use Rattle.bl_format.specs.declared.catalogue.Catalogue.{Catalogue}
use Rattle.bl_format.specs.declared.raw.View.{View}
use Rattle.bl_format.specs.Blocks.{header_size, head_size}
use Rattle.bl_format.specs.Schema.{CanBeRead}
use Rattle.bl_format.specs.Layout.{first_fault, struct_name, struct_length}
use Rattle.bl_format.specs.Nodes.{File, NodeFault, BadStruct, ShortBlock, payload, is_catalogue, node_fault, group_of, raw_kind, Accepted}
use Rattle.bl_format.specs.Graph.{Struct, Raw, fields, struct_cells, views_of, contents_by, form_of, file_codes, file_names, node_elements, node_cells, node_views, file_views, node_of, graph}
use Rattle.bl_format.proofs.BlocksOf.{IsBlockOf}
use Rattle.bl_format.proofs.MemberPasses.{first_fault-none}
use Rattle.bl_selection.specs.declared.draft.Draft.{Draft}
use Rattle.bl_selection.specs.declared.draft.Entry.{Entry}
use Rattle.bl_selection.specs.declared.draft.Entry.TheVariants as entries
use Rattle.bl_selection.specs.Selection.{no_head, index_under, entry_group, entry_names, source_cells, entry_cells, entry_views, selection_views, entry_node, selection_graph, rebuilt_graph}
use Rattle.bl_selection.specs.GraphFits.{no_node}
use Rattle.bl_selection.proofs.RebuiltStands.{each_of, nodes_stand}
use Rattle.bl_selection.proofs.OwnFormStructs.{struct_number-own}
use Rattle.bl_selection.proofs.OwnFormCells.{source_cells-own}
use Rattle.bl_selection.proofs.OwnFormNames.{at_place, HaveOwnIndex, own_selection, whole_selection-own, length-entries, entry_at-own, codes-own, names-own}

-- ---- the catalogue of an accepted file

-- the block that holds the catalogue stands in the file
pub place_stands : (b : List ℕ) (f : File) (accepted : Accepted b f) → IsBlockOf f.header b accepted.reads.place
place_stands b f accepted =
    let reads = accepted.reads.reads in
    let place : Head = accepted.reads.place in
    let blocks : All (IsBlockOf f.header b) accepted.blocks = each_of f.header b (header_size f.header) reads.end accepted.blocks (omega arith) reads.blocks_stand in
    All-head (IsBlockOf f.header b) place [] (subst (All (IsBlockOf f.header b)) accepted.reads.one_catalogue (All-filter is_catalogue (IsBlockOf f.header b) accepted.blocks blocks))

-- its payload is bytes, as few as its head says
pub place_bytes : (b : List ℕ) (f : File) (accepted : Accepted b f) → All (λ x. x < 256) b → All (λ x. x < 256) (payload f.header b accepted.reads.place)
place_bytes b f accepted bytes =
    let place : Head = accepted.reads.place in
    All-take (λ x. x < 256) place.len (drop (place.at + head_size f.header) b) (All-drop (λ x. x < 256) (place.at + head_size f.header) b bytes)

pub place_short : (b : List ℕ) (f : File) (accepted : Accepted b f) → length (payload f.header b accepted.reads.place) < 2 ^ 31
place_short b f accepted =
    let place : Head = accepted.reads.place in
    let len = (place_stands b f accepted).len in
    omega (arith, len, length-take place.len (drop (place.at + head_size f.header) b))

-- the catalogue of an accepted file can be read
pub accepted-CanBeRead : (b : List ℕ) (f : File) → All (λ x. x < 256) b → Accepted b f → CanBeRead f.catalogue
accepted-CanBeRead b f bytes accepted =
    let short = place_short b f accepted in
    record {
      order = f.header.order;
      payload = payload f.header b accepted.reads.place;
      bytes = place_bytes b f accepted bytes;
      short = omega (arith, short);
      reads = accepted.reads.catalogue;
    }

-- ---- its nodes

second_passes : (a b : Bool) (p : NodeFault) (o : Option NodeFault) → cond a None (cond b (Some p) o) ≡ None → a ≡ false → b ≡ false
second_passes true b p o e is = absurd (cc)
second_passes false true p o e is = absurd (cc)
second_passes false false p o e is = refl

-- a node without a fault is raw or of a struct of the catalogue
index_within : (c : Catalogue) (x : Head) (s : ℕ) → node_fault c x ≡ None → x.index ≡ suc s → suc s < length c.structs
index_within c x s none is =
    let some : (x.index == 0) ≡ false = false_from_ne_true (x.index == 0) (λ raw. let zero_is : x.index ≡ 0 = eqb-true x.index 0 raw in omega (arith, is, zero_is)) in
    let enough : nat_le (length c.structs) x.index ≡ false = second_passes (x.index == 0) (nat_le (length c.structs) x.index) (BadStruct x.at) (cond (nat_lt x.len (x.count * struct_length c x.index)) (Some (ShortBlock x.at)) None) none some in
    omega (arith, leb-false (length c.structs) x.index enough, is)

-- the number of a node's struct is that of its name
pub index-own : (c : Catalogue) (x : Head) → CanBeRead c → node_fault c x ≡ None → index_under c c x.index ≡ x.index
index-own c x read none = by_number x.index refl
  where
    by_number : (s : ℕ) → x.index ≡ s → index_under c c s ≡ s
    by_number zero is = refl
    by_number (suc s) is = struct_number-own c (suc s) read (index_within c x s none is)

-- each node of an accepted file is of a struct that the catalogue has under its number
pub accepted-HaveOwnIndex : (b : List ℕ) (f : File) → All (λ x. x < 256) b → Accepted b f → HaveOwnIndex f
accepted-HaveOwnIndex b f bytes accepted k =
    let c : Catalogue = f.catalogue in
    elim (cases_lt k (length f.nodes)) [
      | inl lt ↦ index-own c (get_or f.nodes k no_head) (accepted-CanBeRead b f bytes accepted) (nodes_stand b f accepted k no_head lt).no_fault
      | inr le ↦ subst (λ (x : Head). index_under c c x.index ≡ x.index) (sym (get_or_past f.nodes k no_head le)) refl
    ]

-- ---- the graph

module _ (f : File) (own : HaveOwnIndex f) (no_fault : first_fault f.catalogue f.header.width ≡ None) where
  abbrev files : List File
  files = f ∷ []

  abbrev d : Draft
  d = own_selection f

  abbrev node : ℕ → Head
  node k = get_or f.nodes k no_head

  -- an entry has the cells of its node
  cells-own : (k : ℕ) → source_cells files d k 0 k ≡ node_cells f k (node k)
  unfolding node_cells
  cells-own k =
      let x : Head = node k in
      let names = names-own f own k in
      source_cells-own files d k 0 k refl no_fault refl refl (own k)
      ∙ λ i. map (struct_cells (names i) f.header.order f.catalogue f.header.width x.index) (node_elements f x)

  -- so its pointers say what those of the node say
  views_here : (k : ℕ) → entry_views files d k (entries.Source 0 k) ≡ node_views f k (node k)
  unfolding entry_cells
  views_here k = by_index ((node k).index == 0)
    where
      by_index : (b : Bool) → flat_map (views_of f.catalogue) (cond b [] (source_cells files d k 0 k)) ≡ cond b [] (flat_map (views_of f.catalogue) (node_cells f k (node k)))
      by_index true = refl
      by_index false = ap (flat_map (views_of f.catalogue)) (cells-own k)

  -- what all entries give is what all nodes give
  each-own : {Y : Type 0} (g : ℕ × Entry → Y) (h : ℕ × Head → Y) (e : Y) → ((k : ℕ) → g (k, entries.Source 0 k) ≡ h (k, node k))
      → map g (enumerate_from 0 d.entries) ≡ map h (enumerate_from 0 f.nodes)
  each-own g h e same =
      let long : length (map g (enumerate_from 0 d.entries)) ≡ length f.nodes = length-map (enumerate_from 0 d.entries) g ∙ length-enumerate_from 0 d.entries ∙ length-entries f own in
      ext_get_or e (map g (enumerate_from 0 d.entries)) (map h (enumerate_from 0 f.nodes))
      (long ∙ sym (length-map (enumerate_from 0 f.nodes) h ∙ length-enumerate_from 0 f.nodes))
      (λ k below.
      let lt : k < length f.nodes = omega (arith, below, long) in
      at_place g d.entries k (entries.Raw [] []) e (omega (arith, lt, length-entries f own))
      ∙ ap (λ (y : Entry). g (k, y)) (entry_at-own f own k lt) ∙ same k ∙ sym (at_place h f.nodes k no_head e lt))

  views-own : selection_views files d ≡ file_views f
  unfolding selection_views file_views
  views-own =
      let one : List View → List View = λ vs. vs in
      let here : ℕ × Entry → List View = λ p. entry_views files d p.0 p.1 in
      let there : ℕ × Head → List View = λ p. node_views f p.0 p.1 in
      sym (flat_map-map one here (enumerate_from 0 d.entries)) ∙ ap (flat_map one) (each-own here there [] views_here)
      ∙ flat_map-map one there (enumerate_from 0 f.nodes)

  -- an entry's node is the node
  node-own : (k : ℕ) → entry_node files d (selection_views files d) k (entries.Source 0 k) ≡ node_of f (file_views f) k (node k)
  unfolding entry_node entry_cells node_of
  node-own k = by_index ((node k).index == 0)
    where
      x : Head
      x = node k

      group : entry_group files d k ≡ group_of (file_codes f) k
      group = ap (λ (cs : List (List ℕ)). group_of cs k) (codes-own f own)

      by_index : (b : Bool)
          → cond b
          (Raw x.code (entry_group files d k) x.count (raw_kind (selection_views files d) x.code x.len k) (contents_by (raw_kind (selection_views files d) x.code x.len k) (entry_names files d k 0 k) (form_of f.header) (payload f.header f.bytes x)))
          (Struct x.code (struct_name f.catalogue x.index) (entry_group files d k) (map fields (cond b [] (source_cells files d k 0 k))))
          ≡ cond b
          (Raw x.code (group_of (file_codes f) k) x.count (raw_kind (file_views f) x.code x.len k) (contents_by (raw_kind (file_views f) x.code x.len k) (file_names f (group_of (file_codes f) k)) (form_of f.header) (payload f.header f.bytes x)))
          (Struct x.code (struct_name f.catalogue x.index) (group_of (file_codes f) k) (map fields (node_cells f k x)))
      by_index true =
          let names = names-own f own k in
          λ i. Raw x.code (group i) x.count (raw_kind (views-own i) x.code x.len k) (contents_by (raw_kind (views-own i) x.code x.len k) (names i) (form_of f.header) (payload f.header f.bytes x))
      by_index false = λ i. Struct x.code (struct_name f.catalogue x.index) (group i) (map fields (cells-own k i))

  own_selection-graph : selection_graph files d ≡ graph f
  unfolding selection_graph graph
  own_selection-graph =
      each-own (λ (p : ℕ × Entry). entry_node files d (selection_views files d) p.0 p.1) (λ (p : ℕ × Head). node_of f (file_views f) p.0 p.1) no_node node-own

-- the graph that is rebuilt under a file's own header and catalogue is the file's
pub rebuilt_graph-own : (b : List ℕ) (f : File) → All (λ x. x < 256) b → Accepted b f → rebuilt_graph f f.header f.catalogue ≡ graph f
unfolding rebuilt_graph
rebuilt_graph-own b f bytes accepted =
    let own : HaveOwnIndex f = accepted-HaveOwnIndex b f bytes accepted in
    ap (λ (d : Draft). selection_graph (f ∷ []) d) (whole_selection-own f own)
    ∙ own_selection-graph f own (first_fault-none f.catalogue f.header.width accepted.no_layout_fault)
