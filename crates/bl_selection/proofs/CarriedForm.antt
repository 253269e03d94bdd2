-- The written form of a draft of sources' nodes, entry by entry: the node of each is written as its carried block.
use Rattle.std.proofs.Common.{◌≡◌, ℕ, ◌+◌, ◌-◌, ◌<◌, Bool, true, false, cond, All, List, [], ◌++◌, length, get_or, Some, refl, sym, ap, ◌∙◌, append_assoc, arith}
use Rattle.std.specs.Prelude.{◌==◌, map, flat_map, codes}
use Rattle.std.proofs.lemmas.Bool.{eqb-true, eqb-false}
use Rattle.std.proofs.lemmas.List.{length-map}
use Rattle.std.proofs.lemmas.List.Folds.{flat_map-map}
use Rattle.bl_format.specs.declared.file.Header.{Header}
use Rattle.bl_format.specs.declared.file.Head.{Head}
use Rattle.bl_format.specs.declared.catalogue.Catalogue.{Catalogue}
use Rattle.bl_format.specs.declared.raw.RawKind.{RawKind}
use Rattle.bl_format.specs.declared.raw.RawKind.TheVariants as raw
use Rattle.bl_format.specs.declared.raw.View.{View}
use Rattle.bl_format.specs.Words.{numbers_below, zeros}
use Rattle.bl_format.specs.Blocks.{head_size, header_written}
use Rattle.bl_format.specs.Layout.{named_leaves, struct_length, struct_name, struct_number}
use Rattle.bl_format.specs.Nodes.{File, payload, raw_kind}
use Rattle.bl_format.specs.Graph.{Target, Naming, Fields, Cell, Node, Raw, Struct, fields, node_elements, contents_by, views_of, form_of}
use Rattle.bl_selection.specs.declared.draft.Draft.{Draft}
use Rattle.bl_selection.specs.declared.draft.Entry.{Entry}
use Rattle.bl_selection.specs.declared.draft.Entry.TheVariants as entries
use Rattle.bl_selection.specs.Selection.{file_at, node_at, index_under, entry_at, entry_names, entry_group, source_cells, entry_cells, entry_views, entry_node, selection_views, selection_graph}
use Rattle.bl_selection.specs.Written.{address_of, element_written, block_written, node_written, catalogue_block, written_form}
use Rattle.bl_selection.specs.EntryKinds.{entry_kind, draft_kinds}
use Rattle.bl_selection.specs.Carried.{struct_form, carried_cells, carried_elements, carried_contents, carried_block, carried_views, IsSourceNode, entry_block, draft_block}
use Rattle.bl_selection.proofs.CarriedCells.{source_cells-carried}
use Rattle.bl_selection.proofs.CellViews.{index_under-some}
use Rattle.bl_selection.proofs.EntriesAsNodes.{length-source_cells}
use Rattle.bl_selection.proofs.NumberedTexts.{texts_of}
use Rattle.bl_selection.proofs.OwnFormNames.{at_place}

-- ---- the node of a source's entry

module _ (files : List File) (d : Draft) (views : List View) (e i n : ℕ) where
  abbrev f : File
  f = file_at files i

  abbrev x : Head
  x = node_at files i n

  abbrev names : Naming Target
  names = entry_names files d e i n

  -- the kind that the entry has where it is raw
  abbrev own_kind : RawKind
  own_kind = raw_kind views x.code x.len e

  abbrev node : Node
  node = entry_node files d views e (entries.Source i n)

  pub entry_raw : (x.index == 0) ≡ true
      → node ≡ Raw x.code (entry_group files d e) x.count own_kind (contents_by own_kind names (form_of f.header) (payload f.header f.bytes x))
  unfolding entry_node
  entry_raw is = rw is refl

  pub entry_struct : (x.index == 0) ≡ false
      → node ≡ Struct x.code (struct_name f.catalogue x.index) (entry_group files d e) (map fields (source_cells files d e i n))
  unfolding entry_node entry_cells
  entry_struct is = rw is refl

  -- what the pointers of an entry say is what those of its node say, once they are carried
  pub entry_views-carried : d.overrides ≡ [] → entry_views files d e (entries.Source i n) ≡ carried_views names f d.header d.catalogue x
  unfolding entry_cells
  entry_views-carried none = by_raw (x.index == 0)
    where
      carried : List ℕ → List Cell
      carried = carried_cells names (struct_form f.header.order f.catalogue f.header.width x.index) (named_leaves d.catalogue d.header.width (index_under d.catalogue f.catalogue x.index))

      by_raw : (b : Bool) → flat_map (views_of d.catalogue) (cond b [] (source_cells files d e i n)) ≡ cond b [] (flat_map (λ bytes. views_of d.catalogue (carried bytes)) (node_elements f x))
      by_raw true = refl
      by_raw false = ap (flat_map (views_of d.catalogue)) (source_cells-carried files d e i n none) ∙ flat_map-map (views_of d.catalogue) carried (node_elements f x)

  -- ---- its block

  abbrev h : Header
  h = d.header

  abbrev c : Catalogue
  c = d.catalogue

  -- the number of the struct in the output's catalogue
  abbrev t : ℕ
  t = index_under c f.catalogue x.index

  -- some fields as an element of struct s of the output
  abbrev written : ℕ → Fields → List ℕ
  written s = element_written h.order (struct_length c s) (named_leaves c h.width s)

  -- the fields of all elements
  abbrev es : List Fields
  es = map fields (source_cells files d e i n)

  elements_are : d.overrides ≡ [] → carried_elements names f h c x ≡ flat_map (written t) es
  elements_are none =
      let carried : List ℕ → List Cell = carried_cells names (struct_form f.header.order f.catalogue f.header.width x.index) (named_leaves c h.width t) in
      let bytes : List (List ℕ) = node_elements f x in
      sym (ap (λ (cs : List (List Cell)). flat_map (written t) (map fields cs)) (source_cells-carried files d e i n none)
      ∙ flat_map-map (written t) fields (map carried bytes) ∙ flat_map-map (λ (cs : List Cell). written t (fields cs)) carried bytes)

  -- the block by whether the node is raw, its struct's number, its count and its elements
  abbrev block_if : Bool → ℕ → ℕ → List ℕ → List ℕ
  block_if is_raw s count elements =
      block_written h x.code (address_of (Some e)) s count (cond is_raw (carried_contents names f h (cond is_raw own_kind raw.Bytes) x) elements)

  by_index : (is_raw : Bool) → (x.index == 0) ≡ is_raw → d.overrides ≡ [] → block_if is_raw t x.count (carried_elements names f h c x) ≡ node_written h c e node
  unfolding node_written
  by_index true is none =
      let raw : t ≡ 0 = ap (index_under c f.catalogue) (eqb-true x.index 0 is) in
      ap (λ (s : ℕ). block_if true s x.count []) raw ∙ ap (node_written h c e) (sym (entry_raw is))
  by_index false is none =
      let named : t ≡ struct_number c (struct_name f.catalogue x.index) = index_under-some c f.catalogue x.index (eqb-false x.index 0 is) in
      let count : x.count ≡ length es = sym (length-map (source_cells files d e i n) fields ∙ length-source_cells files d views e i n) in
      let elements = elements_are none in
      (λ k. block_if false t (count k) (elements k)) ∙ ap (λ (s : ℕ). block_if false s (length es) (flat_map (written s) es)) named
      ∙ ap (node_written h c e) (sym (entry_struct is))

  -- the node of an entry that is a source's node is written as the carried block
  pub carried_block-node : d.overrides ≡ [] → carried_block names f h c e (entry_kind files views e (entries.Source i n)) x ≡ node_written h c e node
  carried_block-node none = by_index (x.index == 0) refl none

-- ---- all entries

-- the kind of each entry stands at its place
pub draft_kind : (files : List File) (d : Draft) (e : ℕ) → e < length d.entries
    → get_or (draft_kinds files d) e raw.Bytes ≡ entry_kind files (selection_views files d) e (entry_at d e)
unfolding draft_kinds
draft_kind files d e lt =
    at_place (λ (p : ℕ × Entry). entry_kind files (selection_views files d) p.0 p.1) d.entries e (entries.Raw [] []) raw.Bytes lt

entry_block-node : (files : List File) (d : Draft) (views : List View) (e : ℕ) (x : Entry) → d.overrides ≡ [] → IsSourceNode x
    → entry_block files d (entry_kind files views e x) e x ≡ node_written d.header d.catalogue e (entry_node files d views e x)
entry_block-node files d views e (entries.Source i n) none source = carried_block-node files d views e i n none
entry_block-node files d views e (entries.Made m) none source = absurd source
entry_block-node files d views e (entries.Raw code bytes) none source = absurd source

-- the node of each entry of a draft of sources' nodes is written as its block
pub draft_block-node : (files : List File) (d : Draft) (e : ℕ) → d.overrides ≡ [] → All IsSourceNode d.entries → e < length d.entries
    → draft_block files d e ≡ node_written d.header d.catalogue e (entry_node files d (selection_views files d) e (entry_at d e))
draft_block-node files d e none sources lt =
    ap (λ (kind : RawKind). entry_block files d kind e (entry_at d e)) (draft_kind files d e lt)
    ∙ entry_block-node files d (selection_views files d) e (entry_at d e) none (sources e (entries.Raw [] []) lt)

-- ---- the law

-- the written form of a selection's graph by the texts of its entries
pub written_form-texts : (files : List File) (d : Draft) (h : Header) (c : Catalogue) (text : ℕ → List ℕ)
    → ((e : ℕ) → e < length d.entries → text e ≡ node_written h c e (entry_node files d (selection_views files d) e (entry_at d e)))
    → written_form h c (selection_graph files d)
    ≡ ((header_written h ++ flat_map text (numbers_below (length d.entries))) ++ catalogue_block h c) ++ (codes "ENDB" ++ zeros (head_size h - 4))
unfolding written_form selection_graph
written_form-texts files d h c text each =
    let head = header_written h in
    let blocks = flat_map text (numbers_below (length d.entries)) in
    ap (λ (written : List ℕ). (((head ++ written) ++ catalogue_block h c) ++ codes "ENDB") ++ zeros (head_size h - 4))
    (texts_of (entry_node files d (selection_views files d)) (node_written h c) text (entries.Raw [] []) 0 d.entries (λ e lt. each e lt ∙ same e))
    ∙ append_assoc ((head ++ blocks) ++ catalogue_block h c) (codes "ENDB") (zeros (head_size h - 4))
  where
    same : (e : ℕ) → node_written h c e (entry_node files d (selection_views files d) e (entry_at d e))
        ≡ node_written h c (0 + e) (entry_node files d (selection_views files d) (0 + e) (entry_at d e))
    same e = let here : e ≡ 0 + e = omega arith in ap (λ (k : ℕ). node_written h c k (entry_node files d (selection_views files d) k (entry_at d e))) here

-- the written form of a draft of sources' nodes without overrides: the header, the blocks of its entries, the catalogue's, and
-- the end
pub written_form-carried : (files : List File) (d : Draft) → d.overrides ≡ [] → All IsSourceNode d.entries
    → written_form d.header d.catalogue (selection_graph files d)
    ≡ ((header_written d.header ++ flat_map (draft_block files d) (numbers_below (length d.entries))) ++ catalogue_block d.header d.catalogue)
    ++ (codes "ENDB" ++ zeros (head_size d.header - 4))
written_form-carried files d none sources =
    written_form-texts files d d.header d.catalogue (draft_block files d) (λ e lt. draft_block-node files d e none sources lt)
