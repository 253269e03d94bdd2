-- Under catalogues that are alike, whatever the width, the order and the version, a selection of sources' nodes has the same
-- graph.
use Rattle.std.proofs.Common.{◌≡◌, ℕ, ◌+◌, Bool, true, false, cond, All, List, [], ◌∷◌, ◌++◌, length, Option, Some, None, refl, sym, ap, ◌∙◌}
use Rattle.std.specs.Prelude.{◌==◌, ◌||◌, ◌&&◌, not, map, flat_map, filter, option_and_then}
use Rattle.std.specs.List.{enumerate_from}
use Rattle.std.proofs.Math.Path.{fun_ext}
use Rattle.std.proofs.lemmas.Simd.{map-map}
use Rattle.std.proofs.lemmas.List.Elements.{All-head, All-tail, All-map}
use Rattle.std.proofs.lemmas.List.Folds.{flat_map-map}
use Rattle.bl_num.specs.declared.number.Width.{Width}
use Rattle.bl_format.specs.declared.file.Header.{Header}
use Rattle.bl_format.specs.declared.file.Head.{Head}
use Rattle.bl_format.specs.declared.catalogue.Catalogue.{Catalogue}
use Rattle.bl_format.specs.declared.layout.Kind.{Kind}
use Rattle.bl_format.specs.declared.layout.Kind.TheVariants as kinds
use Rattle.bl_format.specs.declared.raw.RawKind.{RawKind}
use Rattle.bl_format.specs.declared.raw.View.{View}
use Rattle.bl_format.specs.Words.{numbers_below}
use Rattle.bl_format.specs.Blocks.{is_two_letter}
use Rattle.bl_format.specs.Layout.{NamedLeaf, named_leaves, struct_name}
use Rattle.bl_format.specs.Nodes.{File, payload, group_of, has_id_part, is_id, raw_kind, view_of_type}
use Rattle.bl_format.specs.Graph.{Target, Value, Points, Naming, Struct, Raw, Fields, Cell, fields, node_elements, contents_by, path_of, view_by, views_of, form_of, file_codes, file_names}
use Rattle.bl_format.proofs.RewidthLeaves.{outline_of}
use Rattle.bl_selection.specs.declared.draft.Draft.{Draft}
use Rattle.bl_selection.specs.declared.draft.Entry.{Entry}
use Rattle.bl_selection.specs.declared.draft.Entry.TheVariants as entries
use Rattle.bl_selection.specs.Fate.{carried_value}
use Rattle.bl_selection.specs.Selection.{file_at, node_at, index_under, entry_at, entry_code, entry_count, entry_index, entry_is_id, entry_group, image_of, target_in_scope, entry_names, source_cells, entry_cells, entry_views, selection_views, entry_node, selection_graph, has_struct, head_of, head_has_struct, is_kept, own_images, draft_of, whole_selection, rebuilt_graph}
use Rattle.bl_selection.specs.Carried.{StructForm, struct_form, carried_cells, IsSourceNode}
use Rattle.bl_selection.proofs.AlikeLeaves.{carried-alike, cells-alike}
use Rattle.bl_selection.proofs.CarriedCells.{source_cells-carried}

-- a catalogue is like another one, each at a width: its structs of all names have the same numbers and alike leaves, the same
-- ones have the part of an ID, and pointers to its types say the same
pub record AreAlike (c : Catalogue) (w : Width) (c' : Catalogue) (w' : Width) : Type 0 where
  pub index : (from : Catalogue) (s : ℕ) → index_under c' from s ≡ index_under c from s
  pub leaves : (t : ℕ) → map outline_of (named_leaves c' w' t) ≡ map outline_of (named_leaves c w t)
  pub ids : (t : ℕ) → has_id_part c' t ≡ has_id_part c t
  pub views : (depth t : ℕ) → view_of_type c' depth t ≡ view_of_type c depth t

module _ (files : List File) (d : Draft) (h : Header) (c : Catalogue) (alike : AreAlike d.catalogue d.header.width c h.width) (none : d.overrides ≡ []) where
  -- the same entries under another header and catalogue
  abbrev other : Draft
  other = record d { header = h; catalogue = c }

  -- ---- what addresses name

  index_same : (x : Entry) → entry_index files c x ≡ entry_index files d.catalogue x
  index_same (entries.Source i n) = alike.index (file_at files i).catalogue (node_at files i n).index
  index_same (entries.Made m) = refl
  index_same (entries.Raw code bytes) = refl

  id_same : (code : List ℕ) (count s : ℕ) → is_id c code count s ≡ is_id d.catalogue code count s
  unfolding is_id
  id_same code count s = let part = alike.ids s in λ i. is_two_letter code && count == 1 && not (s == 0) && part i

  entry_is_id-same : (e : ℕ) → entry_is_id files other e ≡ entry_is_id files d e
  unfolding entry_is_id
  entry_is_id-same e =
      let x : Entry = entry_at d e in
      ap (is_id c (entry_code files x) (entry_count files x)) (index_same x) ∙ id_same (entry_code files x) (entry_count files x) (entry_index files d.catalogue x)

  scope_same : (e to : ℕ) → target_in_scope files other e to ≡ target_in_scope files d e to
  scope_same e to = let id = entry_is_id-same to in λ i. cond (entry_group files d to == entry_group files d e || id i) (Some to) None

  names_same : (e i n : ℕ) → entry_names files other e i n ≡ entry_names files d e i n
  unfolding entry_names
  names_same e i n =
      let target : ℕ → Option ℕ = λ (address : ℕ). file_names (file_at files i) (group_of (file_codes (file_at files i)) n) address in
      ap (λ (scope : ℕ → Option ℕ). λ (address : ℕ). option_and_then scope (option_and_then (image_of d i) (target address))) (fun_ext (scope_same e))

  -- ---- what pointers say

  view_same : (kind : Kind) (value : Value Target) → view_by c kind value ≡ view_by d.catalogue kind value
  view_same (kinds.Pointer depth t) (Points (Some n)) =
      ap (λ (o : Option RawKind). elim o [ None ↦ [] | Some k ↦ record { node = n; kind = k } ∷ [] ]) (alike.views depth t)
  view_same _ _ = refl

  -- ---- elements

  module _ (e i n : ℕ) where
    abbrev f : File
    f = file_at files i

    abbrev x : Head
    x = node_at files i n

    abbrev from : StructForm
    from = struct_form f.header.order f.catalogue f.header.width x.index

    -- the leaves in both catalogues
    abbrev ys : List NamedLeaf
    ys = named_leaves c h.width (index_under c f.catalogue x.index)

    abbrev zs : List NamedLeaf
    zs = named_leaves d.catalogue d.header.width (index_under d.catalogue f.catalogue x.index)

    abbrev names : Naming Target
    names = entry_names files d e i n

    leaves_alike : map outline_of ys ≡ map outline_of zs
    leaves_alike =
        ap (λ (t : ℕ). map outline_of (named_leaves c h.width t)) (alike.index f.catalogue x.index) ∙ alike.leaves (index_under d.catalogue f.catalogue x.index)

    abbrev value : List ℕ → NamedLeaf → ℕ → Value Target
    value bytes y k = carried_value None names from.order from.leaves bytes y k

    others_are : source_cells files other e i n ≡ map (carried_cells names from ys) (node_elements f x)
    others_are =
        source_cells-carried files other e i n none
        ∙ ap (λ (ns : Naming Target). map (carried_cells ns from ys) (node_elements f x)) (names_same e i n)

    element_fields : (bytes : List ℕ) → fields (carried_cells names from ys bytes) ≡ fields (carried_cells names from zs bytes)
    element_fields bytes =
        cells-alike (λ way kind at v. (path_of way at, v)) (value bytes) (value bytes)
        (λ y z k same. carried-alike names from.order bytes k from.leaves y z same) ys zs leaves_alike

    element_views : (bytes : List ℕ) → views_of c (carried_cells names from ys bytes) ≡ views_of d.catalogue (carried_cells names from zs bytes)
    element_views bytes =
        let one : List View → List View = λ vs. vs in
        let says : Catalogue → Cell → List View = λ c y. view_by c y.leaf.kind y.value in
        ap (λ (says_of : Cell → List View). flat_map says_of (carried_cells names from ys bytes)) (fun_ext (λ (y : Cell). view_same y.leaf.kind y.value))
        ∙ sym (flat_map-map one (says d.catalogue) (carried_cells names from ys bytes))
        ∙ ap (flat_map one)
        (cells-alike (λ way kind at v. view_by d.catalogue kind v) (value bytes) (value bytes)
        (λ y z k same. carried-alike names from.order bytes k from.leaves y z same) ys zs leaves_alike)
        ∙ flat_map-map one (says d.catalogue) (carried_cells names from zs bytes)

    fields_same : map fields (source_cells files other e i n) ≡ map fields (source_cells files d e i n)
    fields_same =
        let bytes : List (List ℕ) = node_elements f x in
        ap (map fields) others_are
        ∙ map-map fields (carried_cells names from ys) bytes
        ∙ ap (λ (g : List ℕ → Fields). map g bytes) (fun_ext element_fields)
        ∙ sym (ap (map fields) (source_cells-carried files d e i n none) ∙ map-map fields (carried_cells names from zs) bytes)

    says_same : flat_map (views_of c) (source_cells files other e i n) ≡ flat_map (views_of d.catalogue) (source_cells files d e i n)
    says_same =
        let bytes : List (List ℕ) = node_elements f x in
        ap (flat_map (views_of c)) others_are
        ∙ flat_map-map (views_of c) (carried_cells names from ys) bytes
        ∙ ap (λ (g : List ℕ → List View). flat_map g bytes) (fun_ext element_views)
        ∙ sym (ap (flat_map (views_of d.catalogue)) (source_cells-carried files d e i n none) ∙ flat_map-map (views_of d.catalogue) (carried_cells names from zs) bytes)

  -- ---- entries

  entry_views-same : (e : ℕ) (x : Entry) → IsSourceNode x → entry_views files other e x ≡ entry_views files d e x
  unfolding entry_cells
  entry_views-same e (entries.Source i n) source = by_index ((node_at files i n).index == 0)
    where
      by_index : (b : Bool) → flat_map (views_of c) (cond b [] (source_cells files other e i n)) ≡ flat_map (views_of d.catalogue) (cond b [] (source_cells files d e i n))
      by_index true = refl
      by_index false = says_same e i n
  entry_views-same e (entries.Made m) source = absurd source
  entry_views-same e (entries.Raw code bytes) source = absurd source

  all_views : (k : ℕ) (es : List Entry) → All IsSourceNode es
      → flat_map (λ p. entry_views files other p.0 p.1) (enumerate_from k es) ≡ flat_map (λ p. entry_views files d p.0 p.1) (enumerate_from k es)
  all_views k [] sources = refl
  all_views k (x ∷ es) sources =
      let first = entry_views-same k x (All-head IsSourceNode x es sources) in
      let later = all_views (k + 1) es (All-tail IsSourceNode x es sources) in
      λ i. first i ++ later i

  views_same : All IsSourceNode d.entries → selection_views files other ≡ selection_views files d
  unfolding selection_views
  views_same sources = all_views 0 d.entries sources

  entry_node-same : (views : List View) (e : ℕ) (x : Entry) → IsSourceNode x → entry_node files other views e x ≡ entry_node files d views e x
  unfolding entry_node entry_cells
  entry_node-same views e (entries.Source i n) source = by_index ((node_at files i n).index == 0)
    where
      y : Head
      y = node_at files i n

      kind : RawKind
      kind = raw_kind views y.code y.len e

      by_index : (b : Bool)
          → cond b (Raw y.code (entry_group files d e) y.count kind (contents_by kind (entry_names files other e i n) (form_of (file_at files i).header) (payload (file_at files i).header (file_at files i).bytes y)))
          (Struct y.code (struct_name (file_at files i).catalogue y.index) (entry_group files d e) (map fields (cond b [] (source_cells files other e i n))))
          ≡ cond b (Raw y.code (entry_group files d e) y.count kind (contents_by kind (entry_names files d e i n) (form_of (file_at files i).header) (payload (file_at files i).header (file_at files i).bytes y)))
          (Struct y.code (struct_name (file_at files i).catalogue y.index) (entry_group files d e) (map fields (cond b [] (source_cells files d e i n))))
      by_index true =
          ap (λ (ns : Naming Target). Raw y.code (entry_group files d e) y.count kind (contents_by kind ns (form_of (file_at files i).header) (payload (file_at files i).header (file_at files i).bytes y))) (names_same e i n)
      by_index false = ap (Struct y.code (struct_name (file_at files i).catalogue y.index) (entry_group files d e)) (fields_same e i n)
  entry_node-same views e (entries.Made m) source = absurd source
  entry_node-same views e (entries.Raw code bytes) source = absurd source

  all_nodes : (views : List View) (k : ℕ) (es : List Entry) → All IsSourceNode es
      → map (λ p. entry_node files other views p.0 p.1) (enumerate_from k es) ≡ map (λ p. entry_node files d views p.0 p.1) (enumerate_from k es)
  all_nodes views k [] sources = refl
  all_nodes views k (x ∷ es) sources =
      let first = entry_node-same views k x (All-head IsSourceNode x es sources) in
      let later = all_nodes views (k + 1) es (All-tail IsSourceNode x es sources) in
      λ i. first i ∷ later i

  -- the graph of a selection of sources' nodes stays under a catalogue that is alike
  pub selection_graph-alike : All IsSourceNode d.entries → selection_graph files other ≡ selection_graph files d
  unfolding selection_graph
  selection_graph-alike sources =
      ap (λ (views : List View). map (λ p. entry_node files other views p.0 p.1) (enumerate_from 0 d.entries)) (views_same sources)
      ∙ all_nodes (selection_views files d) 0 d.entries sources

-- ---- rebuilt graphs

module _ (f : File) (h h' : Header) (c c' : Catalogue) (alike : AreAlike c h.width c' h'.width) where
  has_struct-same : (x : Head) → has_struct c' f.catalogue x ≡ has_struct c f.catalogue x
  has_struct-same x = ap (λ (s : ℕ). x.index == 0 || not (s == 0)) (alike.index f.catalogue x.index)

  head-same : (o : Option ℕ) → head_has_struct c' f o ≡ head_has_struct c f o
  head-same None = refl
  head-same (Some k) = has_struct-same (node_at (f ∷ []) 0 k)

  is_kept-same : (k : ℕ) → is_kept c' f k ≡ is_kept c f k
  unfolding is_kept
  is_kept-same k =
      let own = has_struct-same (node_at (f ∷ []) 0 k) in
      let head = head-same (head_of (file_codes f) k) in
      λ i. own i && head i

  -- under catalogues that are alike the same graph is rebuilt of a file
  pub rebuilt_graph-alike : rebuilt_graph f h' c' ≡ rebuilt_graph f h c
  unfolding rebuilt_graph
  rebuilt_graph-alike =
      let d : Draft = whole_selection f h c in
      let nodes : List ℕ = numbers_below (length f.nodes) in
      let kept : is_kept c' f ≡ is_kept c f = fun_ext is_kept-same in
      let sources : All IsSourceNode d.entries = All-map IsSourceNode (entries.Source 0) (filter (is_kept c f) nodes) (λ i d lt. tt) in
      (λ i. selection_graph (f ∷ []) (draft_of h' c' (map (entries.Source 0) (filter (kept i) nodes)) (own_images (kept i) (length f.nodes) ∷ [])))
      ∙ selection_graph-alike (f ∷ []) d h' c' alike refl sources
