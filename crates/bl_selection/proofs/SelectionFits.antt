-- The graph of a selection fits the draft's header and catalogue, where its entries stand in their files, nothing is
-- overridden, and the output's numbers keep within their bytes.
use Rattle.std.proofs.Common.{◌≡◌, ◌≢◌, ℕ, ◌+◌, ◌<◌, ◌≤◌, Bool, true, false, cond, All, List, [], ◌∷◌, length, None, refl, sym, ap, subst, ◌∙◌, arith}
use Rattle.std.specs.Prelude.{◌==◌, map, codes}
use Rattle.std.specs.List.{enumerate_from}
use Rattle.std.specs.Str.{bytes_eq}
use Rattle.std.proofs.lemmas.List.Elements.{All-nil, All-cons, All-head, All-tail, All-take, All-drop}
use Rattle.std.proofs.lemmas.Bool.{eqb-false}
use Rattle.bl_num.specs.declared.number.Form.{Form}
use Rattle.bl_num.specs.Numbers.{pointer_bytes}
use Rattle.bl_format.specs.declared.file.Header.{Header}
use Rattle.bl_format.specs.declared.file.Head.{Head}
use Rattle.bl_format.specs.declared.catalogue.Catalogue.{Catalogue}
use Rattle.bl_format.specs.declared.raw.RawKind.{RawKind}
use Rattle.bl_format.specs.declared.raw.View.{View}
use Rattle.bl_format.specs.Blocks.{IsCount, code_meant, first_version, last_version}
use Rattle.bl_format.specs.Schema.{catalogue_written}
use Rattle.bl_format.specs.Layout.{HasLayout, struct_name, struct_number, named_leaves, first_fault}
use Rattle.bl_format.specs.Nodes.{File, payload, group_of, raw_kind}
use Rattle.bl_format.specs.Graph.{Target, Naming, Node, Struct, Raw, fields, form_of, contents_by}
use Rattle.bl_format.proofs.MemberPasses.{first_fault-none}
use Rattle.bl_selection.specs.declared.draft.Draft.{Draft}
use Rattle.bl_selection.specs.declared.draft.Entry.{Entry}
use Rattle.bl_selection.specs.declared.draft.Entry.TheVariants as entries
use Rattle.bl_selection.specs.Selection.{file_at, node_at, index_under, entry_code, entry_codes, entry_count, entry_index, entry_group, entry_names, source_cells, entry_cells, entry_node, selection_views, selection_graph}
use Rattle.bl_selection.specs.Written.{contents_written, written_form}
use Rattle.bl_selection.specs.Fits.{slots, FieldsFit}
use Rattle.bl_selection.specs.GraphFits.{node_code, node_codes, node_payload, names_for, graph_views, HoldsWhatFits, NodeFits, GraphFits}
use Rattle.bl_selection.specs.Committed.{Stands}
use Rattle.bl_selection.proofs.AddressesName.{names_for-in_scope}
use Rattle.bl_selection.proofs.CarriedFits.{TargetsFit, power_above_zero}
use Rattle.bl_selection.proofs.ContentsFit.{contents_by-fits}
use Rattle.bl_selection.proofs.RawKinds.{raw_kind-bytes, raw_kind-again}
use Rattle.bl_selection.proofs.EntriesAsNodes.{IsItsName, entry_node-code, entry_node-group, entry_node-count, entry_node-index, codes_are}
use Rattle.bl_selection.proofs.SourcesFit.{ImagesStand, AddressesFit, HoldsElements, entry_names-fit, source_fields-fit}
use Rattle.bl_selection.proofs.StandsBack.{written_form-stands}
use Rattle.bl_selection.proofs.CellViews.{index_under-some, selection_views-graph}

-- ---- what is asked of a draft

-- a source's node stands in its file: its payload is there, and where it isn't raw it holds its elements and the output's
-- catalogue has its struct
pub record SourceStands (files : List File) (d : Draft) (i n : ℕ) : Type 0 where
  pub no_fault : first_fault (file_at files i).catalogue (file_at files i).header.width ≡ None
  pub bytes : All (λ b. b < 256) (file_at files i).bytes
  pub len : length (payload (file_at files i).header (file_at files i).bytes (node_at files i n)) ≡ (node_at files i n).len
  pub holds : (node_at files i n).index ≢ 0 → HoldsElements (file_at files i) (node_at files i n)
  pub struct : (node_at files i n).index ≢ 0 → index_under d.catalogue (file_at files i).catalogue (node_at files i n).index ≢ 0

-- an entry stands: a source's node in its file, and raw bytes are bytes; that what is made fits is asked as it is
abbrev pub EntryHolds : List File → Draft → ℕ → Entry → Type 0
EntryHolds files d e (entries.Source i n) = SourceStands files d i n
EntryHolds files d e (entries.Made m) =
    (struct_number d.catalogue (struct_name d.catalogue m.s) ≢ 0)
    × All (FieldsFit (names_for d.catalogue (selection_graph files d) e) (slots (named_leaves d.catalogue d.header.width (struct_number d.catalogue (struct_name d.catalogue m.s))))) (map fields (entry_cells files d e (entries.Made m)))
EntryHolds files d e (entries.Raw code bytes) = All (λ b. b < 256) bytes

-- entry e of a draft can be written: its code reads back and is neither a catalogue's nor the end's, its numbers keep
-- within their bytes, and what it holds stands
pub record EntryStands (files : List File) (d : Draft) (e : ℕ) (x : Entry) : Type 0 where
  pub code_len : length (entry_code files x) ≡ 4
  pub code : code_meant (entry_code files x) ≡ entry_code files x
  pub no_end : bytes_eq (entry_code files x) (codes "ENDB") ≡ false
  pub no_catalogue : bytes_eq (entry_code files x) (codes "DNA1") ≡ false
  pub len : IsCount (length (node_payload d.header d.catalogue (entry_node files d (selection_views files d) e x)))
  pub index : IsCount (entry_index files d.catalogue x)
  pub count : IsCount (entry_count files x)
  pub named : IsItsName d.catalogue x
  pub holds : EntryHolds files d e x

-- a draft can be written
pub record DraftStands (files : List File) (d : Draft) : Type 0 where
  pub version : (first_version ≤ d.header.version) × (d.header.version ≤ last_version)
  pub layout : HasLayout d.catalogue d.header.width
  pub catalogue : IsCount (length (catalogue_written d.header.order d.catalogue))
  pub images : ImagesStand files d
  pub addresses : AddressesFit d
  pub no_overrides : d.overrides ≡ []
  pub each : All (λ p. EntryStands files d p.0 p.1) (enumerate_from 0 d.entries)

all_named : (files : List File) (d : Draft) (k : ℕ) (xs : List Entry) → All (λ p. EntryStands files d p.0 p.1) (enumerate_from k xs) → All (IsItsName d.catalogue) xs
all_named files d k [] all = All-nil (IsItsName d.catalogue)
all_named files d k (x ∷ xs) all =
    All-cons (IsItsName d.catalogue) x xs (All-head (λ p. EntryStands files d p.0 p.1) (k, x) (enumerate_from (k + 1) xs) all).named
    (all_named files d (k + 1) xs (All-tail (λ p. EntryStands files d p.0 p.1) (k, x) (enumerate_from (k + 1) xs) all))

-- ---- what an entry holds

module _ (files : List File) (d : Draft) (can : DraftStands files d) where
  abbrev h : Header
  h = d.header

  abbrev c : Catalogue
  c = d.catalogue

  abbrev nodes : List Node
  nodes = selection_graph files d

  abbrev views : List View
  views = selection_views files d

  views_are : views ≡ graph_views c h.width nodes
  views_are = selection_views-graph files d (all_named files d 0 d.entries can.each)

  null : (e : ℕ) → names_for c nodes e 0 ≡ None
  null e = names_for-in_scope c nodes e None tt

  -- raw bytes that are read as the kind that all pointers give, and written, have that kind and fit it
  raw_holds : (e : ℕ) (code : List ℕ) (g count len : ℕ) (from : Naming Target) (form : Form) (bytes : List ℕ)
      → TargetsFit (names_for c nodes e) h.width from → All (λ b. b < 256) bytes → length bytes ≡ len
      → HoldsWhatFits h c nodes e (Raw code g count (raw_kind views code len e) (contents_by (raw_kind views code len e) from form bytes))
  raw_holds e code g count len from form bytes targets all long =
      let kind : ℕ → RawKind = λ n. raw_kind views code n e in
      let written : RawKind → ℕ = λ k. length (contents_written h k (contents_by k from form bytes)) in
      let same : raw_kind views code (written (kind (length bytes))) e ≡ kind (length bytes) = raw_kind-again h from form bytes views code e in
      let same_views : raw_kind (graph_views c h.width nodes) code (written (kind len)) e ≡ raw_kind views code (written (kind len)) e = ap (λ (vs : List View). raw_kind vs code (written (kind len)) e) (sym views_are) in (
        same_views ∙ subst (λ (n : ℕ). raw_kind views code (written (kind n)) e ≡ kind n) long same,
        contents_by-fits (names_for c nodes e) from h.width form (kind len) bytes targets (raw_kind-bytes files d code len e) all,
      )

  source_holds : (e i n : ℕ) → SourceStands files d i n → HoldsWhatFits h c nodes e (entry_node files d views e (entries.Source i n))
  unfolding entry_node entry_cells
  source_holds e i n own = by_index ((node_at files i n).index == 0) refl
    where
      f : File
      f = file_at files i

      x : Head
      x = node_at files i n

      targets : TargetsFit (names_for c nodes e) h.width (entry_names files d e i n)
      targets = entry_names-fit files d e i n can.images can.addresses (power_above_zero (pointer_bytes h.width))

      struct_holds : x.index ≢ 0 → HoldsWhatFits h c nodes e (Struct x.code (struct_name f.catalogue x.index) (entry_group files d e) (map fields (source_cells files d e i n)))
      struct_holds some =
          let same : index_under c f.catalogue x.index ≡ struct_number c (struct_name f.catalogue x.index) = index_under-some c f.catalogue x.index some in
          let fit = source_fields-fit files d e i n (names_for c nodes e) (null e) targets can.no_overrides own.no_fault (first_fault-none c h.width can.layout.no_fault) own.bytes (own.holds some) in
          (λ none. own.struct some (same ∙ none), subst (λ (s : ℕ). All (FieldsFit (names_for c nodes e) (slots (named_leaves c h.width s))) (map fields (source_cells files d e i n))) same fit)

      by_index : (b : Bool) → (x.index == 0) ≡ b
          → HoldsWhatFits h c nodes e (cond b
          (Raw x.code (entry_group files d e) x.count (raw_kind views x.code x.len e) (contents_by (raw_kind views x.code x.len e) (entry_names files d e i n) (form_of f.header) (payload f.header f.bytes x)))
          (Struct x.code (struct_name f.catalogue x.index) (entry_group files d e) (map fields (cond b [] (source_cells files d e i n)))))
      by_index true is =
          raw_holds e x.code (entry_group files d e) x.count x.len (entry_names files d e i n) (form_of f.header) (payload f.header f.bytes x) targets
          (All-take (λ b. b < 256) x.len _ (All-drop (λ b. b < 256) _ f.bytes own.bytes)) own.len
      by_index false is = struct_holds (eqb-false x.index 0 is)

  entry_holds : (e : ℕ) (x : Entry) → EntryHolds files d e x → HoldsWhatFits h c nodes e (entry_node files d views e x)
  unfolding entry_node
  entry_holds e (entries.Source i n) own = source_holds e i n own
  entry_holds e (entries.Made m) own = own
  entry_holds e (entries.Raw code bytes) own =
      raw_holds e code (entry_group files d e) 1 (length bytes) (λ a. None) (form_of h) bytes (λ a. (power_above_zero (pointer_bytes h.width), null e)) own refl

  -- the node of an entry that stands fits
  entry_fits : (e : ℕ) (x : Entry) → e < length d.entries → EntryStands files d e x → NodeFits h c nodes e (entry_node files d views e x)
  entry_fits e x lt own =
      let code_is : node_code (entry_node files d views e x) ≡ entry_code files x = entry_node-code files d views e x in
      let codes_same : node_codes nodes ≡ entry_codes files d = codes_are files d in
      record {
        code_len = subst (λ (t : List ℕ). length t ≡ 4) (sym code_is) own.code_len;
        code = subst (λ (t : List ℕ). code_meant t ≡ t) (sym code_is) own.code;
        no_end = subst (λ (t : List ℕ). bytes_eq t (codes "ENDB") ≡ false) (sym code_is) own.no_end;
        no_catalogue = subst (λ (t : List ℕ). bytes_eq t (codes "DNA1") ≡ false) (sym code_is) own.no_catalogue;
        group = ap (λ (cs : List (List ℕ)). group_of cs e) codes_same ∙ sym (entry_node-group files d views e x);
        len = own.len;
        address = can.addresses e lt;
        index = subst IsCount (sym (entry_node-index files d views e x own.named)) own.index;
        count = subst IsCount (sym (entry_node-count files d views e x)) own.count;
        holds = entry_holds e x own.holds;
      }

  nodes_fit : (k : ℕ) (xs : List Entry) → k + length xs ≡ length d.entries → All (λ p. EntryStands files d p.0 p.1) (enumerate_from k xs)
      → All (λ p. NodeFits h c nodes p.0 p.1) (enumerate_from k (map (λ p. entry_node files d views p.0 p.1) (enumerate_from k xs)))
  nodes_fit k [] long all = All-nil (λ (p : ℕ × Node). NodeFits h c nodes p.0 p.1)
  nodes_fit k (x ∷ xs) long all =
      All-cons (λ (p : ℕ × Node). NodeFits h c nodes p.0 p.1) (k, entry_node files d views k x) _
      (entry_fits k x (omega (arith, long)) (All-head (λ p. EntryStands files d p.0 p.1) (k, x) (enumerate_from (k + 1) xs) all))
      (nodes_fit (k + 1) xs (omega (arith, long)) (All-tail (λ p. EntryStands files d p.0 p.1) (k, x) (enumerate_from (k + 1) xs) all))

  all_fit : All (λ p. NodeFits h c nodes p.0 p.1) (enumerate_from 0 nodes)
  unfolding selection_graph
  all_fit = nodes_fit 0 d.entries (omega arith) can.each

-- ---- the law

-- the graph of a selection fits, where its draft stands
pub selection_graph-fits : (files : List File) (d : Draft) → DraftStands files d → GraphFits d.header d.catalogue (selection_graph files d)
selection_graph-fits files d can = record {
  version = can.version;
  layout = can.layout;
  catalogue = can.catalogue;
  each = all_fit files d can;
}

-- so its written form is accepted, and has that graph
pub selection_stands : (files : List File) (d : Draft) → DraftStands files d
    → Stands (written_form d.header d.catalogue (selection_graph files d)) d.header d.catalogue (selection_graph files d)
selection_stands files d can = written_form-stands d.header d.catalogue (selection_graph files d) (selection_graph-fits files d can)
