-- What the pointers of a draft of one file's nodes under its own catalogue and width say, by the heads of the nodes and
-- what addresses name from each.
use Rattle.std.proofs.Common.{◌≡◌, ◌<◌, ℕ, zero, suc, Bool, true, false, cond, List, [], ◌∷◌, length, get_or, None, refl, sym, ap, ◌∙◌, arith}
use Rattle.std.specs.Prelude.{◌==◌, map, flat_map}
use Rattle.std.specs.List.{enumerate_from}
use Rattle.std.proofs.lemmas.List.{ext_get_or, get_or-map, length-map}
use Rattle.std.proofs.lemmas.List.Folds.{flat_map-map}
use Rattle.std.proofs.lemmas.List.FromFn.{length-enumerate_from}
use Rattle.bl_format.specs.declared.file.Head.{Head}
use Rattle.bl_format.specs.declared.catalogue.Catalogue.{Catalogue}
use Rattle.bl_format.specs.declared.raw.View.{View}
use Rattle.bl_format.specs.Layout.{first_fault}
use Rattle.bl_format.specs.Nodes.{File}
use Rattle.bl_format.specs.Graph.{views_of}
use Rattle.bl_selection.specs.declared.draft.Draft.{Draft}
use Rattle.bl_selection.specs.declared.draft.Entry.{Entry}
use Rattle.bl_selection.specs.declared.draft.Entry.TheVariants as entries
use Rattle.bl_selection.specs.Selection.{no_head, index_under, entry_at, entry_names, source_cells, entry_cells, entry_views, selection_views}
use Rattle.bl_selection.proofs.OwnFormNames.{at_place, HaveOwnIndex}
use Rattle.bl_selection.proofs.OwnFormCells.{source_cells-own}
use Rattle.bl_file.specs.Seen.{Namings, named_cells, named_views, views_seen}
use Rattle.bl_draft.specs.Own.{IsOfSource, entry_node, entry_head, entry_heads, own_names}
use Rattle.bl_draft.proofs.SourceDrafts.{IsDraftOf}

-- what is asked of a draft beside that its entries are nodes of the file: the file's catalogue has a layout and its own
-- structs, and the draft has it, the file's width, and nothing that overrides values
pub record IsPlain (f : File) (d : Draft) : Type 0 where
  pub catalogue : d.catalogue ≡ f.catalogue
  pub index : HaveOwnIndex f
  pub no_fault : first_fault f.catalogue f.header.width ≡ None
  pub width : d.header.width ≡ f.header.width
  pub no_overrides : d.overrides ≡ []

module _ (f : File) (d : Draft) (draft : IsDraftOf f.catalogue f.nodes d) (plain : IsPlain f d) where
  abbrev files : List File
  files = f ∷ []

  node_cells : (e n : ℕ)
      → source_cells files d e 0 n ≡ named_cells (entry_names files d e 0 n) f.header f.catalogue f.bytes (get_or f.nodes n no_head)
  node_cells e n =
      let x : Head = get_or f.nodes n no_head in
      source_cells-own files d e 0 n plain.no_overrides plain.no_fault plain.catalogue plain.width
      (ap (λ (c : Catalogue). index_under c f.catalogue x.index) plain.catalogue ∙ plain.index n)

  node_views : (e n : ℕ)
      → entry_views files d e (entries.Source 0 n)
      ≡ named_views (entry_names files d e 0 n) f.header f.catalogue f.bytes (get_or f.nodes n no_head)
  unfolding entry_cells
  node_views e n = by ((get_or f.nodes n no_head).index == 0)
    where
      by : (b : Bool)
          → flat_map (views_of d.catalogue) (cond b [] (source_cells files d e 0 n))
          ≡ cond b [] (flat_map (views_of f.catalogue) (named_cells (entry_names files d e 0 n) f.header f.catalogue f.bytes (get_or f.nodes n no_head)))
      by true = refl
      by false = λ i. flat_map (views_of (plain.catalogue i)) (node_cells e n i)

  -- an entry says what its node says by the entry's names
  views_here : (e : ℕ) (x : Entry) → IsOfSource x
      → entry_views files d e x ≡ named_views (entry_names files d e 0 (entry_node x)) f.header f.catalogue f.bytes (entry_head f.nodes x)
  views_here e (entries.Source zero n) is = node_views e n
  views_here e (entries.Source (suc i) n) is = absurd (omega (arith, is))
  views_here e (entries.Made m) is = absurd is
  views_here e (entries.Raw code bytes) is = absurd is

  -- so the draft says what the nodes say
  pub selection_views-own : (names : Namings) → ((e : ℕ) → e < length d.entries → names e ≡ own_names f d e)
      → views_seen names f.header f.catalogue (entry_heads f.nodes d.entries) f.bytes ≡ selection_views files d
  unfolding selection_views views_seen
  selection_views-own names same =
      let one : List View → List View = λ vs. vs in
      let heads = entry_heads f.nodes d.entries in
      let here : ℕ × Entry → List View = λ p. entry_views files d p.0 p.1 in
      let there : ℕ × Head → List View = λ p. named_views (names p.0) f.header f.catalogue f.bytes p.1 in
      let nothing : Entry = entries.Raw [] [] in
      let many : length heads ≡ length d.entries = length-map d.entries (entry_head f.nodes) in
      let long : length (map there (enumerate_from 0 heads)) ≡ length d.entries =
      length-map (enumerate_from 0 heads) there ∙ length-enumerate_from 0 heads ∙ many in
      sym (flat_map-map one there (enumerate_from 0 heads))
      ∙ ap (flat_map one)
      (ext_get_or [] (map there (enumerate_from 0 heads)) (map here (enumerate_from 0 d.entries))
      (long ∙ sym (length-map (enumerate_from 0 d.entries) here ∙ length-enumerate_from 0 d.entries))
      (λ e below.
      let lt : e < length d.entries = omega (arith, below, long) in
      at_place there heads e no_head [] (omega (arith, lt, many))
      ∙ ap (λ (x : Head). there (e, x)) (get_or-map (entry_head f.nodes) d.entries e nothing no_head lt)
      ∙ ap (λ ns. named_views ns f.header f.catalogue f.bytes (entry_head f.nodes (entry_at d e))) (same e lt)
      ∙ sym (views_here e (entry_at d e) (draft.entries e nothing lt).0)
      ∙ sym (at_place here d.entries e nothing [] lt)))
      ∙ flat_map-map one here (enumerate_from 0 d.entries)
