-- Pointers say the same by cells as by fields, so what those of a draft's entries say is what those of its selection's
-- graph say.
use Rattle.std.proofs.Common.{◌≡◌, ◌≢◌, ℕ, zero, suc, ◌+◌, Bool, true, false, cond, All, List, [], ◌∷◌, ◌++◌, None, refl, sym, ap, ◌∙◌}
use Rattle.std.specs.Prelude.{◌==◌, map, flat_map}
use Rattle.std.specs.List.{enumerate_from}
use Rattle.std.proofs.lemmas.List.{map-append}
use Rattle.std.proofs.lemmas.List.Elements.{All-head, All-tail}
use Rattle.std.proofs.lemmas.Bool.{eqb-false}
use Rattle.bl_num.specs.declared.number.Width.{Width}
use Rattle.bl_format.specs.declared.catalogue.Catalogue.{Catalogue}
use Rattle.bl_format.specs.declared.raw.View.{View}
use Rattle.bl_format.specs.Words.{numbers_below}
use Rattle.bl_format.specs.Layout.{NamedLeaf, named_leaves, struct_name, struct_number}
use Rattle.bl_format.specs.Nodes.{File}
use Rattle.bl_format.specs.Graph.{Target, Value, Node, Struct, Cell, cells, fields, view_by, views_of}
use Rattle.bl_selection.specs.declared.draft.Draft.{Draft}
use Rattle.bl_selection.specs.declared.draft.Entry.{Entry}
use Rattle.bl_selection.specs.declared.draft.Entry.TheVariants as entries
use Rattle.bl_selection.specs.Fate.{zero_of}
use Rattle.bl_selection.specs.Selection.{file_at, node_at, index_under, given_or, given_at, override_at, source_cells, entry_cells, entry_views, entry_node, selection_views, selection_graph}
use Rattle.bl_selection.specs.Fits.{Slot, slots}
use Rattle.bl_selection.specs.GraphFits.{views_of_fields, views_of_node, graph_views}
use Rattle.bl_selection.proofs.EntriesAsNodes.{IsItsName}

-- ---- cells

-- the leaf element of a cell
abbrev pub slot_of : Cell → Slot
slot_of x = (x.leaf, x.at)

views_by-slots : (c : Catalogue) (cs : List Cell) → views_of c cs ≡ views_of_fields c (map slot_of cs) (fields cs)
views_by-slots c [] = refl
views_by-slots c (x ∷ cs) = ap (λ (vs : List View). view_by c x.leaf.kind x.value ++ vs) (views_by-slots c cs)

slots_from : (value : ℕ → NamedLeaf → ℕ → Value Target) (i : ℕ) (xs : List NamedLeaf)
    → map slot_of (flat_map (λ (p : ℕ × NamedLeaf). map (λ k. record { leaf = p.1; at = k; value = value p.0 p.1 k }) (numbers_below p.1.count)) (enumerate_from i xs)) ≡ slots xs
slots_from value i [] = refl
slots_from value i (x ∷ xs) =
    let first : List Cell = map (λ k. record { leaf = x; at = k; value = value i x k }) (numbers_below x.count) in
    let others : List Cell = flat_map (λ (p : ℕ × NamedLeaf). map (λ k. record { leaf = p.1; at = k; value = value p.0 p.1 k }) (numbers_below p.1.count)) (enumerate_from (i + 1) xs) in
    rw (map-append {B = Slot} slot_of first others, slots_from value (i + 1) xs, each (numbers_below x.count)) refl
  where
    each : (ks : List ℕ) → map slot_of (map (λ k. record { leaf = x; at = k; value = value i x k }) ks) ≡ map (λ k. (x, k)) ks
    each [] = refl
    each (k ∷ ks) = rw (each ks) refl

-- the cells of some leaves are those of their elements, in order
pub slots-cells : (value : ℕ → NamedLeaf → ℕ → Value Target) (xs : List NamedLeaf) → map slot_of (cells value xs) ≡ slots xs
unfolding cells
slots-cells value xs = slots_from value 0 xs

-- pointers say the same by cells as by fields
pub views-cells : (c : Catalogue) (value : ℕ → NamedLeaf → ℕ → Value Target) (xs : List NamedLeaf)
    → views_of c (cells value xs) ≡ views_of_fields c (slots xs) (fields (cells value xs))
views-cells c value xs =
    views_by-slots c (cells value xs) ∙ ap (λ (es : List Slot). views_of_fields c es (fields (cells value xs))) (slots-cells value xs)

-- and those of each of some elements
pub views-each : {X : Type 0} (c : Catalogue) (xs : List NamedLeaf) (value : X → ℕ → NamedLeaf → ℕ → Value Target) (ps : List X)
    → flat_map (views_of c) (map (λ p. cells (value p) xs) ps) ≡ flat_map (views_of_fields c (slots xs)) (map fields (map (λ p. cells (value p) xs) ps))
views-each c xs value [] = refl
views-each c xs value (p ∷ ps) =
    let first = views-cells c (value p) xs in
    let later = views-each c xs value ps in
    λ i. first i ++ later i

-- ---- entries

pub index_under-some : (c from : Catalogue) (s : ℕ) → s ≢ 0 → index_under c from s ≡ struct_number c (struct_name from s)
index_under-some c from zero some = absurd (some refl)
index_under-some c from (suc s) some = refl

module _ (files : List File) (d : Draft) (views : List View) where
  abbrev c : Catalogue
  c = d.catalogue

  abbrev w : Width
  w = d.header.width

  source_views : (e i n s : ℕ) → index_under c (file_at files i).catalogue (node_at files i n).index ≡ s
      → flat_map (views_of c) (source_cells files d e i n) ≡ flat_map (views_of_fields c (slots (named_leaves c w s))) (map fields (source_cells files d e i n))
  source_views e i n s is =
      views-each c (named_leaves c w (index_under c (file_at files i).catalogue (node_at files i n).index)) _ _
      ∙ ap (λ (t : ℕ). flat_map (views_of_fields c (slots (named_leaves c w t))) (map fields (source_cells files d e i n))) is

  -- what an entry's pointers say is what its node's say
  entry_views-node : (e : ℕ) (x : Entry) → IsItsName c x → entry_views files d e x ≡ views_of_node c w (entry_node files d views e x)
  unfolding entry_node entry_cells
  entry_views-node e (entries.Source i n) named = by_index ((node_at files i n).index == 0) _ _ _ refl refl
    where
      by_index : (b : Bool) (raw : Node) (code : List ℕ) (g : ℕ) → ((node_at files i n).index == 0) ≡ b → views_of_node c w raw ≡ []
          → flat_map (views_of c) (cond b [] (source_cells files d e i n))
          ≡ views_of_node c w (cond b raw (Struct code (struct_name (file_at files i).catalogue (node_at files i n).index) g (map fields (cond b [] (source_cells files d e i n)))))
      by_index true raw code g is says = sym says
      by_index false raw code g is says = source_views e i n (struct_number c (struct_name (file_at files i).catalogue (node_at files i n).index)) (index_under-some c (file_at files i).catalogue (node_at files i n).index (eqb-false (node_at files i n).index 0 is))
  entry_views-node e (entries.Made m) named =
      let made : Unit {0} → ℕ → NamedLeaf → ℕ → Value Target = λ u j y k. given_or y (given_or y (zero_of None y) (given_at m j k)) (override_at d e 0 j k) in
      views-each c (named_leaves c w m.s) made (tt ∷ [])
      ∙ ap (λ (s : ℕ). flat_map (views_of_fields c (slots (named_leaves c w s))) (map fields (entry_cells files d e (entries.Made m)))) (sym named)
  entry_views-node e (entries.Raw code bytes) named = refl

  entries_views : (k : ℕ) (xs : List Entry) → All (IsItsName c) xs
      → flat_map (λ p. entry_views files d p.0 p.1) (enumerate_from k xs) ≡ flat_map (views_of_node c w) (map (λ p. entry_node files d views p.0 p.1) (enumerate_from k xs))
  entries_views k [] all = refl
  entries_views k (x ∷ xs) all =
      let first = entry_views-node k x (All-head (IsItsName c) x xs all) in
      let later = entries_views (k + 1) xs (All-tail (IsItsName c) x xs all) in
      λ i. first i ++ later i

-- what the pointers of a draft say is what those of its selection's graph say
pub selection_views-graph : (files : List File) (d : Draft) → All (IsItsName d.catalogue) d.entries
    → selection_views files d ≡ graph_views d.catalogue d.header.width (selection_graph files d)
unfolding selection_views graph_views selection_graph
selection_views-graph files d all = entries_views files d (selection_views files d) 0 d.entries all
