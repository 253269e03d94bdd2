-- The entries of a draft and the nodes of its selection's graph have the same codes, groups, counts and structs, so what
-- is in scope of an entry is in scope of its node.
use Rattle.std.proofs.Common.{◌≡◌, ℕ, zero, suc, ◌+◌, ◌<◌, Bool, true, false, cond, List, [], ◌∷◌, length, get_or, Some, None, refl, ap, subst, ◌∙◌, arith}
use Rattle.std.specs.Prelude.{◌==◌, ◌||◌, map}
use Rattle.std.specs.List.{enumerate_from}
use Rattle.std.proofs.Math.Dec.{eqb-suc-zero}
use Rattle.std.proofs.lemmas.List.{length-map, get_or-map}
use Rattle.std.proofs.lemmas.List.FromFn.{length-enumerate_from, get_or-enumerate_from}
use Rattle.bl_format.specs.declared.catalogue.Catalogue.{Catalogue}
use Rattle.bl_format.specs.declared.raw.View.{View}
use Rattle.bl_format.specs.Words.{numbers_below}
use Rattle.bl_format.specs.Layout.{struct_name, struct_number}
use Rattle.bl_format.specs.Nodes.{File, group_of, is_id}
use Rattle.bl_format.specs.Graph.{Fields, Node, Struct, Cell, fields, node_elements}
pub use Rattle.bl_format.proofs.NumbersBelow.{length-numbers_below}
use Rattle.bl_selection.specs.declared.draft.Draft.{Draft}
use Rattle.bl_selection.specs.declared.draft.Entry.{Entry}
use Rattle.bl_selection.specs.declared.draft.Entry.TheVariants as entries
use Rattle.bl_selection.specs.Selection.{file_at, node_at, index_under, entry_code, entry_codes, entry_count, entry_index, entry_at, entry_group, entry_is_id, source_cells, entry_cells, entry_node, selection_views, selection_graph, target_in_scope}
use Rattle.bl_selection.specs.GraphFits.{node_code, node_group, node_index, node_count, node_codes, no_node, IsInScope}

if_both : (P : Node → Type 0) (b : Bool) (x y : Node) → P x → P y → P (cond b x y)
if_both P true x y p q = p
if_both P false x y p q = q

-- the number of a made node's struct is that of its name
abbrev pub IsItsName : Catalogue → Entry → Type 0
IsItsName c (entries.Made m) = struct_number c (struct_name c m.s) ≡ m.s
IsItsName c x = Unit {0}

module _ (files : List File) (d : Draft) (views : List View) where
  pub entry_node-code : (e : ℕ) (x : Entry) → node_code (entry_node files d views e x) ≡ entry_code files x
  unfolding entry_node
  entry_node-code e (entries.Source i n) = if_both (λ y. node_code y ≡ (node_at files i n).code) ((node_at files i n).index == 0) _ _ refl refl
  entry_node-code e (entries.Made m) = refl
  entry_node-code e (entries.Raw code bytes) = refl

  pub entry_node-group : (e : ℕ) (x : Entry) → node_group (entry_node files d views e x) ≡ entry_group files d e
  unfolding entry_node
  entry_node-group e (entries.Source i n) = if_both (λ y. node_group y ≡ entry_group files d e) ((node_at files i n).index == 0) _ _ refl refl
  entry_node-group e (entries.Made m) = refl
  entry_node-group e (entries.Raw code bytes) = refl

  pub entry_node-index : (e : ℕ) (x : Entry) → IsItsName d.catalogue x → node_index d.catalogue (entry_node files d views e x) ≡ entry_index files d.catalogue x
  unfolding entry_node
  entry_node-index e (entries.Source i n) named = by_index (node_at files i n).index _ _ _ _ refl
    where
      by_index : (s : ℕ) (raw : Node) (code : List ℕ) (g : ℕ) (es : List Fields) → node_index d.catalogue raw ≡ 0
          → node_index d.catalogue (cond (s == 0) raw (Struct code (struct_name (file_at files i).catalogue s) g es)) ≡ index_under d.catalogue (file_at files i).catalogue s
      by_index zero raw code g es is = is
      by_index (suc s) raw code g es is = rw (eqb-suc-zero s) refl
  entry_node-index e (entries.Made m) named = named
  entry_node-index e (entries.Raw code bytes) named = refl

  -- a source entry has the elements of its node
  pub length-source_cells : (e i n : ℕ) → length (source_cells files d e i n) ≡ (node_at files i n).count
  length-source_cells e i n =
      let f : File = file_at files i in
      let bytes : List (List ℕ) = node_elements f (node_at files i n) in
      length-map (enumerate_from 0 bytes) _ ∙ length-enumerate_from 0 bytes ∙ length-map (numbers_below (node_at files i n).count) _ ∙ length-numbers_below (node_at files i n).count

  pub entry_node-count : (e : ℕ) (x : Entry) → node_count (entry_node files d views e x) ≡ entry_count files x
  unfolding entry_node entry_cells
  entry_node-count e (entries.Source i n) =
      by_count ((node_at files i n).index == 0) _ _ _ _ (source_cells files d e i n) refl (length-source_cells e i n)
    where
      by_count : (b : Bool) (raw : Node) (code name : List ℕ) (g : ℕ) (cs : List (List Cell)) → node_count raw ≡ (node_at files i n).count
          → length cs ≡ (node_at files i n).count → node_count (cond b raw (Struct code name g (map fields (cond b [] cs)))) ≡ (node_at files i n).count
      by_count true raw code name g cs is long = is
      by_count false raw code name g cs is long = length-map cs fields ∙ long
  entry_node-count e (entries.Made m) = refl
  entry_node-count e (entries.Raw code bytes) = refl

-- ---- the graph

-- the entries' nodes, one for each in order
nodes_of : (files : List File) (d : Draft) → selection_graph files d ≡ map (λ p. entry_node files d (selection_views files d) p.0 p.1) (enumerate_from 0 d.entries)
unfolding selection_graph
nodes_of files d = refl

codes_from : (files : List File) (d : Draft) (views : List View) (k : ℕ) (xs : List Entry)
    → node_codes (map (λ p. entry_node files d views p.0 p.1) (enumerate_from k xs)) ≡ map (entry_code files) xs
codes_from files d views k [] = refl
codes_from files d views k (x ∷ xs) =
    let first = entry_node-code files d views k x in
    let later = codes_from files d views (k + 1) xs in
    λ i. first i ∷ later i

-- the nodes of a selection's graph have the codes of its entries
pub codes_are : (files : List File) (d : Draft) → node_codes (selection_graph files d) ≡ entry_codes files d
codes_are files d = ap node_codes (nodes_of files d) ∙ codes_from files d (selection_views files d) 0 d.entries

-- and are as many
pub length-selection_graph : (files : List File) (d : Draft) → length (selection_graph files d) ≡ length d.entries
length-selection_graph files d =
    ap length (nodes_of files d) ∙ length-map (enumerate_from 0 d.entries) _ ∙ length-enumerate_from 0 d.entries

-- node e is that of entry e
pub node_of_entry : (files : List File) (d : Draft) (e : ℕ) → e < length d.entries
    → get_or (selection_graph files d) e no_node ≡ entry_node files d (selection_views files d) e (entry_at d e)
node_of_entry files d e lt =
    let none : Entry = entries.Raw [] [] in
    let make : ℕ × Entry → Node = λ p. entry_node files d (selection_views files d) p.0 p.1 in
    let pairs : List (ℕ × Entry) = enumerate_from 0 d.entries in
    let within : e < length pairs = omega (arith, lt, length-enumerate_from 0 d.entries) in
    let zero_more : 0 + e ≡ e = omega arith in
    ap (λ (ys : List Node). get_or ys e no_node) (nodes_of files d)
    ∙ get_or-map make pairs e (0, none) no_node within
    ∙ ap make (get_or-enumerate_from 0 d.entries e (0, none) lt)
    ∙ ap (λ (k : ℕ). entry_node files d (selection_views files d) k (entry_at d e)) zero_more

-- an entry in scope of another is in scope of its node
pub IsInScope-target : (files : List File) (d : Draft) (e t u : ℕ) → t < length d.entries → IsItsName d.catalogue (entry_at d t)
    → target_in_scope files d e t ≡ Some u → IsInScope d.catalogue (selection_graph files d) e (Some u)
unfolding entry_is_id
IsInScope-target files d e t u lt named is =
    let c : Catalogue = d.catalogue in
    let nodes : List Node = selection_graph files d in
    let codes : node_codes nodes ≡ entry_codes files d = codes_are files d in
    let views : List View = selection_views files d in
    let x : Entry = entry_at d t in
    let own = node_of_entry files d t lt in
    let id : is_id c (node_code (get_or nodes t no_node)) (node_count (get_or nodes t no_node)) (node_index c (get_or nodes t no_node)) ≡ entry_is_id files d t =
    ap (λ (y : Node). is_id c (node_code y) (node_count y) (node_index c y)) own
    ∙ (λ i. is_id c (entry_node-code files d views t x i) (entry_node-count files d views t x i) (entry_node-index files d views t x named i)) in
    let both : (group_of (node_codes nodes) t == group_of (node_codes nodes) e || is_id c (node_code (get_or nodes t no_node)) (node_count (get_or nodes t no_node)) (node_index c (get_or nodes t no_node)))
    ≡ (entry_group files d t == entry_group files d e || entry_is_id files d t) = λ i. group_of (codes i) t == group_of (codes i) e || id i in
    by_scope (entry_group files d t == entry_group files d e || entry_is_id files d t) both is
  where
    by_scope : (b : Bool)
        → (group_of (node_codes (selection_graph files d)) t == group_of (node_codes (selection_graph files d)) e || is_id d.catalogue (node_code (get_or (selection_graph files d) t no_node)) (node_count (get_or (selection_graph files d) t no_node)) (node_index d.catalogue (get_or (selection_graph files d) t no_node))) ≡ b
        → cond b (Some t) None ≡ Some u → IsInScope d.catalogue (selection_graph files d) e (Some u)
    by_scope true both is = let same : t ≡ u = cc in subst (λ (v : ℕ). IsInScope d.catalogue (selection_graph files d) e (Some v)) same (omega (arith, lt, length-selection_graph files d), both)
    by_scope false both is = absurd (cc)
