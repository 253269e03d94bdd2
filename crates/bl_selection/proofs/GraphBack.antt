-- The written form of a graph that fits is accepted, and its graph is that graph.
use Rattle.std.proofs.Common.{◌≡◌, ℕ, ◌+◌, ◌-◌, All, List, [], ◌∷◌, ◌++◌, length, drop, Some, None, refl, sym, ap, subst, ◌∙◌, append_assoc}
use Rattle.std.specs.Prelude.{map, flat_map, codes}
use Rattle.std.specs.List.{enumerate_from}
use Rattle.std.proofs.lemmas.List.{drop_at, drop-drop}
use Rattle.std.proofs.lemmas.List.Elements.{All-head, All-tail}
use Rattle.bl_num.specs.declared.number.Order.{Order}
use Rattle.bl_num.specs.declared.number.Width.{Width}
use Rattle.bl_format.specs.declared.file.Header.{Header}
use Rattle.bl_format.specs.declared.file.Head.{Head}
use Rattle.bl_format.specs.declared.catalogue.Catalogue.{Catalogue}
use Rattle.bl_format.specs.declared.raw.View.{View}
use Rattle.bl_format.specs.Words.{zeros}
use Rattle.bl_format.specs.Blocks.{header_size, head_size, header_written}
use Rattle.bl_format.specs.Layout.{NamedLeaf, named_leaves, struct_number, first_fault}
use Rattle.bl_format.specs.Nodes.{File, mark, marks, group_of, target_of, payload, raw_kind}
use Rattle.bl_format.specs.Graph.{Naming, Target, Value, Fields, Node, Struct, Raw, Cell, fields, struct_cells, leaf_value, view_by, views_of, file_codes, file_names, node_elements, node_cells, node_views, file_views, node_of, graph}
use Rattle.bl_format.proofs.HeaderBack.{length-header_written}
use Rattle.bl_selection.specs.Written.{address_of, contents_written, node_written, catalogue_block, written_form}
use Rattle.bl_selection.specs.Fits.{Slot, slots, ContentsFit}
use Rattle.bl_selection.specs.GraphFits.{node_code, node_index, node_count, node_payload, node_codes, mark_in, graph_marks, names_for, views_of_fields, views_of_node, graph_views, NodeFits}
use Rattle.bl_selection.proofs.FieldsBack.{cell_of, struct_cells-slots}
use Rattle.bl_selection.proofs.ElementsBack.{FitsStruct}
use Rattle.bl_selection.proofs.BlocksBack.{payload_of_block}
use Rattle.bl_selection.proofs.NodesBack.{node_cells_back, struct_node_back, raw_node_back, not_zero}
use Rattle.bl_selection.proofs.FormSpelled.{node_head, behind_node, node_heads, nodes_written, AllFit, node_can_stand, node_written-block, length-node_written}

-- the file as which the written form of a graph reads
abbrev pub form_file : Header → Catalogue → List Node → File
form_file h c nodes = record {
  header = h;
  catalogue = c;
  nodes = node_heads h c 0 (header_size h) nodes;
  bytes = written_form h c nodes;
}

-- ---- what addresses name

codes_are : (h : Header) (c : Catalogue) (k at : ℕ) (xs : List Node) → map (λ (x : Head). x.code) (node_heads h c k at xs) ≡ node_codes xs
codes_are h c k at [] = refl
codes_are h c k at (x ∷ xs) = ap (λ (cs : List (List ℕ)). node_code x ∷ cs) (codes_are h c (k + 1) (behind_node h c x at) xs)

marks_from : (h : Header) (c : Catalogue) (nodes : List Node) (k at : ℕ) (xs : List Node)
    → map (λ p. mark (form_file h c nodes) p.0 p.1) (enumerate_from k (node_heads h c k at xs)) ≡ map (λ p. mark_in c nodes p.0 p.1) (enumerate_from k xs)
marks_from h c nodes k at [] = refl
marks_from h c nodes k at (x ∷ xs) =
    let same : file_codes (form_file h c nodes) ≡ node_codes nodes = codes_are h c 0 (header_size h) nodes in
    let own : mark (form_file h c nodes) k (node_head h c k x at) ≡ mark_in c nodes k x = λ i. record (mark_in c nodes k x) { group = group_of (same i) k } in
    let later = marks_from h c nodes (k + 1) (behind_node h c x at) xs in
    λ i. own i ∷ later i

marks_are : (h : Header) (c : Catalogue) (nodes : List Node) → marks (form_file h c nodes) ≡ graph_marks c nodes
unfolding marks graph_marks
marks_are h c nodes = marks_from h c nodes 0 (header_size h) nodes

-- addresses in the file name what they name in the graph
names_are : (h : Header) (c : Catalogue) (nodes : List Node) (k : ℕ)
    → file_names (form_file h c nodes) (group_of (file_codes (form_file h c nodes)) k) ≡ names_for c nodes k
names_are h c nodes k =
    let same : file_codes (form_file h c nodes) ≡ node_codes nodes = codes_are h c 0 (header_size h) nodes in
    λ i. target_of (marks_are h c nodes i) (group_of (same i) k)

-- ---- what pointers say

cells_views : (c : Catalogue) (value : NamedLeaf → ℕ → Value Target) (es : List Slot)
    → views_of c (map (cell_of value) es) ≡ views_of_fields c es (fields (map (cell_of value) es))
cells_views c value [] = refl
cells_views c value (e ∷ es) = ap (λ (vs : List View). view_by c e.0.kind (value e.0 e.1) ++ vs) (cells_views c value es)

-- pointers say the same by cells and by fields
struct_views : (names : Naming Target) (order : Order) (c : Catalogue) (w : Width) (s : ℕ) (bytes : List ℕ)
    → views_of c (struct_cells names order c w s bytes) ≡ views_of_fields c (slots (named_leaves c w s)) (fields (struct_cells names order c w s bytes))
struct_views names order c w s bytes =
    subst (λ (cs : List Cell). views_of c cs ≡ views_of_fields c (slots (named_leaves c w s)) (fields cs)) (sym (struct_cells-slots names order c w s bytes))
    (cells_views c (λ x k. leaf_value names order bytes x k) (slots (named_leaves c w s)))

elements_views : (names : Naming Target) (order : Order) (c : Catalogue) (w : Width) (s : ℕ) (bs : List (List ℕ))
    → flat_map (views_of c) (map (struct_cells names order c w s) bs)
    ≡ flat_map (views_of_fields c (slots (named_leaves c w s))) (map fields (map (struct_cells names order c w s) bs))
elements_views names order c w s [] = refl
elements_views names order c w s (b ∷ bs) =
    let first = struct_views names order c w s b in
    let later = elements_views names order c w s bs in
    λ i. first i ++ later i

-- ---- each node where it stands

-- the text of a node in front of others, and what stands behind it
here_stands : (h : Header) (c : Catalogue) (b : List ℕ) (k at : ℕ) (x : Node) (xs : List Node) (back : List ℕ)
    → drop at b ≡ nodes_written h c k (x ∷ xs) ++ back → drop at b ≡ node_written h c k x ++ (nodes_written h c (k + 1) xs ++ back)
here_stands h c b k at x xs back stands = stands ∙ simp append_assoc

next_stands : (h : Header) (c : Catalogue) (nodes : List Node) (b : List ℕ) (k at : ℕ) (x : Node) (xs : List Node) (back : List ℕ)
    → NodeFits h c nodes k x → drop at b ≡ nodes_written h c k (x ∷ xs) ++ back
    → drop (behind_node h c x at) b ≡ nodes_written h c (k + 1) xs ++ back
next_stands h c nodes b k at x xs back fits stands =
    let n : ℕ = head_size h + length (node_payload h c x) in
    sym (drop-drop n at b) ∙ ap (drop n) (here_stands h c b k at x xs back stands)
    ∙ drop_at (node_written h c k x) (nodes_written h c (k + 1) xs ++ back) n (length-node_written h c nodes k x fits)

-- where a node stands, its payload is read
pub payload_is : (h : Header) (c : Catalogue) (nodes : List Node) (b : List ℕ) (k at : ℕ) (x : Node) (rest : List ℕ)
    → NodeFits h c nodes k x → drop at b ≡ node_written h c k x ++ rest → payload h b (node_head h c k x at) ≡ node_payload h c x
payload_is h c nodes b k at x rest fits stands =
    payload_of_block h (node_code x) (address_of (Some k)) (node_index c x) (node_count x) (node_payload h c x) at (node_can_stand h c nodes k x at fits) b rest
    (stands ∙ ap (λ (t : List ℕ). t ++ rest) (node_written-block h c k x))

-- the first node stands behind the header
pub first_stands : (h : Header) (c : Catalogue) (nodes : List Node)
    → drop (header_size h) (written_form h c nodes) ≡ nodes_written h c 0 nodes ++ (catalogue_block h c ++ (codes "ENDB" ++ zeros (head_size h - 4)))
unfolding written_form
first_stands h c nodes =
    let behind : List ℕ = nodes_written h c 0 nodes ++ (catalogue_block h c ++ (codes "ENDB" ++ zeros (head_size h - 4))) in
    let grouped : written_form h c nodes ≡ header_written h ++ behind = simp append_assoc in
    ap (drop (header_size h)) grouped ∙ drop_at (header_written h) behind (header_size h) (length-header_written h)

module _ (h : Header) (c : Catalogue) (nodes : List Node) (no_fault : first_fault c h.width ≡ None) where
  abbrev f : File
  f = form_file h c nodes

  cells_back : (k at : ℕ) (code name : List ℕ) (g : ℕ) (es : List Fields) (rest : List ℕ)
      → NodeFits h c nodes k (Struct code name g es) → drop at f.bytes ≡ node_written h c k (Struct code name g es) ++ rest
      → map fields (node_cells f k (node_head h c k (Struct code name g es) at)) ≡ es
  cells_back k at code name g es rest fits stands =
      node_cells_back f k (node_head h c k (Struct code name g es) at) es no_fault refl
      (payload_is h c nodes f.bytes k at (Struct code name g es) rest fits stands)
      (subst (λ (names : Naming Target). All (FitsStruct names c h.width (struct_number c name)) es) (sym (names_are h c nodes k)) fits.holds.1)

  views_back : (k at : ℕ) (x : Node) (rest : List ℕ) → NodeFits h c nodes k x → drop at f.bytes ≡ node_written h c k x ++ rest
      → node_views f k (node_head h c k x at) ≡ views_of_node c h.width x
  unfolding node_cells
  views_back k at (Struct code name g es) rest fits stands =
      let x : Head = node_head h c k (Struct code name g es) at in
      let s : ℕ = struct_number c name in
      let names : Naming Target = file_names f (group_of (file_codes f) k) in
      not_zero s [] (flat_map (views_of c) (node_cells f k x)) fits.holds.0
      ∙ elements_views names h.order c h.width s (node_elements f x)
      ∙ ap (flat_map (views_of_fields c (slots (named_leaves c h.width s)))) (cells_back k at code name g es rest fits stands)
  views_back k at (Raw code g n kind contents) rest fits stands = refl

  views_from : (k at : ℕ) (xs : List Node) (back : List ℕ) → AllFit h c nodes k xs → drop at f.bytes ≡ nodes_written h c k xs ++ back
      → flat_map (λ p. node_views f p.0 p.1) (enumerate_from k (node_heads h c k at xs)) ≡ flat_map (views_of_node c h.width) xs
  views_from k at [] back fit stands = refl
  views_from k at (x ∷ xs) back fit stands =
      let own : NodeFits h c nodes k x = All-head (λ p. NodeFits h c nodes p.0 p.1) (k, x) (enumerate_from (k + 1) xs) fit in
      let others = All-tail (λ p. NodeFits h c nodes p.0 p.1) (k, x) (enumerate_from (k + 1) xs) fit in
      let first = views_back k at x (nodes_written h c (k + 1) xs ++ back) own (here_stands h c f.bytes k at x xs back stands) in
      let later = views_from (k + 1) (behind_node h c x at) xs back others (next_stands h c nodes f.bytes k at x xs back own stands) in
      λ i. first i ++ later i

  node_back : (views : List View) (k at : ℕ) (x : Node) (rest : List ℕ)
      → views ≡ graph_views c h.width nodes → NodeFits h c nodes k x → drop at f.bytes ≡ node_written h c k x ++ rest
      → node_of f views k (node_head h c k x at) ≡ x
  node_back views k at (Struct code name g es) rest say fits stands =
      let codes_same : file_codes f ≡ node_codes nodes = codes_are h c 0 (header_size h) nodes in
      let group : group_of (file_codes f) k ≡ g = ap (λ (cs : List (List ℕ)). group_of cs k) codes_same ∙ fits.group in
      let names : names_for c nodes k ≡ file_names f g = λ i. target_of (sym (marks_are h c nodes) i) (fits.group i) in
      struct_node_back f views k code name g es at rest no_fault fits.holds.0 (node_can_stand h c nodes k (Struct code name g es) at fits) stands group
      (subst (λ (names : Naming Target). All (FitsStruct names c h.width (struct_number c name)) es) names fits.holds.1)
  node_back views k at (Raw code g n kind contents) rest say fits stands =
      let codes_same : file_codes f ≡ node_codes nodes = codes_are h c 0 (header_size h) nodes in
      let group : group_of (file_codes f) k ≡ g = ap (λ (cs : List (List ℕ)). group_of cs k) codes_same ∙ fits.group in
      let names : names_for c nodes k ≡ file_names f g = λ i. target_of (sym (marks_are h c nodes) i) (fits.group i) in
      let same : raw_kind views code (length (contents_written h kind contents)) k ≡ kind = ap (λ (vs : List View). raw_kind vs code (length (contents_written h kind contents)) k) say ∙ fits.holds.0 in
      raw_node_back f views k code g n kind contents at rest (node_can_stand h c nodes k (Raw code g n kind contents) at fits) stands group same
      (subst (λ (names : Naming Target). ContentsFit names h.width kind contents) names fits.holds.1)

  nodes_from : (views : List View) (k at : ℕ) (xs : List Node) (back : List ℕ)
      → views ≡ graph_views c h.width nodes → AllFit h c nodes k xs → drop at f.bytes ≡ nodes_written h c k xs ++ back
      → map (λ p. node_of f views p.0 p.1) (enumerate_from k (node_heads h c k at xs)) ≡ xs
  nodes_from views k at [] back say fit stands = refl
  nodes_from views k at (x ∷ xs) back say fit stands =
      let own : NodeFits h c nodes k x = All-head (λ p. NodeFits h c nodes p.0 p.1) (k, x) (enumerate_from (k + 1) xs) fit in
      let others = All-tail (λ p. NodeFits h c nodes p.0 p.1) (k, x) (enumerate_from (k + 1) xs) fit in
      let first = node_back views k at x (nodes_written h c (k + 1) xs ++ back) say own (here_stands h c f.bytes k at x xs back stands) in
      let later = nodes_from views (k + 1) (behind_node h c x at) xs back say others (next_stands h c nodes f.bytes k at x xs back own stands) in
      λ i. first i ∷ later i

  -- the pointers of the written form say what those of the graph say
  pub file_views_back : AllFit h c nodes 0 nodes → file_views f ≡ graph_views c h.width nodes
  unfolding file_views graph_views
  file_views_back fit = views_from 0 (header_size h) nodes _ fit (first_stands h c nodes)

  -- the graph of the written form is the graph that was written
  pub graph_back : AllFit h c nodes 0 nodes → graph f ≡ nodes
  unfolding graph
  graph_back fit = nodes_from (file_views f) 0 (header_size h) nodes _ (file_views_back fit) fit (first_stands h c nodes)
