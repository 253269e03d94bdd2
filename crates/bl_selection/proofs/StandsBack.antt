-- The written form of a graph that fits is accepted, with the header, the catalogue and the graph that were written.
use Rattle.std.proofs.Common.{◌≡◌, ℕ, ◌+◌, ◌-◌, ◌*◌, false, List, [], ◌∷◌, ◌++◌, length, drop, None, refl, sym, ap, ◌∙◌, append-nil, arith}
use Rattle.std.specs.Prelude.{not, nat_le, nat_lt, codes}
use Rattle.std.specs.List.{enumerate_from}
use Rattle.std.proofs.lemmas.Bool.{le-ltb, lt-leb}
use Rattle.std.proofs.lemmas.List.{drop_at, drop-drop}
use Rattle.std.proofs.lemmas.List.Elements.{All-head, All-tail, filter-append}
use Rattle.bl_format.specs.declared.file.Header.{Header}
use Rattle.bl_format.specs.declared.file.Head.{Head}
use Rattle.bl_format.specs.declared.catalogue.Catalogue.{Catalogue}
use Rattle.bl_format.specs.Words.{find_map, zeros}
use Rattle.bl_format.specs.Blocks.{header_size, head_size}
use Rattle.bl_format.specs.Schema.{catalogue_of, catalogue_written}
use Rattle.bl_format.specs.Layout.{struct_length, struct_number, first_fault}
use Rattle.bl_format.specs.Nodes.{payload, is_catalogue, catalogues_in, nodes_in, node_fault, Accepted}
use Rattle.bl_format.specs.Graph.{Node, Struct, Raw}
use Rattle.bl_format.proofs.MemberPasses.{first_fault-none}
use Rattle.bl_format.proofs.CatalogueBack.{catalogue_of-catalogue_written}
use Rattle.bl_format.proofs.CatalogueRead.{IsCatalogue-can_be_read}
use Rattle.bl_selection.specs.Written.{catalogue_block, written_form}
use Rattle.bl_selection.specs.GraphFits.{node_payload, names_for, NodeFits, GraphFits}
use Rattle.bl_selection.specs.Committed.{Stands}
use Rattle.bl_selection.proofs.ElementsBack.{length-payload}
use Rattle.bl_selection.proofs.BlocksBack.{payload_of_block}
use Rattle.bl_selection.proofs.NodesBack.{not_zero, struct_number-named}
use Rattle.bl_selection.proofs.FormSpelled.{node_head, behind_node, node_heads, nodes_written, catalogue_head, AllFit, catalogue_can_stand, form_blocks, written_form-reads}
use Rattle.bl_selection.proofs.GraphBack.{form_file, first_stands, graph_back}

-- ---- nodes

-- a node that fits has no fault
node_faultless : (h : Header) (c : Catalogue) (nodes : List Node) (k at : ℕ) (x : Node)
    → first_fault c h.width ≡ None → NodeFits h c nodes k x → node_fault c (node_head h c k x at) ≡ None
node_faultless h c nodes k at (Struct code name g es) no_fault fits =
    let s : ℕ = struct_number c name in
    let len : ℕ = length (node_payload h c (Struct code name g es)) in
    let within : nat_le (length c.structs) s ≡ false = lt-leb (length c.structs) s (struct_number-named c name fits.holds.0).within in
    let long : len ≡ length es * struct_length c s = length-payload (names_for c nodes k) h.order c h.width s es no_fault fits.holds.1 in
    let enough : nat_lt len (length es * struct_length c s) ≡ false = le-ltb len (length es * struct_length c s) (omega (arith, long)) in
    not_zero s _ _ fits.holds.0 ∙ rw (within, enough) refl
node_faultless h c nodes k at (Raw code g n kind contents) no_fault fits = refl

module _ (h : Header) (c : Catalogue) (nodes : List Node) where
  faultless : (k at : ℕ) (xs : List Node) → first_fault c h.width ≡ None → AllFit h c nodes k xs
      → find_map (node_fault c) (node_heads h c k at xs) ≡ None
  faultless k at [] no_fault fit = refl
  faultless k at (x ∷ xs) no_fault fit =
      let own : NodeFits h c nodes k x = All-head (λ p. NodeFits h c nodes p.0 p.1) (k, x) (enumerate_from (k + 1) xs) fit in
      rw (node_faultless h c nodes k at x no_fault own)
      (faultless (k + 1) (behind_node h c x at) xs no_fault (All-tail (λ p. NodeFits h c nodes p.0 p.1) (k, x) (enumerate_from (k + 1) xs) fit))

  -- no node holds a catalogue
  all_nodes : (k at : ℕ) (xs : List Node) → AllFit h c nodes k xs → nodes_in (node_heads h c k at xs) ≡ node_heads h c k at xs
  all_nodes k at [] fit = refl
  all_nodes k at (x ∷ xs) fit =
      let own : NodeFits h c nodes k x = All-head (λ p. NodeFits h c nodes p.0 p.1) (k, x) (enumerate_from (k + 1) xs) fit in
      let later = all_nodes (k + 1) (behind_node h c x at) xs (All-tail (λ p. NodeFits h c nodes p.0 p.1) (k, x) (enumerate_from (k + 1) xs) fit) in
      rw (own.no_catalogue, later) refl

  no_catalogues : (k at : ℕ) (xs : List Node) → AllFit h c nodes k xs → catalogues_in (node_heads h c k at xs) ≡ []
  no_catalogues k at [] fit = refl
  no_catalogues k at (x ∷ xs) fit =
      let own : NodeFits h c nodes k x = All-head (λ p. NodeFits h c nodes p.0 p.1) (k, x) (enumerate_from (k + 1) xs) fit in
      let later = no_catalogues (k + 1) (behind_node h c x at) xs (All-tail (λ p. NodeFits h c nodes p.0 p.1) (k, x) (enumerate_from (k + 1) xs) fit) in
      rw (own.no_catalogue, later) refl

  -- ---- the catalogue

  abbrev place : Head
  place = catalogue_head h c (header_size h + length (nodes_written h c 0 nodes))

  one_catalogue : AllFit h c nodes 0 nodes → catalogues_in (form_blocks h c nodes) ≡ place ∷ []
  one_catalogue fit = rw (filter-append is_catalogue (node_heads h c 0 (header_size h) nodes) (place ∷ []), no_catalogues 0 (header_size h) nodes fit) refl

  nodes_are : AllFit h c nodes 0 nodes → nodes_in (form_blocks h c nodes) ≡ node_heads h c 0 (header_size h) nodes
  nodes_are fit = rw (filter-append (λ x. not (is_catalogue x)) (node_heads h c 0 (header_size h) nodes) (place ∷ []), all_nodes 0 (header_size h) nodes fit) (append-nil (node_heads h c 0 (header_size h) nodes))

  payload_of_catalogue : GraphFits h c nodes → payload h (written_form h c nodes) place ≡ catalogue_written h.order c
  payload_of_catalogue fits =
      let text : List ℕ = nodes_written h c 0 nodes in
      let at : ℕ = header_size h + length text in
      let rest : List ℕ = codes "ENDB" ++ zeros (head_size h - 4) in
      let stands : drop at (written_form h c nodes) ≡ catalogue_block h c ++ rest = sym (drop-drop (length text) (header_size h) (written_form h c nodes)) ∙ ap (drop (length text)) (first_stands h c nodes) ∙ drop_at text (catalogue_block h c ++ rest) (length text) refl in
      payload_of_block h (codes "DNA1") 0 0 1 (catalogue_written h.order c) at (catalogue_can_stand h c at fits.catalogue) (written_form h c nodes) rest stands

-- ---- the laws

-- the written form of a graph that fits is accepted
pub written_form-accepted : (h : Header) (c : Catalogue) (nodes : List Node) → GraphFits h c nodes → Accepted (written_form h c nodes) (form_file h c nodes)
written_form-accepted h c nodes fits = record {
  blocks = form_blocks h c nodes;
  reads = record {
    reads = written_form-reads h c nodes fits.version.0 fits.version.1 fits.catalogue fits.each;
    place = catalogue_head h c (header_size h + length (nodes_written h c 0 nodes));
    one_catalogue = one_catalogue h c nodes fits.each;
    catalogue = ap (catalogue_of h.order) (payload_of_catalogue h c nodes fits) ∙ catalogue_of-catalogue_written h.order c (IsCatalogue-can_be_read c fits.layout.can_be_read);
  };
  no_layout_fault = fits.layout.no_fault;
  nodes = sym (nodes_are h c nodes fits.each);
  no_node_fault = faultless h c nodes 0 (header_size h) nodes (first_fault-none c h.width fits.layout.no_fault) fits.each;
  bytes = refl;
}

-- and stands with the header, the catalogue and the graph that were written
pub written_form-stands : (h : Header) (c : Catalogue) (nodes : List Node) → GraphFits h c nodes → Stands (written_form h c nodes) h c nodes
written_form-stands h c nodes fits = record {
  file = form_file h c nodes;
  accepted = written_form-accepted h c nodes fits;
  header = refl;
  catalogue = refl;
  graph_is = graph_back h c nodes (first_fault-none c h.width fits.layout.no_fault) fits.each;
  written = refl;
}
