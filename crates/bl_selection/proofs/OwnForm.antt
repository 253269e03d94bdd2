-- An accepted file of no more nodes than the limit is rebuilt under its own header and catalogue: what is written stands,
-- and has the file's graph. What stands is written again as itself.
use Rattle.std.proofs.Common.{◌≡◌, ◌≢◌, ℕ, ◌+◌, ◌≤◌, ◌<◌, All, List, length, get_or, None, sym, subst, ◌∙◌, arith}
use Rattle.std.specs.List.{enumerate_from}
use Rattle.std.proofs.lemmas.List.{get_or_default}
use Rattle.std.proofs.lemmas.List.Elements.{All-map}
use Rattle.std.proofs.lemmas.List.FromFn.{length-enumerate_from, get_or-enumerate_from}
use Rattle.bl_format.specs.declared.file.Header.{Header}
use Rattle.bl_format.specs.declared.file.Head.{Head}
use Rattle.bl_format.specs.declared.catalogue.Catalogue.{Catalogue}
use Rattle.bl_format.specs.Limits.{most_blocks}
use Rattle.bl_format.specs.Blocks.{IsCount}
use Rattle.bl_format.specs.Schema.{catalogue_written}
use Rattle.bl_format.specs.Layout.{struct_name, struct_number, first_fault}
use Rattle.bl_format.specs.Nodes.{File, Accepted, payload}
use Rattle.bl_format.specs.Graph.{Node, file_views, node_of, graph}
use Rattle.bl_format.proofs.HeaderFacts.{header_facts}
use Rattle.bl_format.proofs.CatalogueFits.{catalogue_of-PartsFit}
use Rattle.bl_format.proofs.MemberPasses.{first_fault-none}
use Rattle.bl_selection.specs.Selection.{no_head}
use Rattle.bl_selection.specs.Written.{written_form}
use Rattle.bl_selection.specs.GraphFits.{node_payload}
use Rattle.bl_selection.specs.Committed.{Stands, IsRebuilt}
use Rattle.bl_selection.proofs.CellViews.{index_under-some}
use Rattle.bl_selection.proofs.RebuiltStands.{NodeStands, nodes_stand, RebuiltFits, rebuilt_graph-stands}
use Rattle.bl_selection.proofs.OwnFormNames.{HaveOwnIndex}
use Rattle.bl_selection.proofs.OwnFormGraph.{place_bytes, place_short, accepted-CanBeRead, accepted-HaveOwnIndex, rebuilt_graph-own}
use Rattle.bl_selection.proofs.OwnFormLengths.{node_short}

-- ---- what is written keeps within its lengths

-- the payload of a node, as it is written, is short enough
abbrev IsShort : File → Node → Type 0
IsShort f y = IsCount (length (node_payload f.header f.catalogue y))

all_short : (f : File) → first_fault f.catalogue f.header.width ≡ None → All (λ x. x < 256) f.bytes → All (NodeStands f) f.nodes → HaveOwnIndex f → All (IsShort f) (graph f)
unfolding graph
all_short f no_fault bytes stand own =
    let node : ℕ × Head → Node = λ p. node_of f (file_views f) p.0 p.1 in
    All-map (IsShort f) node (enumerate_from 0 f.nodes)
    (λ k d lt.
    let below : k < length f.nodes = omega (arith, lt, length-enumerate_from 0 f.nodes) in
    let x : Head = get_or f.nodes k no_head in
    let named : x.index ≢ 0 → struct_number f.catalogue (struct_name f.catalogue x.index) ≡ x.index = λ some. sym (index_under-some f.catalogue f.catalogue x.index some) ∙ own k in
    let short : IsShort f (node (0 + k, x)) = node_short f (file_views f) (0 + k) x no_fault bytes (stand k no_head below) named in
    subst (λ (p : ℕ × Head). IsShort f (node p)) (sym (get_or-enumerate_from 0 f.nodes k (0, no_head) below) ∙ sym (get_or_default (enumerate_from 0 f.nodes) k d (0, no_head) lt)) short)

-- the catalogue of an accepted file is written in few enough bytes
catalogue_short : (b : List ℕ) (f : File) → All (λ x. x < 256) b → Accepted b f → IsCount (length (catalogue_written f.header.order f.catalogue))
catalogue_short b f bytes accepted =
    let fits = catalogue_of-PartsFit f.header.order (payload f.header b accepted.reads.place) f.catalogue (place_bytes b f accepted bytes) accepted.reads.catalogue in
    let short = fits.short in
    omega (arith, short, place_short b f accepted)

-- what is rebuilt under a file's own header and catalogue keeps within all lengths
pub rebuilt_fits-own : (b : List ℕ) (f : File) → All (λ x. x < 256) b → Accepted b f → length f.nodes ≤ most_blocks → RebuiltFits f f.header f.catalogue
rebuilt_fits-own b f bytes accepted few =
    let facts = header_facts b f.header accepted.reads.reads.header in
    let own : All (λ x. x < 256) f.bytes = subst (All (λ x. x < 256)) (sym accepted.bytes) bytes in
    let no_fault : first_fault f.catalogue f.header.width ≡ None = first_fault-none f.catalogue f.header.width accepted.no_layout_fault in
    record {
      few = few;
      version = (facts.oldest, facts.newest);
      layout = record { can_be_read = accepted-CanBeRead b f bytes accepted; no_fault = accepted.no_layout_fault };
      catalogue = catalogue_short b f bytes accepted;
      short = subst (All (IsShort f)) (sym (rebuilt_graph-own b f bytes accepted))
          (all_short f no_fault own (nodes_stand b f accepted) (accepted-HaveOwnIndex b f bytes accepted));
    }

-- ---- the laws

-- the graph of an accepted file, written under the file's own header and catalogue, stands as what is rebuilt of it
pub own_form-stands : (b : List ℕ) (f : File) → All (λ x. x < 256) b → Accepted b f → length f.nodes ≤ most_blocks
    → IsRebuilt f f.header f.catalogue (written_form f.header f.catalogue (graph f))
own_form-stands b f bytes accepted few =
    subst (λ (nodes : List Node). IsRebuilt f f.header f.catalogue (written_form f.header f.catalogue nodes)) (rebuilt_graph-own b f bytes accepted)
    (rebuilt_graph-stands b f f.header f.catalogue bytes accepted (rebuilt_fits-own b f bytes accepted few))

-- what stands, written again under its own header and catalogue, is the same bytes
pub own_form-again : (new : List ℕ) (h : Header) (c : Catalogue) (nodes : List Node) (stands : Stands new h c nodes)
    → written_form stands.file.header stands.file.catalogue (graph stands.file) ≡ new
own_form-again new h c nodes stands = (λ i. written_form (stands.header i) (stands.catalogue i) (stands.graph_is i)) ∙ sym stands.written
