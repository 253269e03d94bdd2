-- The written form of a graph whose nodes fit reads as its nodes' heads, one behind another, and its catalogue's.
use Rattle.std.proofs.Common.{◌≡◌, ℕ, ◌+◌, ◌-◌, ◌≤◌, ◌<◌, ◌^◌, All, List, [], ◌∷◌, ◌++◌, length, drop, Some, refl, sym, subst, append_assoc, append-nil, arith}
use Rattle.std.specs.Prelude.{flat_map, codes}
use Rattle.std.specs.List.{enumerate_from}
use Rattle.std.proofs.lemmas.List.{take_at, drop_at, length-append}
use Rattle.std.proofs.lemmas.List.Elements.{All-head, All-tail}
use Rattle.bl_num.specs.declared.number.Width.{Width}
use Rattle.bl_num.specs.declared.number.Width.TheVariants.{Four, Eight}
use Rattle.bl_num.specs.Numbers.{pointer_bytes}
use Rattle.bl_format.specs.declared.file.Header.{Header}
use Rattle.bl_format.specs.declared.file.Head.{Head}
use Rattle.bl_format.specs.declared.catalogue.Catalogue.{Catalogue}
use Rattle.bl_format.specs.Words.{zeros}
use Rattle.bl_format.specs.Blocks.{header_size, head_size, first_version, last_version, IsCount, IsSpelling, AreSpellings, Reads}
use Rattle.bl_format.specs.Schema.{catalogue_written}
use Rattle.bl_format.specs.Graph.{Node, Struct, Raw}
use Rattle.bl_format.proofs.FileBack.{length-spelling, Reads-IsFile}
use Rattle.bl_selection.specs.Written.{address_of, block_written, node_written, catalogue_block, written_form}
use Rattle.bl_selection.specs.GraphFits.{node_code, node_index, node_count, node_payload, NodeFits}
use Rattle.bl_selection.proofs.BlocksBack.{block_head, HeadCanStand, spells_block}

-- the head as which node k reads at a place
abbrev pub node_head : Header → Catalogue → ℕ → Node → ℕ → Head
node_head h c k x at =
    block_head (node_code x) (length (node_payload h c x)) (address_of (Some k)) (node_index c x) (node_count x) at

-- the place behind a node that stands at a place
abbrev pub behind_node : Header → Catalogue → Node → ℕ → ℕ
behind_node h c x at = at + (head_size h + length (node_payload h c x))

-- the heads of some nodes, the first of which is node k and stands at a place
abbrev pub node_heads : Header → Catalogue → ℕ → ℕ → List Node → List Head
node_heads h c k at [] = []
node_heads h c k at (x ∷ xs) = node_head h c k x at ∷ node_heads h c (k + 1) (behind_node h c x at) xs

-- the text of some nodes, the first of which is node k
abbrev pub nodes_written : Header → Catalogue → ℕ → List Node → List ℕ
nodes_written h c k xs = flat_map (λ p. node_written h c p.0 p.1) (enumerate_from k xs)

-- the head of the catalogue at a place
abbrev pub catalogue_head : Header → Catalogue → ℕ → Head
catalogue_head h c at = block_head (codes "DNA1") (length (catalogue_written h.order c)) 0 0 1 at

-- some nodes of a graph fit, the first of which is node k
abbrev pub AllFit : Header → Catalogue → List Node → ℕ → List Node → Type 0
AllFit h c nodes k xs = All (λ p. NodeFits h c nodes p.0 p.1) (enumerate_from k xs)

-- a node that fits has a head that can be written
pub node_can_stand : (h : Header) (c : Catalogue) (nodes : List Node) (k : ℕ) (x : Node) (at : ℕ)
    → NodeFits h c nodes k x → HeadCanStand h (node_head h c k x at)
node_can_stand h c nodes k x at fits = record {
  code_len = fits.code_len;
  code = fits.code;
  no_end = fits.no_end;
  len = fits.len;
  address = fits.address;
  index = fits.index;
  count = fits.count;
}

pub node_written-block : (h : Header) (c : Catalogue) (k : ℕ) (x : Node)
    → node_written h c k x ≡ block_written h (node_code x) (address_of (Some k)) (node_index c x) (node_count x) (node_payload h c x)
unfolding node_written
node_written-block h c k (Struct code name g es) = refl
node_written-block h c k (Raw code g n kind contents) = refl

pub node_spelled : (h : Header) (c : Catalogue) (nodes : List Node) (k : ℕ) (x : Node) (at : ℕ)
    → NodeFits h c nodes k x → IsSpelling h (node_head h c k x at) (node_written h c k x)
node_spelled h c nodes k x at fits =
    subst (IsSpelling h (node_head h c k x at)) (sym (node_written-block h c k x))
    (spells_block h (node_code x) (address_of (Some k)) (node_index c x) (node_count x) (node_payload h c x) at (node_can_stand h c nodes k x at fits))

-- a node is written in its head and its payload
pub length-node_written : (h : Header) (c : Catalogue) (nodes : List Node) (k : ℕ) (x : Node)
    → NodeFits h c nodes k x → length (node_written h c k x) ≡ head_size h + length (node_payload h c x)
length-node_written h c nodes k x fits = length-spelling h (node_head h c k x 0) (node_written h c k x) (node_spelled h c nodes k x 0 fits)

zero_fits : (w : Width) → 0 < 256 ^ pointer_bytes w
zero_fits Four = omega arith
zero_fits Eight = omega arith

pub catalogue_can_stand : (h : Header) (c : Catalogue) (at : ℕ)
    → IsCount (length (catalogue_written h.order c)) → HeadCanStand h (catalogue_head h c at)
catalogue_can_stand h c at short = record {
  code_len = refl;
  code = refl;
  no_end = refl;
  len = short;
  address = zero_fits h.width;
  index = omega arith;
  count = omega arith;
}

-- a block more in front
spells_more : (h : Header) (at n : ℕ) (x : Head) (xs : List Head) (text others : List ℕ)
    → x.at ≡ at → n ≡ head_size h + x.len → IsSpelling h x text → AreSpellings h (at + n) xs others
    → AreSpellings h at (x ∷ xs) (text ++ others)
spells_more h at n x xs text others place is first rest =
    let len : length text ≡ head_size h + x.len = length-spelling h x text first in (
      place,
      subst (IsSpelling h x) (sym (take_at text others (head_size h + x.len) len)) first,
      subst (λ (m : ℕ). AreSpellings h (at + m) xs (drop (head_size h + x.len) (text ++ others))) is
          (subst (AreSpellings h (at + n) xs) (sym (drop_at text others (head_size h + x.len) len)) rest),
    )

-- nodes one after another and the catalogue behind them spell their heads
nodes_spelled : (h : Header) (c : Catalogue) (nodes : List Node) (k at : ℕ) (xs : List Node)
    → IsCount (length (catalogue_written h.order c)) → AllFit h c nodes k xs
    → AreSpellings h at (node_heads h c k at xs ++ catalogue_head h c (at + length (nodes_written h c k xs)) ∷ []) (nodes_written h c k xs ++ catalogue_block h c)
nodes_spelled h c nodes k at [] short fit =
    let bytes : List ℕ = catalogue_written h.order c in
    let place : at + length (nodes_written h c k []) ≡ at = omega arith in
    subst (AreSpellings h at (catalogue_head h c (at + length (nodes_written h c k [])) ∷ [])) (append-nil (catalogue_block h c))
    (spells_more h at (head_size h + length bytes) (catalogue_head h c (at + length (nodes_written h c k []))) [] (catalogue_block h c) [] place refl
    (spells_block h (codes "DNA1") 0 0 1 bytes (at + length (nodes_written h c k [])) (catalogue_can_stand h c (at + length (nodes_written h c k [])) short)) refl)
nodes_spelled h c nodes k at (x ∷ xs) short fit =
    let own : NodeFits h c nodes k x = All-head (λ p. NodeFits h c nodes p.0 p.1) (k, x) (enumerate_from (k + 1) xs) fit in
    let next : ℕ = behind_node h c x at in
    let one : List ℕ = node_written h c k x in
    let others : List ℕ = nodes_written h c (k + 1) xs in
    let later = nodes_spelled h c nodes (k + 1) next xs short (All-tail (λ p. NodeFits h c nodes p.0 p.1) (k, x) (enumerate_from (k + 1) xs) fit) in
    let place : next + length others ≡ at + length (one ++ others) = omega (arith, length-append one others, length-node_written h c nodes k x own) in
    subst (λ (n : ℕ). AreSpellings h at (node_heads h c k at (x ∷ xs) ++ catalogue_head h c n ∷ []) (nodes_written h c k (x ∷ xs) ++ catalogue_block h c)) place
    (subst (AreSpellings h at (node_heads h c k at (x ∷ xs) ++ catalogue_head h c (next + length others) ∷ [])) (simp append_assoc)
    (spells_more h at (head_size h + length (node_payload h c x)) (node_head h c k x at) (node_heads h c (k + 1) next xs ++ catalogue_head h c (next + length others) ∷ []) one (others ++ catalogue_block h c) refl refl (node_spelled h c nodes k x at own) later))

-- ---- the law

-- the blocks as which the written form of a graph reads
abbrev pub form_blocks : Header → Catalogue → List Node → List Head
form_blocks h c nodes =
    node_heads h c 0 (header_size h) nodes ++ catalogue_head h c (header_size h + length (nodes_written h c 0 nodes)) ∷ []

-- where the nodes of a graph fit, its written form reads as their heads and the catalogue's
pub written_form-reads : (h : Header) (c : Catalogue) (nodes : List Node)
    → first_version ≤ h.version → h.version ≤ last_version → IsCount (length (catalogue_written h.order c)) → AllFit h c nodes 0 nodes
    → Reads (written_form h c nodes) h (form_blocks h c nodes)
unfolding written_form
written_form-reads h c nodes first last short fit =
    Reads-IsFile (written_form h c nodes) h (form_blocks h c nodes) (record {
      version = (first, last);
      spellings = nodes_written h c 0 nodes ++ catalogue_block h c;
      rest = zeros (head_size h - 4);
      blocks_spelled = nodes_spelled h c nodes 0 (header_size h) nodes short fit;
      text = simp append_assoc;
    })
