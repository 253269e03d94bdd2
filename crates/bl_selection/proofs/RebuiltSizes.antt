-- What is rebuilt of an accepted file stands where its output passes no limit: then the catalogue and each payload are short
-- enough.
use Rattle.std.proofs.Common.{◌≡◌, ℕ, ◌<◌, ◌≤◌, Bool, true, false, cond, All, List, [], ◌∷◌, length, get_or, Option, Some, None, refl, sym, ap, subst, ◌∙◌, arith}
use Rattle.std.specs.Prelude.{nat_lt, option_map}
use Rattle.std.specs.List.{find}
use Rattle.std.specs.Option.{option_or}
use Rattle.std.proofs.lemmas.Bool.{ltb-false}
use Rattle.std.proofs.lemmas.List.{get_or_default, length-append}
use Rattle.std.proofs.lemmas.List.Elements.{All-nil, All-cons}
use Rattle.bl_format.specs.declared.file.Header.{Header}
use Rattle.bl_format.specs.declared.file.Head.{Head}
use Rattle.bl_format.specs.declared.catalogue.Catalogue.{Catalogue}
use Rattle.bl_format.specs.Limits.{most_blocks, most_output_nodes, longest_payload, longest_output}
use Rattle.bl_format.specs.Blocks.{IsCount, head_size, head_written, code_meant, first_version, last_version}
use Rattle.bl_format.specs.Layout.{HasLayout, first_fault}
use Rattle.bl_format.specs.Nodes.{File, Accepted}
use Rattle.bl_format.specs.Graph.{Node, Struct, Raw}
use Rattle.bl_format.proofs.MemberPasses.{first_fault-none}
use Rattle.bl_selection.specs.declared.draft.Draft.{Draft}
use Rattle.bl_selection.specs.declared.draft.Entry.{Entry}
use Rattle.bl_selection.specs.declared.draft.Entry.TheVariants as entries
use Rattle.bl_selection.specs.Selection.{entry_code, entry_at, entry_node, selection_views, selection_graph, whole_selection, rebuilt_graph}
use Rattle.bl_selection.specs.Written.{address_of, block_written, node_written, written_form}
use Rattle.bl_selection.specs.GraphFits.{node_code, node_index, node_count, node_payload, no_node}
use Rattle.bl_selection.specs.Committed.{IsRebuilt}
use Rattle.bl_selection.specs.Carried.{draft_block}
use Rattle.bl_selection.specs.OutputSizes.{ManyNodes, LongPayload, LongOutput, payload_lengths, output_length, size_fault, output_fault}
use Rattle.bl_selection.proofs.CarriedForm.{draft_block-node}
use Rattle.bl_selection.proofs.CarriedLengths.{length-head_written}
use Rattle.bl_selection.proofs.DraftFacts.{nodes-within, whole-sources}
use Rattle.bl_selection.proofs.EntriesAsNodes.{entry_node-code, length-selection_graph, node_of_entry}
use Rattle.bl_selection.proofs.FormLength.{IsWholeEntry, all-sources, entries-whole, length-payload_lengths, payload_length, length-draft_block}
use Rattle.bl_selection.proofs.RebuiltStands.{RebuiltFits, rebuilt_graph-stands}
use Rattle.bl_selection.proofs.WellFormed.{whole_selection-well_formed}

-- ---- what passes no limit

-- so many nodes, payloads and bytes pass no limit of an output
pub record WithinLimits (count : ℕ) (sizes : List ℕ) (total : ℕ) : Type 0 where
  pub nodes : count ≤ most_output_nodes
  pub payloads : All (λ n. n ≤ longest_payload) sizes
  pub bytes : total ≤ longest_output

no_fault_of : (many long : Bool) (too_long : Option ℕ) (nodes bytes : ℕ)
    → option_or (cond many (Some (ManyNodes nodes)) None) (option_or (option_map LongPayload too_long) (cond long (Some (LongOutput bytes)) None)) ≡ None
    → (many ≡ false) × (too_long ≡ None) × (long ≡ false)
no_fault_of true long too_long nodes bytes is = absurd (cc)
no_fault_of false long (Some n) nodes bytes is = absurd (cc)
no_fault_of false true None nodes bytes is = absurd (cc)
no_fault_of false false None nodes bytes is = (refl, refl, refl)

none_passes : (most : ℕ) (ns : List ℕ) → find (λ n. nat_lt most n) ns ≡ None → All (λ n. n ≤ most) ns
none_passes most [] is = All-nil (λ n. n ≤ most)
none_passes most (n ∷ ns) is = by_first (nat_lt most n) refl is (none_passes most ns)
  where
    by_first : (b : Bool) → nat_lt most n ≡ b → cond b (Some n) (find (λ k. nat_lt most k) ns) ≡ None
        → (find (λ k. nat_lt most k) ns ≡ None → All (λ k. k ≤ most) ns) → All (λ k. k ≤ most) (n ∷ ns)
    by_first true own is later = absurd (cc)
    by_first false own is later = All-cons (λ k. k ≤ most) n ns (ltb-false most n own) (later is)

-- where no fault is told, no limit is passed
pub size_fault-none : (nodes : ℕ) (payloads : List ℕ) (bytes : ℕ) → size_fault nodes payloads bytes ≡ None → WithinLimits nodes payloads bytes
size_fault-none nodes payloads bytes is =
    let parts = no_fault_of (nat_lt most_output_nodes nodes) (nat_lt longest_output bytes) (find (λ n. nat_lt longest_payload n) payloads) nodes bytes is in
    record {
      nodes = ltb-false most_output_nodes nodes parts.0;
      payloads = none_passes longest_payload payloads parts.1;
      bytes = ltb-false longest_output bytes parts.2;
    }

-- ---- the payload of each node

-- a node is written as a head and its payload
node_written-block : (h : Header) (c : Catalogue) (k : ℕ) (y : Node)
    → node_written h c k y ≡ block_written h (node_code y) (address_of (Some k)) (node_index c y) (node_count y) (node_payload h c y)
unfolding node_written
node_written-block h c k (Struct code name g es) = refl
node_written-block h c k (Raw code g n kind contents) = refl

-- the code of an entry can be written
abbrev HasCode : List File → Entry → Type 0
HasCode files x = (length (entry_code files x) ≡ 4) × (code_meant (entry_code files x) ≡ entry_code files x)

whole-code : (files : List File) (x : Entry) → IsWholeEntry files x → HasCode files x
whole-code files (entries.Source i n) whole = (whole.1.code_len, whole.1.code)
whole-code files (entries.Made m) whole = absurd whole
whole-code files (entries.Raw code bytes) whole = absurd whole

module _ (files : List File) (d : Draft) (none : d.overrides ≡ []) (new : first_fault d.catalogue d.header.width ≡ None) (whole : All (IsWholeEntry files) d.entries) where
  abbrev h : Header
  h = d.header

  -- the node of an entry
  abbrev node : ℕ → Node
  node e = entry_node files d (selection_views files d) e (entry_at d e)

  -- its payload is as long as is told
  pub length-node_payload : (e : ℕ) → e < length d.entries → length (node_payload h d.catalogue (node e)) ≡ get_or (payload_lengths files d) e 0
  length-node_payload e lt =
      let y : Node = node e in
      let bytes : List ℕ = node_payload h d.catalogue y in
      let head : Head = record { code = node_code y; len = length bytes; address = address_of (Some e); index = node_index d.catalogue y; count = node_count y; at = 0 } in
      let same : node_code y ≡ entry_code files (entry_at d e) = entry_node-code files d (selection_views files d) e (entry_at d e) in
      let code : HasCode files (entry_at d e) = whole-code files (entry_at d e) (whole e (entries.Raw [] []) lt) in
      let block : length (draft_block files d e) ≡ length (block_written h (node_code y) (address_of (Some e)) (node_index d.catalogue y) (node_count y) bytes) =
      ap length (draft_block-node files d e none (all-sources files d.entries whole) lt ∙ node_written-block h d.catalogue e y) in
      let head_long : length (head_written h head) ≡ head_size h = length-head_written h head (ap length same ∙ code.0) (ap code_meant same ∙ code.1 ∙ sym same) in
      omega (arith, block, head_long, length-append (head_written h head) bytes, length-draft_block files d new whole e lt, payload_length files d e lt)

  pub payloads-short : All (λ n. n ≤ longest_payload) (payload_lengths files d) → All (λ y. IsCount (length (node_payload h d.catalogue y))) (selection_graph files d)
  payloads-short short e other lt =
      let nodes : List Node = selection_graph files d in
      let below : e < length d.entries = omega (arith, lt, length-selection_graph files d) in
      let is : get_or nodes e other ≡ node e = get_or_default nodes e other no_node lt ∙ node_of_entry files d e below in
      let within = short e 0 (omega (arith, below, length-payload_lengths files d)) in
      subst (λ (y : Node). IsCount (length (node_payload h d.catalogue y))) (sym is) (omega (arith, within, length-node_payload e below))

-- ---- the law

-- what is rebuilt of an accepted file fits a header and a catalogue, where its output passes no limit
pub rebuilt_fits-limits : (b : List ℕ) (f : File) (h : Header) (c : Catalogue) → Accepted b f → length f.nodes ≤ most_blocks
    → (first_version ≤ h.version) × (h.version ≤ last_version) → HasLayout c h.width → output_fault (f ∷ []) (whole_selection f h c) ≡ None
    → RebuiltFits f h c
unfolding output_fault output_length rebuilt_graph
rebuilt_fits-limits b f h c accepted few version layout none =
    let d : Draft = whole_selection f h c in
    let sizes : List ℕ = payload_lengths (f ∷ []) d in
    let within : WithinLimits (length d.entries) sizes (output_length h c sizes) = size_fault-none (length d.entries) sizes (output_length h c sizes) none in
    let formed = whole_selection-well_formed f h c (omega (arith, few)) in
    let whole : All (IsWholeEntry (f ∷ [])) d.entries = entries-whole b f d.entries accepted (nodes-within f d formed (whole-sources f h c)) in
    let bytes = within.bytes in
    record {
      few = few;
      version = version;
      layout = layout;
      catalogue = omega (arith, bytes);
      short = payloads-short (f ∷ []) d refl (first_fault-none c h.width layout.no_fault) whole within.payloads;
    }

-- so its written form stands
pub rebuilt_graph-within_limits : (b : List ℕ) (f : File) (h : Header) (c : Catalogue) → All (λ x. x < 256) b → Accepted b f → length f.nodes ≤ most_blocks
    → (first_version ≤ h.version) × (h.version ≤ last_version) → HasLayout c h.width → output_fault (f ∷ []) (whole_selection f h c) ≡ None
    → IsRebuilt f h c (written_form h c (rebuilt_graph f h c))
rebuilt_graph-within_limits b f h c bytes accepted few version layout none =
    rebuilt_graph-stands b f h c bytes accepted (rebuilt_fits-limits b f h c accepted few version layout none)
