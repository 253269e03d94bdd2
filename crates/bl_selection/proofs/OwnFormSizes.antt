-- All nodes of an accepted file, written in the file's own form, pass no limit of an output, where the file passes none of
-- an input: no payload gets longer, and nor does the catalogue.
use Rattle.std.proofs.Common.{◌≡◌, ℕ, suc, ◌+◌, ◌*◌, ◌<◌, ◌≤◌, Bool, true, false, cond, not, All, List, [], ◌∷◌, length, get_or, drop, Some, None, refl, sym, ap, subst, ◌∙◌, arith}
use Rattle.std.specs.Prelude.{◌==◌, nat_lt, filter, option_map}
use Rattle.std.specs.List.{find, sum_by}
use Rattle.std.specs.Option.{option_or}
use Rattle.std.proofs.Math.Nat.{div-mul-le_self}
use Rattle.std.proofs.lemmas.Bool.{eqb-false, le-ltb}
use Rattle.std.proofs.lemmas.List.{get_or_default, length-take}
use Rattle.std.proofs.lemmas.List.Filters.{sum_by-filter_both}
use Rattle.std.proofs.lemmas.List.Sums.{sum_by-cons, sum-map}
use Rattle.bl_num.specs.declared.number.Width.{Width}
use Rattle.bl_num.specs.declared.number.Width.TheVariants.{Four, Eight}
use Rattle.bl_num.specs.Numbers.{pointer_bytes}
use Rattle.bl_format.specs.declared.file.Header.{Header}
use Rattle.bl_format.specs.declared.file.Head.{Head}
use Rattle.bl_format.specs.declared.raw.RawKind.{RawKind}
use Rattle.bl_format.specs.declared.raw.RawKind.TheVariants as raw
use Rattle.bl_format.specs.Limits.{most_input_bytes, most_output_nodes, longest_payload, longest_output}
use Rattle.bl_format.specs.Blocks.{header_size, head_size, AreBlocks}
use Rattle.bl_format.specs.Schema.{catalogue_written}
use Rattle.bl_format.specs.Layout.{struct_length}
use Rattle.bl_format.specs.Nodes.{File, Accepted, payload, is_catalogue, nodes_in}
use Rattle.bl_format.specs.Graph.{raw_length}
use Rattle.bl_format.proofs.BlocksOf.{end_inside}
use Rattle.bl_format.proofs.CatalogueFits.{catalogue_of-PartsFit}
use Rattle.bl_selection.specs.declared.draft.Draft.{Draft}
use Rattle.bl_selection.specs.declared.draft.Entry.{Entry}
use Rattle.bl_selection.specs.Selection.{no_head, index_under, whole_selection}
use Rattle.bl_selection.specs.EntryKinds.{draft_kinds}
use Rattle.bl_selection.specs.Carried.{carried_length}
use Rattle.bl_selection.specs.OutputSizes.{ManyNodes, LongPayload, LongOutput, entry_length, payload_lengths, output_length, output_fault}
use Rattle.bl_selection.proofs.NothingClashes.{find-none}
use Rattle.bl_selection.proofs.FormLength.{payload_length, length-payload_lengths}
use Rattle.bl_selection.proofs.OwnFormGraph.{place_bytes, accepted-HaveOwnIndex}
use Rattle.bl_selection.proofs.OwnFormNames.{HaveOwnIndex, own_selection, whole_selection-own, length-entries, entry_at-own}
use Rattle.bl_selection.proofs.RebuiltStands.{NodeStands, nodes_stand, payload_len, holds_elements}
use Rattle.bl_selection.proofs.SourcesFit.{HoldsElements}

-- the bytes of a block
abbrev block_size : Header → Head → ℕ
block_size h x = head_size h + x.len

-- blocks that stand one behind another reach from their start to their end
blocks_reach : (h : Header) (b : List ℕ) (at end : ℕ) (xs : List Head) → AreBlocks h b at xs end → at + sum_by (block_size h) xs ≡ end
blocks_reach h b at end [] stand = omega (arith, stand)
blocks_reach h b at end (x ∷ xs) stand =
    let later = blocks_reach h b (at + head_size h + x.len) end xs stand.1 in
    omega (arith, later, sum_by-cons (block_size h) x xs)

-- payloads that are no longer than those of some nodes are together no longer
sums_within : (h : Header) (ns : List ℕ) (xs : List Head) → length ns ≡ length xs
    → ((e : ℕ) → e < length xs → get_or ns e 0 ≤ (get_or xs e no_head).len)
    → sum_by (λ n. head_size h + n) ns ≤ sum_by (block_size h) xs
sums_within h [] [] long each = omega arith
sums_within h [] (x ∷ xs) long each = absurd (omega (arith, long))
sums_within h (n ∷ ns) [] long each = absurd (omega (arith, long))
sums_within h (n ∷ ns) (x ∷ xs) long each =
    let first : n ≤ x.len = each 0 (omega arith) in
    let later = sums_within h ns xs (omega (arith, long)) (λ e lt. each (suc e) (omega (arith, lt))) in
    omega (arith, first, later, sum_by-cons (λ k. head_size h + k) n ns, sum_by-cons (block_size h) x xs)

-- ---- one node

raw_own : (kind : RawKind) (len : ℕ) (w : Width) → raw_length kind len w w ≤ len
raw_own raw.Bytes len w = omega arith
raw_own (raw.Numbers n) len w = omega arith
raw_own raw.Pointers len w = div-mul-le_self len (pointer_bytes w)
raw_own raw.Pair len w = omega arith

-- a node in its own form is no longer than it was
node_own : (f : File) (x : Head) → NodeStands f x → index_under f.catalogue f.catalogue x.index ≡ x.index
    → (kind : RawKind) → carried_length f f.header f.catalogue kind x ≤ x.len
node_own f x stands index kind = by_index (x.index == 0) refl
  where
    by_index : (b : Bool) → (x.index == 0) ≡ b
        → cond b (raw_length kind x.len f.header.width f.header.width) (x.count * struct_length f.catalogue (index_under f.catalogue f.catalogue x.index)) ≤ x.len
    by_index true is = raw_own kind x.len f.header.width
    by_index false is =
        let holds : HoldsElements f x = holds_elements f x stands (eqb-false x.index 0 is) in
        subst (λ (s : ℕ). x.count * struct_length f.catalogue s ≤ x.len) (sym index) (omega (arith, holds, payload_len f x stands))

-- ---- all nodes

head_short : (h : Header) → head_size h ≤ 24
head_short h = by h.width
  where
    by : (w : Width) → 16 + pointer_bytes w ≤ 24
    by Four = omega arith
    by Eight = omega arith

module _ (b : List ℕ) (f : File) (bytes : All (λ x. x < 256) b) (accepted : Accepted b f) where
  own : HaveOwnIndex f
  own = accepted-HaveOwnIndex b f bytes accepted

  abbrev h : Header
  h = f.header

  abbrev d : Draft
  d = own_selection f

  abbrev payloads : List ℕ
  payloads = payload_lengths (f ∷ []) d

  many : length payloads ≡ length f.nodes
  many = length-payload_lengths (f ∷ []) d ∙ length-entries f own

  payload_own : (e : ℕ) → e < length f.nodes → get_or payloads e 0 ≤ (get_or f.nodes e no_head).len
  payload_own e lt =
      let x : Head = get_or f.nodes e no_head in
      let kind : RawKind = get_or (draft_kinds (f ∷ []) d) e raw.Bytes in
      let is : get_or payloads e 0 ≡ carried_length f h f.catalogue kind x =
      payload_length (f ∷ []) d e (omega (arith, lt, length-entries f own))
      ∙ ap (λ (y : Entry). entry_length (f ∷ []) d kind y) (entry_at-own f own e lt) in
      omega (arith, is, node_own f x (nodes_stand b f accepted e no_head lt) (own e) kind)

  payloads_short : All (λ n. nat_lt longest_payload n ≡ false) payloads
  payloads_short e other lt =
      let below : e < length f.nodes = omega (arith, lt, many) in
      let stands : NodeStands f (get_or f.nodes e no_head) = nodes_stand b f accepted e no_head below in
      let len = stands.block.len in
      let same : get_or payloads e other ≡ get_or payloads e 0 = get_or_default payloads e other 0 lt in
      le-ltb longest_payload (get_or payloads e other) (omega (arith, same, payload_own e below, len))

  -- all bytes are no more than those of the file and a head
  all_short : output_length h f.catalogue payloads ≤ length b + 20
  unfolding output_length
  all_short =
      let reads = accepted.reads.reads in
      let place : Head = accepted.reads.place in
      let p : List ℕ = payload h b place in
      let fits = catalogue_of-PartsFit h.order p f.catalogue (place_bytes b f accepted bytes) accepted.reads.catalogue in
      let catalogue : length (catalogue_written h.order f.catalogue) ≤ length p = fits.short in
      let nodes : sum_by (block_size h) (nodes_in accepted.blocks) ≡ sum_by (block_size h) f.nodes = ap (sum_by (block_size h)) (sym accepted.nodes) in
      let one : sum_by (block_size h) (filter is_catalogue accepted.blocks) ≡ block_size h place = ap (sum_by (block_size h)) accepted.reads.one_catalogue ∙ sum_by-cons (block_size h) place [] ∙ omega arith in
      let parts = sum_by-filter_both is_catalogue (λ (x : Head). not (is_catalogue x)) (λ x. refl) (block_size h) accepted.blocks in
      let reach = blocks_reach h b (header_size h) reads.end accepted.blocks reads.blocks_stand in
      let inside = end_inside h b reads.end reads.ends in
      let within = sums_within h payloads f.nodes many payload_own in
      omega (arith, catalogue, nodes, one, parts, reach, inside, within, length-take place.len (drop (place.at + head_size h) b), sum-map (λ n. head_size h + n) payloads, head_short h)

  own_fault : length f.nodes ≤ most_output_nodes → length b ≤ most_input_bytes → output_fault (f ∷ []) d ≡ None
  unfolding output_fault
  own_fault few small =
      let total : ℕ = output_length h f.catalogue payloads in
      let nodes : nat_lt most_output_nodes (length d.entries) ≡ false = le-ltb most_output_nodes (length d.entries) (omega (arith, few, length-entries f own)) in
      let long : find (λ n. nat_lt longest_payload n) payloads ≡ None = find-none (λ n. nat_lt longest_payload n) payloads payloads_short in
      let bytes_fit : nat_lt longest_output total ≡ false = le-ltb longest_output total (omega (arith, all_short, small)) in
      λ i. option_or (cond (nodes i) (Some (ManyNodes (length d.entries))) None)
      (option_or (option_map LongPayload (long i)) (cond (bytes_fit i) (Some (LongOutput total)) None))

-- ---- the law

-- what is written of an accepted file in its own form passes no limit, where it has few enough nodes and bytes
pub output_fault-own : (b : List ℕ) (f : File) → All (λ x. x < 256) b → Accepted b f → length f.nodes ≤ most_output_nodes → length b ≤ most_input_bytes
    → output_fault (f ∷ []) (whole_selection f f.header f.catalogue) ≡ None
output_fault-own b f bytes accepted few small =
    ap (λ (d : Draft). output_fault (f ∷ []) d) (whole_selection-own f (accepted-HaveOwnIndex b f bytes accepted))
    ∙ own_fault b f bytes accepted few small
