-- How long the written form of a draft of sources' nodes is: what the kinds of the entries and the heads of their nodes give.
use Rattle.std.proofs.Common.{◌≡◌, ℕ, ◌+◌, ◌-◌, ◌<◌, ◌≤◌, Bool, cond, All, List, [], ◌∷◌, ◌++◌, length, get_or, None, refl, sym, ap, subst, ◌∙◌, arith}
use Rattle.std.specs.Prelude.{◌==◌, map, flat_map, sum, zip, codes}
use Rattle.std.specs.List.{enumerate_from}
use Rattle.std.proofs.lemmas.List.{ext_get_or, get_or-map, length-append, length-map, length-replicate}
use Rattle.std.proofs.lemmas.List.Concat.{length-flat_map}
use Rattle.std.proofs.lemmas.List.FromFn.{length-enumerate_from}
use Rattle.std.proofs.lemmas.List.Elements.{All-weaker}
use Rattle.std.proofs.lemmas.List.Sums.{sum-map}
use Rattle.std.proofs.lemmas.Slice.Zip.{get_or-zip, length-zip}
use Rattle.bl_num.specs.declared.number.Width.{Width}
use Rattle.bl_num.specs.declared.number.Width.TheVariants.{Four, Eight}
use Rattle.bl_num.specs.Numbers.{pointer_bytes}
use Rattle.bl_format.specs.declared.file.Header.{Header}
use Rattle.bl_format.specs.declared.file.Head.{Head}
use Rattle.bl_format.specs.declared.catalogue.Catalogue.{Catalogue}
use Rattle.bl_format.specs.declared.raw.RawKind.{RawKind}
use Rattle.bl_format.specs.declared.raw.RawKind.TheVariants as raw
use Rattle.bl_format.specs.Words.{numbers_below, zeros}
use Rattle.bl_format.specs.Blocks.{head_size, header_written, head_written}
use Rattle.bl_format.specs.Schema.{catalogue_written}
use Rattle.bl_format.specs.Layout.{first_fault}
use Rattle.bl_format.specs.Nodes.{File, Accepted, raw_kind}
use Rattle.bl_format.proofs.HeaderBack.{length-header_written}
use Rattle.bl_format.proofs.MemberPasses.{first_fault-none}
use Rattle.bl_format.proofs.NumbersBelow.{get_or-by}
use Rattle.bl_selection.specs.declared.draft.Draft.{Draft}
use Rattle.bl_selection.specs.declared.draft.Entry.{Entry}
use Rattle.bl_selection.specs.declared.draft.Entry.TheVariants as entries
use Rattle.bl_selection.specs.Selection.{no_head, file_at, node_at, entry_at, entry_names, selection_views, selection_graph}
use Rattle.bl_selection.specs.Written.{catalogue_block, written_form}
use Rattle.bl_selection.specs.EntryKinds.{entry_kind, draft_kinds}
use Rattle.bl_selection.specs.Carried.{IsSourceNode, entry_block, draft_block}
use Rattle.bl_selection.specs.OutputSizes.{entry_length, payload_lengths, output_length}
use Rattle.bl_selection.proofs.CarriedForm.{draft_kind, written_form-carried}
use Rattle.bl_selection.proofs.CarriedLengths.{IsWholeNode, node-whole, length-head_written, length-carried_block}
use Rattle.bl_selection.proofs.DraftFacts.{IsNode0}
use Rattle.bl_selection.proofs.EntriesAsNodes.{length-numbers_below}
use Rattle.bl_selection.proofs.RawKinds.{HasRoomFor, raw_kind-room}
use Rattle.bl_selection.proofs.RebuiltStands.{nodes_stand}

-- ---- the lists of kinds and lengths

module _ (files : List File) (d : Draft) where
  length-draft_kinds : length (draft_kinds files d) ≡ length d.entries
  unfolding draft_kinds
  length-draft_kinds = length-map (enumerate_from 0 d.entries) _ ∙ length-enumerate_from 0 d.entries

  length-pairs : length (zip (draft_kinds files d) d.entries) ≡ length d.entries
  length-pairs = length-zip (draft_kinds files d) d.entries ∙ omega (arith, length-draft_kinds)

  -- each entry has a length
  pub length-payload_lengths : length (payload_lengths files d) ≡ length d.entries
  unfolding payload_lengths
  length-payload_lengths = length-map (zip (draft_kinds files d) d.entries) _ ∙ length-pairs

  -- the length of each payload stands at its place
  pub payload_length : (e : ℕ) → e < length d.entries
      → get_or (payload_lengths files d) e 0 ≡ entry_length files d (get_or (draft_kinds files d) e raw.Bytes) (entry_at d e)
  unfolding payload_lengths
  payload_length e lt =
      let none : RawKind × Entry = (raw.Bytes, entries.Raw [] []) in
      let size : RawKind × Entry → ℕ = λ p. entry_length files d p.0 p.1 in
      let many : e < length (draft_kinds files d) = omega (arith, lt, length-draft_kinds) in
      get_or-map size (zip (draft_kinds files d) d.entries) e none 0 (omega (arith, lt, length-pairs))
      ∙ ap size (get_or-zip (draft_kinds files d) d.entries e none many lt)

-- ---- one entry

-- an entry is a whole node of a source whose catalogue has no fault
abbrev pub IsWholeEntry : List File → Entry → Type 0
IsWholeEntry files (entries.Source i n) =
    (first_fault (file_at files i).catalogue (file_at files i).header.width ≡ None) × IsWholeNode (file_at files i) (node_at files i n)
IsWholeEntry files (entries.Made m) = ⊥
IsWholeEntry files (entries.Raw code bytes) = ⊥

whole-source : (files : List File) (x : Entry) → IsWholeEntry files x → IsSourceNode x
whole-source files (entries.Source i n) whole = tt
whole-source files (entries.Made m) whole = absurd whole
whole-source files (entries.Raw code bytes) whole = absurd whole

-- so all are nodes of sources
pub all-sources : (files : List File) (es : List Entry) → All (IsWholeEntry files) es → All IsSourceNode es
all-sources files es whole = All-weaker (IsWholeEntry files) IsSourceNode (whole-source files) es whole

module _ (files : List File) (d : Draft) (new : first_fault d.catalogue d.header.width ≡ None) where
  length-entry_block : (e : ℕ) (x : Entry) → IsWholeEntry files x
      → length (entry_block files d (entry_kind files (selection_views files d) e x) e x) ≡ head_size d.header + entry_length files d (entry_kind files (selection_views files d) e x) x
  length-entry_block e (entries.Source i n) whole =
      let x : Head = node_at files i n in
      let own : RawKind = raw_kind (selection_views files d) x.code x.len e in
      length-carried_block (entry_names files d e i n) (file_at files i) d.header d.catalogue x whole.0 new whole.1 e (cond (x.index == 0) own raw.Bytes)
      (λ is. subst (λ (b : Bool). HasRoomFor x.len (cond b own raw.Bytes)) (sym is) (raw_kind-room files d x.code x.len e))
  length-entry_block e (entries.Made m) whole = absurd whole
  length-entry_block e (entries.Raw code bytes) whole = absurd whole

  module _ (whole : All (IsWholeEntry files) d.entries) where
    -- the block of an entry has a head and the bytes of the entry's payload
    pub length-draft_block : (e : ℕ) → e < length d.entries
        → length (draft_block files d e) ≡ head_size d.header + entry_length files d (get_or (draft_kinds files d) e raw.Bytes) (entry_at d e)
    length-draft_block e lt =
        subst (λ (kind : RawKind). length (entry_block files d kind e (entry_at d e)) ≡ head_size d.header + entry_length files d kind (entry_at d e))
        (sym (draft_kind files d e lt)) (length-entry_block e (entry_at d e) (whole e (entries.Raw [] []) lt))

  blocks_long : All (IsWholeEntry files) d.entries
      → length (flat_map (draft_block files d) (numbers_below (length d.entries))) ≡ sum (map (λ n. head_size d.header + n) (payload_lengths files d))
  blocks_long whole =
      let n : ℕ = length d.entries in
      let own : ℕ → ℕ = λ e. length (draft_block files d e) in
      let sizes : List ℕ = payload_lengths files d in
      let many : length (map own (numbers_below n)) ≡ n = length-map (numbers_below n) own ∙ length-numbers_below n in
      let same : map own (numbers_below n) ≡ map (λ k. head_size d.header + k) sizes =
      ext_get_or 0 (map own (numbers_below n)) (map (λ k. head_size d.header + k) sizes)
      (many ∙ sym (length-map sizes _ ∙ length-payload_lengths files d))
      (λ e below.
      let lt : e < n = omega (arith, below, many) in
      get_or-by own n e 0 lt ∙ length-draft_block whole e lt ∙ ap (λ (k : ℕ). head_size d.header + k) (sym (payload_length files d e lt))
      ∙ sym (get_or-map (λ k. head_size d.header + k) sizes e 0 0 (omega (arith, lt, length-payload_lengths files d)))) in
      length-flat_map (draft_block files d) (numbers_below n) ∙ sym (sum-map own (numbers_below n)) ∙ ap sum same

-- ---- the law

at_least_four : (h : Header) → 4 ≤ head_size h
at_least_four h = by h.width
  where
    by : (w : Width) → 4 ≤ 16 + pointer_bytes w
    by Four = omega arith
    by Eight = omega arith

length-catalogue_block : (h : Header) (c : Catalogue) → length (catalogue_block h c) ≡ head_size h + length (catalogue_written h.order c)
length-catalogue_block h c =
    let written : List ℕ = catalogue_written h.order c in
    let head : Head = record { code = codes "DNA1"; len = length written; address = 0; index = 0; count = 1; at = 0 } in
    let own : length (head_written h head) ≡ head_size h = length-head_written h head refl refl in
    length-append (head_written h head) written ∙ ap (λ n. n + length written) own

-- the written form of a draft of whole nodes of sources is as long as the lengths of its payloads say
pub length-written_form : (files : List File) (d : Draft) → d.overrides ≡ [] → first_fault d.catalogue d.header.width ≡ None → All (IsWholeEntry files) d.entries
    → length (written_form d.header d.catalogue (selection_graph files d)) ≡ output_length d.header d.catalogue (payload_lengths files d)
unfolding output_length
length-written_form files d none new whole =
    let h : Header = d.header in
    let head : List ℕ = header_written h in
    let blocks : List ℕ = flat_map (draft_block files d) (numbers_below (length d.entries)) in
    let catalogue : List ℕ = catalogue_block h d.catalogue in
    let end : List ℕ = codes "ENDB" ++ zeros (head_size h - 4) in
    let last : length end ≡ head_size h = length-append (codes "ENDB") (zeros (head_size h - 4)) ∙ omega (arith, at_least_four h, length-replicate {A = ℕ} (head_size h - 4) 0) in
    ap length (written_form-carried files d none (all-sources files d.entries whole))
    ∙ length-append ((head ++ blocks) ++ catalogue) end
    ∙ (λ i. length-append (head ++ blocks) catalogue i + last i)
    ∙ (λ i. length-append head blocks i + length-catalogue_block h d.catalogue i + head_size h)
    ∙ (λ i. length-header_written h i + blocks_long files d new whole i + (head_size h + length (catalogue_written h.order d.catalogue)) + head_size h)

-- ---- drafts of an accepted file

entry-whole : (b : List ℕ) (f : File) → Accepted b f → (x : Entry) → IsNode0 f x → IsWholeEntry (f ∷ []) x
entry-whole b f accepted (entries.Source i n) is =
    let x : Head = get_or f.nodes n no_head in
    let whole : IsWholeNode f x = node-whole f x (nodes_stand b f accepted n no_head is.1) in
    subst (λ (k : ℕ). IsWholeEntry (f ∷ []) (entries.Source k n)) (sym is.0) (first_fault-none f.catalogue f.header.width accepted.no_layout_fault, whole)
entry-whole b f accepted (entries.Made m) is = absurd is
entry-whole b f accepted (entries.Raw code bytes) is = absurd is

-- entries that are nodes of an accepted file are whole
pub entries-whole : (b : List ℕ) (f : File) (es : List Entry) → Accepted b f → All (IsNode0 f) es → All (IsWholeEntry (f ∷ [])) es
entries-whole b f es accepted nodes = All-weaker (IsNode0 f) (IsWholeEntry (f ∷ [])) (entry-whole b f accepted) es nodes
