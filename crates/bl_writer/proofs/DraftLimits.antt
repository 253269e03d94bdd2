-- How long an output of a draft is, and which limit it passes first: what the draft's selection says.
use Rattle.std.proofs.Common.{◌≡◌, ℕ, ◌<◌, ◌≤◌, List, [], ◌∷◌, length, get_or, Option, None, Result, Ok, Err, sym, ap, ◌∙◌, arith}
use Rattle.std.specs.Prelude.{map}
use Rattle.std.specs.List.{zip}
use Rattle.std.proofs.lemmas.List.{ext_get_or, get_or-map, length-map}
use Rattle.std.proofs.lemmas.Slice.Zip.{get_or-zip, length-zip}
use Rattle.bl_format.specs.declared.file.Head.{Head}
use Rattle.bl_format.specs.declared.raw.RawKind.{RawKind}
use Rattle.bl_format.specs.declared.raw.RawKind.TheVariants.{Bytes}
use Rattle.bl_format.specs.Limits.{most_output_nodes}
use Rattle.bl_format.specs.Words.{numbers_below}
use Rattle.bl_format.specs.Nodes.{File}
use Rattle.bl_format.proofs.NumbersBelow.{length-numbers_below, get_or-by}
use Rattle.bl_selection.specs.declared.draft.Draft.{Draft}
use Rattle.bl_selection.specs.Carried.{carried_length}
use Rattle.bl_selection.specs.Selection.{no_head}
use Rattle.bl_selection.specs.OutputSizes as sizes
use Rattle.bl_selection.specs.OutputSizes.{OutputFault, size_fault}
use Rattle.bl_shelf.specs.declared.shelf.Shelf.{Ghosts as ShelfGhosts}
use Rattle.bl_file.specs.declared.outline.Outline.{Outline}
use Rattle.bl_file.specs.declared.payload.Payload.{Ghosts}
use Rattle.bl_file.specs.Calls.{Tells}
use Rattle.bl_file.specs.Opening.{file_in}
use Rattle.bl_file.specs.Outlines.{StandsFor}
use Rattle.bl_draft.specs.Own.{IsSourceDraft, outlined, entry_head, entry_heads, entry_kinds}
use Rattle.bl_draft.specs.Structs.{HasNoClash}
use Rattle.bl_writer.specs.declared.fault.WriteFault.{WriteFault}
use Rattle.bl_writer.specs.declared.fault.WriteFault.TheVariants as faults
use Rattle.bl_writer.specs.declared.output.Output.{Output}
use Rattle.bl_writer.specs.Faults.{HasOutputFault, KeepsLimits}
use Rattle.bl_writer.specs.Lengths.{KeepsOutputLimits, output_fault, output_size}
use Rattle.bl_writer.specs.Outputs.{payload_lengths}
use Rattle.bl_writer.specs.Totals.{IsFormSize, carried_lengths}
use Rattle.bl_writer.proofs.CarriedOutput.{known_length, payload_lengths-known}
use Rattle.bl_writer.proofs.DraftForm.{IsOutputOf}
use Rattle.bl_writer.proofs.HeldFacts.{held_both}

module _ (o : Outline) (d : Draft) (out : Output) (draft : IsSourceDraft o d) (of : IsOutputOf o d out) where
  pub count_is : length out.nodes.now ≡ length d.entries
  count_is = ap (λ (xs : List Head). length xs) of.nodes ∙ length-map d.entries (entry_head o.nodes)

  -- the lengths of payloads by some kinds, entry by entry
  abbrev lengths_by : List RawKind → ℕ → ℕ
  lengths_by kinds e = carried_length (outlined o []) d.header d.catalogue (get_or kinds e Bytes) (get_or (entry_heads o.nodes d.entries) e no_head)

  -- those of the output
  lengths_are : payload_lengths out ≡ map (lengths_by out.kinds.now) (numbers_below (length d.entries))
  lengths_are = λ i. map (λ e. carried_length (record { header = of.from i; catalogue = (of.source i).catalogue; nodes = []; bytes = [] }) (of.header i) (of.target i)
      (get_or out.kinds.now e Bytes) (get_or (of.nodes i) e no_head)) (numbers_below (count_is i))

  -- ---- over any shelf

  zipped : (kinds : List RawKind) → length kinds ≡ length d.entries → carried_lengths o d kinds ≡ map (lengths_by kinds) (numbers_below (length d.entries))
  zipped kinds many =
      let heads : List Head = entry_heads o.nodes d.entries in
      let n : ℕ = length d.entries in
      let one : RawKind × Head → ℕ = λ p. carried_length (outlined o []) d.header d.catalogue p.0 p.1 in
      let of_heads : length heads ≡ n = length-map d.entries (entry_head o.nodes) in
      let both : length (zip kinds heads) ≡ n = omega (arith, length-zip kinds heads, many, of_heads) in
      let left : length (map one (zip kinds heads)) ≡ n = length-map (zip kinds heads) one ∙ both in
      let right : length (map (lengths_by kinds) (numbers_below n)) ≡ n = length-map (numbers_below n) (lengths_by kinds) ∙ length-numbers_below n in
      ext_get_or 0 (map one (zip kinds heads)) (map (lengths_by kinds) (numbers_below n)) (left ∙ sym right)
      (λ e below.
      let lt : e < n = omega (arith, below, left) in
      get_or-map one (zip kinds heads) e (Bytes, no_head) 0 (omega (arith, lt, both))
      ∙ ap one (get_or-zip kinds heads e (Bytes, no_head) (omega (arith, lt, many)) (omega (arith, lt, of_heads)))
      ∙ sym (get_or-by (lengths_by kinds) n e 0 lt))

  -- the bytes of an output are those of the form of the draft
  pub draft_size : length out.kinds.now ≡ length out.nodes.now → (n : ℕ) → n ≡ output_size out → IsFormSize o d n
  draft_size many n is =
      let kinds : length out.kinds.now ≡ length d.entries = many ∙ count_is in (
        out.kinds.now,
        kinds,
        is ∙ (λ i. sizes.output_length (of.header i) (of.target i) (payload_lengths out))
            ∙ ap (sizes.output_length d.header d.catalogue) (lengths_are ∙ sym (zipped out.kinds.now kinds)),
      )

  -- ---- by the source's bytes

  -- the draft's selection passes the limit that the output passes first
  fault_is : (b : List ℕ) → StandsFor b o → out.kinds.now ≡ entry_kinds (outlined o b) d → sizes.output_fault (file_in b ∷ []) d ≡ output_fault out
  unfolding sizes.output_fault
  fault_is b stands kinds =
      let known : List ℕ = map (known_length b o d) (numbers_below (length d.entries)) in
      let same : payload_lengths out ≡ known = lengths_are ∙ ap (λ (ks : List RawKind). map (lengths_by ks) (numbers_below (length d.entries))) kinds in
      let by : List ℕ → Option OutputFault = λ xs. size_fault (length d.entries) xs (sizes.output_length d.header d.catalogue xs) in
      ap (λ (f : File). by (sizes.payload_lengths (f ∷ []) d)) stands.file
      ∙ ap by (payload_lengths-known b o d draft.sources ∙ sym same)
      ∙ (λ i. size_fault (sym count_is i) (payload_lengths out) (sizes.output_length (sym of.header i) (sym of.target i) (payload_lengths out)))

  module _ {S P : Type 0} (g : ShelfGhosts S) (h : Ghosts P) (s : S) (p : P) (stands : Tells g h s p (λ b. StandsFor b o))
      (kinds : Tells g h s p (λ b. out.kinds.now ≡ entry_kinds (outlined o b) d)) where
    fault_held : (fault : Option OutputFault) → output_fault out ≡ fault → HasOutputFault g h s p d fault
    fault_held fault is = held_both (g.told s) (h.file_name p) (λ b. StandsFor b o) (λ b. out.kinds.now ≡ entry_kinds (outlined o b) d) _ stands kinds
        (λ b known are. fault_is b known are ∙ is)

    -- so an answer that keeps the output's limits keeps the draft's
    pub draft_limits : {T : Type 0} (r : Result T WriteFault) → HasNoClash o d → length d.entries ≤ most_output_nodes → KeepsOutputLimits out r → KeepsLimits g h s d o p r
    draft_limits (Ok x) clear few keeps = (clear, few, fault_held None keeps)
    draft_limits (Err (faults.FloatCast t member)) clear few keeps = absurd keeps
    draft_limits (Err (faults.TooManyBlocks n)) clear few keeps = absurd keeps
    draft_limits (Err (faults.BlockTooLong n)) clear few keeps = (clear, fault_held _ keeps)
    draft_limits (Err (faults.FileTooLarge n)) clear few keeps = (clear, fault_held _ keeps)
    draft_limits (Err faults.Absent) clear few keeps = tt
    draft_limits (Err faults.Device) clear few keeps = tt
    draft_limits (Err faults.NoMemory) clear few keeps = tt
