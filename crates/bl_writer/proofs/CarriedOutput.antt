-- The written form of a draft of one opened file's nodes, under any header and catalogue, and how long it is, by what is known
-- of its entries: the heads of their nodes, their kinds, and what addresses name from them.
use Rattle.std.proofs.Common.{◌≡◌, ℕ, ◌<◌, true, All, List, [], ◌∷◌, ◌++◌, length, get_or, None, sym, ap, subst, ◌∙◌, arith}
use Rattle.std.specs.Prelude.{map, flat_map}
use Rattle.std.proofs.lemmas.List.{ext_get_or, get_or-map, length-map}
use Rattle.std.proofs.lemmas.List.Elements.{All-weaker}
use Rattle.bl_format.specs.declared.file.Head.{Head}
use Rattle.bl_format.specs.declared.raw.RawKind.{RawKind}
use Rattle.bl_format.specs.declared.raw.RawKind.TheVariants.{Bytes}
use Rattle.bl_format.specs.Words.{numbers_below}
use Rattle.bl_format.specs.Blocks.{header_written}
use Rattle.bl_format.specs.Layout.{first_fault}
use Rattle.bl_format.specs.Nodes.{File, Accepted}
use Rattle.bl_format.specs.Graph.{Target, Naming}
use Rattle.bl_format.proofs.NumbersBelow.{length-numbers_below, get_or-by}
use Rattle.bl_selection.specs.declared.draft.Draft.{Draft}
use Rattle.bl_selection.specs.declared.draft.Entry.{Entry}
use Rattle.bl_selection.specs.declared.draft.Entry.TheVariants as entries
use Rattle.bl_selection.specs.Drafts.{is_well_formed}
use Rattle.bl_selection.specs.Selection.{no_head, entry_at, entry_names}
use Rattle.bl_selection.specs.Written.{catalogue_block}
use Rattle.bl_selection.specs.Carried.{IsSourceNode, carried_length, carried_block, entry_block, draft_block}
use Rattle.bl_selection.specs.OutputSizes.{entry_length, payload_lengths, output_length}
use Rattle.bl_selection.proofs.CarriedForm.{written_form-carried}
use Rattle.bl_selection.proofs.DraftFacts.{IsSource0, IsNode0, nodes-within}
use Rattle.bl_selection.proofs.FormLength.{length-payload_lengths, payload_length, entries-whole, length-written_form}
use Rattle.bl_selection.proofs.NumberedTexts.{texts-same}
use Rattle.bl_file.specs.declared.outline.Outline.{Outline}
use Rattle.bl_file.specs.Outlines.{StandsFor}
use Rattle.bl_draft.specs.Own.{outlined, IsOfSource, entry_node, entry_head, entry_heads, own_names, entry_kinds}
use Rattle.bl_writer.specs.Outputs.{selection_form}
use Rattle.bl_writer.specs.Rendering.{end_written}
use Rattle.bl_draft.proofs.EntryNames.{names_without}
use Rattle.bl_draft.proofs.KindsAgree.{entry_kinds-draft}

is_source_node : (x : Entry) → IsOfSource x → IsSourceNode x
is_source_node (entries.Source i n) is = tt
is_source_node (entries.Made m) is = absurd is
is_source_node (entries.Raw code bytes) is = absurd is

is_source0 : (x : Entry) → IsOfSource x → IsSource0 x
is_source0 (entries.Source i n) is = is
is_source0 (entries.Made m) is = absurd is
is_source0 (entries.Raw code bytes) is = absurd is

module _ (b : List ℕ) (o : Outline) (d : Draft) where
  abbrev f : File
  f = outlined o b

  abbrev files : List File
  files = f ∷ []

  -- the block of an entry, by what is known of it; what addresses name says nothing of the file's bytes
  abbrev pub known_block : ℕ → List ℕ
  known_block e =
      carried_block (own_names (outlined o []) d e) f d.header d.catalogue e (get_or (entry_kinds f d) e Bytes) (get_or (entry_heads o.nodes d.entries) e no_head)

  by_entry : (e : ℕ) (kind : RawKind) (x : Entry) → IsOfSource x
      → carried_block (entry_names (outlined o [] ∷ []) d e 0 (entry_node x)) f d.header d.catalogue e kind (entry_head o.nodes x) ≡ entry_block files d kind e x
  by_entry e kind (entries.Source i n) is =
      ap (λ (names : Naming Target). carried_block names f d.header d.catalogue e kind (get_or o.nodes n no_head)) (names_without o d b e n)
      ∙ ap (λ (k : ℕ). entry_block files d kind e (entries.Source k n)) (sym is)
  by_entry e kind (entries.Made m) is = absurd is
  by_entry e kind (entries.Raw code bytes) is = absurd is

  known_block-is : All IsOfSource d.entries → (e : ℕ) → e < length d.entries → known_block e ≡ draft_block files d e
  known_block-is sources e lt =
      let none : Entry = entries.Raw [] [] in
      let names : Naming Target = own_names (outlined o []) d e in
      let heads : List Head = entry_heads o.nodes d.entries in
      ap (λ (x : Head). carried_block names f d.header d.catalogue e (get_or (entry_kinds f d) e Bytes) x) (get_or-map (entry_head o.nodes) d.entries e none no_head lt)
      ∙ by_entry e (get_or (entry_kinds f d) e Bytes) (entry_at d e) (sources e none lt)
      ∙ ap (λ (ks : List RawKind). entry_block files d (get_or ks e Bytes) e (entry_at d e)) (entry_kinds-draft f d sources)

  -- the written form of a draft of the file's nodes: the header, the block of each entry, the catalogue's, and the end
  pub selection_form-known : d.overrides ≡ [] → All IsOfSource d.entries
      → selection_form files d
      ≡ ((header_written d.header ++ flat_map known_block (numbers_below (length d.entries))) ++ catalogue_block d.header d.catalogue) ++ end_written d.header
  selection_form-known none sources =
      written_form-carried files d none (All-weaker IsOfSource IsSourceNode is_source_node d.entries sources)
      ∙ ap (λ (blocks : List ℕ). ((header_written d.header ++ blocks) ++ catalogue_block d.header d.catalogue) ++ end_written d.header)
      (texts-same (draft_block files d) known_block (length d.entries) (λ e lt. sym (known_block-is sources e lt)))

  -- ---- how long it is

  -- the bytes of an entry's payload, by what is known of it
  abbrev pub known_length : ℕ → ℕ
  known_length e =
      carried_length f d.header d.catalogue (get_or (entry_kinds f d) e Bytes) (get_or (entry_heads o.nodes d.entries) e no_head)

  entry_long : (kind : RawKind) (x : Entry) → IsOfSource x → entry_length files d kind x ≡ carried_length f d.header d.catalogue kind (entry_head o.nodes x)
  entry_long kind (entries.Source i n) is = ap (λ (k : ℕ). entry_length files d kind (entries.Source k n)) is
  entry_long kind (entries.Made m) is = absurd is
  entry_long kind (entries.Raw code bytes) is = absurd is

  known_length-is : All IsOfSource d.entries → (e : ℕ) → e < length d.entries → get_or (payload_lengths files d) e 0 ≡ known_length e
  known_length-is sources e lt =
      let none : Entry = entries.Raw [] [] in
      let kind : RawKind = get_or (entry_kinds f d) e Bytes in
      payload_length files d e lt
      ∙ ap (λ (ks : List RawKind). entry_length files d (get_or ks e Bytes) (entry_at d e)) (sym (entry_kinds-draft f d sources))
      ∙ entry_long kind (entry_at d e) (sources e none lt)
      ∙ ap (λ (x : Head). carried_length f d.header d.catalogue kind x) (sym (get_or-map (entry_head o.nodes) d.entries e none no_head lt))

  -- the lengths of all payloads
  pub payload_lengths-known : All IsOfSource d.entries → payload_lengths files d ≡ map known_length (numbers_below (length d.entries))
  payload_lengths-known sources =
      let n : ℕ = length d.entries in
      let sizes : List ℕ = payload_lengths files d in
      let long : length sizes ≡ n = length-payload_lengths files d in
      let many : length (map known_length (numbers_below n)) ≡ n = length-map (numbers_below n) known_length ∙ length-numbers_below n in
      ext_get_or 0 sizes (map known_length (numbers_below n)) (long ∙ sym many)
      (λ e below.
      let lt : e < n = omega (arith, below, long) in
      known_length-is sources e lt ∙ sym (get_or-by known_length n e 0 lt))

-- the written form of a draft of an opened file's nodes has these bytes, under a catalogue without a fault
pub length-selection_form : (b : List ℕ) (o : Outline) (d : Draft) → StandsFor b o → d.overrides ≡ [] → All IsOfSource d.entries
    → is_well_formed (outlined o [] ∷ []) d ≡ true → first_fault d.catalogue d.header.width ≡ None
    → length (selection_form (outlined o b ∷ []) d) ≡ output_length d.header d.catalogue (map (known_length b o d) (numbers_below (length d.entries)))
length-selection_form b o d stands none sources formed no_fault =
    let f : File = outlined o b in
    let accepted : Accepted b f = subst (Accepted b) stands.file stands.accepted in
    let nodes : All (IsNode0 f) d.entries = nodes-within (outlined o []) d formed (All-weaker IsOfSource IsSource0 is_source0 d.entries sources) in
    length-written_form (f ∷ []) d none no_fault (entries-whole b f d.entries accepted nodes)
    ∙ ap (output_length d.header d.catalogue) (payload_lengths-known b o d sources)
