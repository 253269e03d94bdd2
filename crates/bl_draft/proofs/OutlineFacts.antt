-- What a sound outline and a draft of its nodes give: nodes whose structs the catalogue has, and heads that are nodes of
-- the file, whose structs the draft's catalogue has.
use Rattle.std.proofs.Common.{◌≡◌, ◌≢◌, ◌<◌, ◌≤◌, ◌^◌, inl, inr, ℕ, true, All, List, [], ◌∷◌, length, get_or, refl, sym, ap, subst, ◌∙◌, arith}
use Rattle.std.proofs.lemmas.List.{length-map}
use Rattle.std.proofs.lemmas.List.Elements.{All-weaker, All-map}
use Rattle.bl_format.specs.declared.file.Head.{Head}
use Rattle.bl_format.specs.declared.catalogue.Catalogue.{Catalogue}
use Rattle.bl_format.specs.declared.file.Header.{Header}
use Rattle.bl_format.specs.Limits.{first_version, last_version}
use Rattle.bl_format.specs.Schema.{catalogue_written}
use Rattle.bl_format.specs.Layout.{HasLayout}
use Rattle.bl_selection.specs.declared.draft.Draft.{Draft}
use Rattle.bl_selection.specs.declared.draft.Entry.{Entry}
use Rattle.bl_selection.specs.declared.draft.Entry.TheVariants as entries
use Rattle.bl_selection.specs.Selection.{no_head, index_under, kept_nodes, whole_selection}
use Rattle.bl_selection.specs.Drafts.{is_well_formed}
use Rattle.bl_selection.proofs.WellFormed.{whole_selection-well_formed}
use Rattle.bl_file.specs.declared.outline.Outline.{Outline}
use Rattle.bl_file.specs.Outlines.{IsNodeIn, IsSound}
use Rattle.bl_draft.specs.Kept.{HasIndex, file_of}
use Rattle.bl_draft.specs.Own.{IsOfSource, IsSourceDraft, entry_node, entry_head, entry_heads, outlined}
use Rattle.bl_draft.specs.Entries.{IsNodeBelow}
use Rattle.bl_draft.proofs.NodesHaveIndex.{has_index}
use Rattle.bl_draft.proofs.WholeSelection.{whole_selection-file_of}
use Rattle.bl_draft.proofs.SourceDrafts.{IsDraftOf-source}
use Rattle.bl_draft.proofs.SourceNames.{head_at, length-marks}

-- the nodes of a sound outline are raw or of a struct of the catalogue
pub sound-HasIndex : (o : Outline) → IsSound o → All (HasIndex o.layout.catalogue) o.nodes
sound-HasIndex o sound =
    All-weaker (IsNodeIn o.header o.layout.catalogue o.size) (HasIndex o.layout.catalogue)
    (λ x is. has_index o.layout.catalogue x is.no_fault) o.nodes sound.nodes

-- the table has a mark for each node
pub sound-length-table : (o : Outline) → IsSound o → length o.table ≡ length o.nodes
sound-length-table o sound = ap length sound.table ∙ length-marks (outlined o [])

-- the entries of a draft are nodes of its file
pub entries-inside : (o : Outline) (d : Draft) (nodes : List Head) (es : List Entry) → nodes ≡ o.nodes → es ≡ d.entries
    → IsSourceDraft o d → All (IsNodeBelow (length nodes)) es
entries-inside o d nodes es same all source =
    subst (λ (xs : List Head). All (IsNodeBelow (length xs)) es) (sym same)
    (subst (All (IsNodeBelow (length o.nodes))) (sym all) (IsDraftOf-source o d source).entries)

-- and so many that their numbers fit
pub entries-few : (o : Outline) (d : Draft) (es : List Entry) → es ≡ d.entries → IsSourceDraft o d → length es < 2 ^ 32
entries-few o d es all source = omega (arith, ap (λ (xs : List Entry). length xs) all, (IsDraftOf-source o d source).few)

-- a head for each entry
pub length-heads : (nodes : List Head) (es : List Entry) → length (entry_heads nodes es) ≡ length es
length-heads nodes es = length-map es (entry_head nodes)

-- what is so of all nodes is so of the entries' heads
pub heads-have : (P : Head → Type 0) (nodes : List Head) (es : List Entry) → All (IsNodeBelow (length nodes)) es
    → All P nodes → All P (entry_heads nodes es)
heads-have P nodes es below all =
    All-map P (entry_head nodes) es
    (λ k z lt.
    subst P (head_at nodes (get_or es k z) no_head (below k z lt)) (all (entry_node (get_or es k z)) no_head (below k z lt).1))

-- as few heads as entries
pub heads-few : (o : Outline) (d : Draft) (heads : List Head) → IsSourceDraft o d → heads ≡ entry_heads o.nodes d.entries
    → length heads < 2 ^ 32
heads-few o d heads source is =
    omega (arith, ap (λ (xs : List Head). length xs) is, length-heads o.nodes d.entries, (IsDraftOf-source o d source).few)

-- the heads of a draft's entries are nodes of its file
pub heads-IsNodeIn : (o : Outline) (d : Draft) (heads : List Head) → IsSound o → IsSourceDraft o d
    → heads ≡ entry_heads o.nodes d.entries → All (IsNodeIn o.header o.layout.catalogue o.size) heads
heads-IsNodeIn o d heads sound source is =
    let Is = IsNodeIn o.header o.layout.catalogue o.size in
    subst (All Is) (sym is) (heads-have Is o.nodes d.entries (IsDraftOf-source o d source).entries sound.nodes)

-- so they are in a file of that many bytes
pub heads-in_file : (o : Outline) (d : Draft) (heads : List Head) (size : ℕ) → IsSound o → IsSourceDraft o d → size ≡ o.size
    → heads ≡ entry_heads o.nodes d.entries → All (IsNodeIn o.header o.layout.catalogue size) heads
heads-in_file o d heads size sound source same is =
    subst (λ (n : ℕ). All (IsNodeIn o.header o.layout.catalogue n) heads) (sym same) (heads-IsNodeIn o d heads sound source is)

-- the heads of a draft's entries are raw or of a struct of its file's catalogue
pub heads-HasIndex : (o : Outline) (d : Draft) (heads : List Head) → IsSound o → IsSourceDraft o d
    → heads ≡ entry_heads o.nodes d.entries → All (HasIndex o.layout.catalogue) heads
heads-HasIndex o d heads sound source is =
    subst (All (HasIndex o.layout.catalogue)) (sym is)
    (heads-have (HasIndex o.layout.catalogue) o.nodes d.entries (IsDraftOf-source o d source).entries (sound-HasIndex o sound))

-- those that aren't raw are of a struct that is there
pub heads-inside : (o : Outline) (d : Draft) (heads : List Head) → IsSound o → IsSourceDraft o d
    → heads ≡ entry_heads o.nodes d.entries → All (λ (x : Head). x.index ≢ 0 → x.index < length o.layout.catalogue.structs) heads
heads-inside o d heads sound source is k e lt some = elim (heads-HasIndex o d heads sound source is k e lt) [
  | inl raw ↦ absurd (some raw)
  | inr inside ↦ inside
]

-- and the draft's catalogue has the structs of those that aren't raw at numbers other than 0
pub heads-namesakes : (o : Outline) (d : Draft) (heads : List Head) → IsSourceDraft o d → heads ≡ entry_heads o.nodes d.entries
    → All (λ (x : Head). x.index ≢ 0 → index_under d.catalogue o.layout.catalogue x.index ≢ 0) heads
heads-namesakes o d heads source is =
    subst (All (λ (x : Head). x.index ≢ 0 → index_under d.catalogue o.layout.catalogue x.index ≢ 0)) (sym is)
    (All-map (λ (x : Head). x.index ≢ 0 → index_under d.catalogue o.layout.catalogue x.index ≢ 0) (entry_head o.nodes) d.entries
    (IsDraftOf-source o d source).kept)

-- ---- whole selections

-- the whole selection of a file's nodes and catalogue is that of the file, whatever the bytes
pub whole-outlined : (o : Outline) (nodes : List Head) (from : Catalogue) (h : Header) (c : Catalogue) → nodes ≡ o.nodes
    → from ≡ o.layout.catalogue → (b : List ℕ) → whole_selection (file_of nodes from) h c ≡ whole_selection (outlined o b) h c
whole-outlined o nodes from h c same is b =
    (λ i. whole_selection (file_of (same i) (is i)) h c) ∙ whole_selection-file_of (outlined o b) h c

-- and it is well-formed
pub whole-well_formed : (o : Outline) (h : Header) (c : Catalogue) (d : Draft) → IsSound o
    → ((b : List ℕ) → d ≡ whole_selection (outlined o b) h c) → (b : List ℕ) → is_well_formed (outlined o b ∷ []) d ≡ true
whole-well_formed o h c d sound is b =
    ap (is_well_formed (outlined o b ∷ [])) (is b)
    ∙ whole_selection-well_formed (outlined o b) h c (omega (arith, sound.few))

-- under a header and a catalogue that can be written it is a draft of nodes of the file
pub whole-source : (o : Outline) (h : Header) (c : Catalogue) (d : Draft) → IsSound o → HasLayout c h.width
    → (first_version ≤ h.version) × (h.version ≤ last_version) → length (catalogue_written h.order c) < 2 ^ 31
    → ((b : List ℕ) → d ≡ whole_selection (outlined o b) h c) → IsSourceDraft o d
whole-source o h c d sound has version short is =
    let header : h ≡ d.header = sym (ap (λ (x : Draft). x.header) (is [])) in
    let catalogue : c ≡ d.catalogue = sym (ap (λ (x : Draft). x.catalogue) (is [])) in
    record {
      version = subst (λ (k : Header). (first_version ≤ k.version) × (k.version ≤ last_version)) header version;
      has_layout = subst (λ (k : Header). HasLayout d.catalogue k.width) header (subst (λ (k : Catalogue). HasLayout k h.width) catalogue has);
      short = subst (λ (k : Header). length (catalogue_written k.order d.catalogue) < 2 ^ 31) header
          (subst (λ (k : Catalogue). length (catalogue_written h.order k) < 2 ^ 31) catalogue short);
      no_overrides = ap (λ (x : Draft). x.overrides) (is []);
      sources = subst (λ (x : Draft). All IsOfSource x.entries) (sym (is []))
          (All-map IsOfSource (entries.Source 0) (kept_nodes c (outlined o [])) (λ k z lt. refl));
      well_formed = whole-well_formed o h c d sound is [];
    }
