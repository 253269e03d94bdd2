-- The targets that are made for a draft's entries.
use Rattle.std.proofs.Common.{◌≡◌, ◌<◌, ◌≤◌, ℕ, Bool, All, List, [], length, get_or, sym, ap, subst, ◌∙◌, arith}
use Rattle.std.specs.Prelude.{map}
use Rattle.std.proofs.lemmas.List.{get_or_default, length-map}
use Rattle.bl_format.specs.declared.file.Head.{Head}
use Rattle.bl_format.specs.Nodes.{Mark}
use Rattle.bl_selection.specs.declared.draft.Draft.{Draft}
use Rattle.bl_selection.specs.declared.draft.Entry.{Entry}
use Rattle.bl_file.specs.declared.outline.Outline.{Outline}
use Rattle.bl_file.specs.Outlines.{IsSound, ids_of}
use Rattle.bl_draft.specs.Numbers.{numbered_head, numbers_under}
use Rattle.bl_draft.specs.Own.{IsSourceDraft, entry_head, entry_heads, outlined, own_names}
use Rattle.bl_draft.specs.Targets.{Known, known_names}
use Rattle.bl_draft.specs.Entries.{IsNodeBelow, source_group, groups_among}
use Rattle.bl_draft.proofs.SourceDrafts.{IsDraftOf-source}
use Rattle.bl_draft.proofs.SourceNames.{length-groups_among, names-known}
use Rattle.bl_draft.proofs.OutlineFacts.{sound-length-table, entries-inside, heads-HasIndex}

-- the only list of images
pub row-is : (rows own : List (List ℕ)) (x row : List ℕ) → rows ≡ own → length own ≡ 1 → x ≡ get_or rows 0 x → row ≡ x
    → row ≡ get_or own 0 []
row-is rows own x row same one at is =
    is ∙ at ∙ ap (λ (rs : List (List ℕ)). get_or rs 0 x) same ∙ get_or_default own 0 x [] (omega (arith, one))

-- a group for each entry
pub groups-length : (d : Draft) (nodes heads : List Head) (groups : List ℕ) → heads ≡ entry_heads nodes d.entries
    → groups ≡ groups_among heads → length groups ≡ length d.entries
groups-length d nodes heads groups are is =
    ap (λ (gs : List ℕ). length gs) is ∙ length-groups_among heads ∙ ap (λ (xs : List Head). length xs) are
    ∙ length-map d.entries (entry_head nodes)

-- the entries' nodes have marks
pub entries-marked : (o : Outline) (d : Draft) (es : List Entry) → es ≡ d.entries → IsSound o → IsSourceDraft o d
    → All (IsNodeBelow (length o.table)) es
entries-marked o d es all sound source =
    subst (λ (n : ℕ). All (IsNodeBelow n) es) (sym (sound-length-table o sound)) (entries-inside o d o.nodes es (λ i. o.nodes) all source)

-- what is made
pub record IsMadeOf (o : Outline) (d : Draft) (k : Known) : Type 0 where
  pub heads : List Head
  pub es : List Entry
  pub numbers : List ℕ
  pub es_are : es ≡ d.entries
  pub heads_are : heads ≡ entry_heads o.nodes d.entries
  pub numbers_are : numbers ≡ numbers_under d.catalogue o.layout.catalogue
  pub marks : k.marks ≡ o.table
  pub images : k.images ≡ get_or d.images 0 []
  pub sources : k.sources ≡ map (source_group o.table) es
  pub groups : k.groups ≡ groups_among heads
  pub ids : k.ids ≡ ids_of d.catalogue (map (numbered_head numbers) heads)

-- is in range
pub record IsInRange (k : Known) : Type 0 where
  pub images : All (λ image. image ≤ length k.groups) k.images
  pub marks : length k.images ≡ length k.marks
  pub sources : length k.sources ≡ length k.groups
  pub ids : length k.ids ≡ length k.groups

pub made-IsInRange : (o : Outline) (d : Draft) (k : Known) → IsSound o → IsSourceDraft o d → IsMadeOf o d k → IsInRange k
made-IsInRange o d k sound source made =
    let draft = IsDraftOf-source o d source in
    let count : length k.groups ≡ length d.entries = groups-length d o.nodes made.heads k.groups made.heads_are made.groups in
    let many : length made.es ≡ length k.groups = ap (λ (xs : List Entry). length xs) made.es_are ∙ sym count in
    let few : All (λ image. image ≤ length k.groups) (get_or d.images 0 []) =
    subst (λ (n : ℕ). All (λ image. image ≤ n) (get_or d.images 0 [])) (sym count) draft.images_few in
    record {
      images = subst (All (λ image. image ≤ length k.groups)) (sym made.images) few;
      marks = ap (λ (row : List ℕ). length row) made.images ∙ draft.images_long ∙ sym (sound-length-table o sound)
          ∙ sym (ap (λ (ms : List Mark). length ms) made.marks);
      sources = ap (λ (gs : List ℕ). length gs) made.sources ∙ length-map made.es _ ∙ many;
      ids = ap (λ (bs : List Bool). length bs) made.ids
          ∙ length-map (map (numbered_head made.numbers) made.heads) _ ∙ length-map made.heads (numbered_head made.numbers)
          ∙ ap (λ (xs : List Head). length xs) made.heads_are ∙ length-map d.entries (entry_head o.nodes) ∙ sym count;
    }

-- and names what addresses name in the draft
pub made-names : (o : Outline) (d : Draft) (k : Known) → IsSound o → IsSourceDraft o d → IsMadeOf o d k → (e : ℕ)
    → e < length d.entries → known_names k e ≡ own_names (outlined o []) d e
made-names o d k sound source made =
    names-known (outlined o []) d made.heads k (IsDraftOf-source o d source)
    (record {
      heads_are = made.heads_are;
      index = heads-HasIndex o d made.heads sound source made.heads_are;
      marks = made.marks ∙ sound.table;
      images = made.images;
      sources = made.sources ∙ ap (λ ms. map (source_group ms) made.es) (sym made.marks)
          ∙ ap (map (source_group k.marks)) made.es_are;
      groups = made.groups;
      ids = made.ids ∙ ap (λ (ns : List ℕ). ids_of d.catalogue (map (numbered_head ns) made.heads)) made.numbers_are;
    })
