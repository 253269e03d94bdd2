-- Drafts of all nodes of a file: the test for them, and that their heads, what addresses name from them, and under the file's
-- catalogue and width their kinds are those of the file.
use Rattle.std.proofs.Common.{◌≡◌, ◌<◌, inl, inr, ℕ, zero, suc, ◌+◌, true, false, List, [], ◌∷◌, ◌++◌, length, get_or, take, refl, sym, ap, subst, ◌∙◌, arith}
use Rattle.std.specs.Prelude.{◌==◌, All, map, slice_get}
use Rattle.std.proofs.lemmas.Bool.{cases_lt, eqb-true, eq-eqb, and_parts, both_ways}
use Rattle.std.proofs.lemmas.List.{ext_get_or, get_or-map, get_or_past, length-map, take_more, take_all}
use Rattle.std.proofs.lemmas.List.Elements.{All-head, All-tail}
use Rattle.std.proofs.lemmas.Option.{slice_get-get_or}
use Rattle.bl_format.specs.declared.file.Head.{Head}
use Rattle.bl_format.specs.declared.file.Header.{Header}
use Rattle.bl_format.specs.declared.catalogue.Catalogue.{Catalogue}
use Rattle.bl_format.specs.declared.raw.RawKind.{RawKind}
use Rattle.bl_format.specs.Schema.{CanBeRead}
use Rattle.bl_format.specs.Words.{numbers_below}
use Rattle.bl_format.specs.Layout.{HasLayout}
use Rattle.bl_format.specs.Nodes.{File, Mark, group_of, marks, target_of}
use Rattle.bl_format.specs.Graph.{file_codes, file_names, file_views, node_cells}
use Rattle.bl_format.proofs.MemberPasses.{first_fault-none}
use Rattle.bl_selection.specs.declared.draft.Draft.{Draft}
use Rattle.bl_selection.specs.declared.draft.Entry.{Entry}
use Rattle.bl_selection.specs.declared.draft.Entry.TheVariants as entries
use Rattle.bl_selection.specs.Selection.{no_head, index_under, entry_is_id, entry_names, is_source}
use Rattle.bl_selection.proofs.EntriesAsNodes.{length-numbers_below}
use Rattle.bl_selection.proofs.OwnFormNames.{HaveOwnIndex, own_selection, entry_at-own, names-own}
use Rattle.bl_selection.proofs.OwnFormStructs.{struct_number-own}
use Rattle.bl_file.specs.declared.outline.Outline.{Outline}
use Rattle.bl_file.specs.Opening.{kinds_in}
use Rattle.bl_file.specs.Outlines.{IsSound, StandsFor, ids_of}
use Rattle.bl_file.specs.Seen.{Namings, mark_group, table_names, kinds_seen, views_seen}
use Rattle.bl_draft.specs.Entries.{groups_among, no_mark, source_group}
use Rattle.bl_draft.specs.Kept.{HasIndex}
use Rattle.bl_draft.specs.Numbers.{number_at, numbered_head, numbers_under}
use Rattle.bl_draft.specs.Own.{IsSourceDraft, entry_head, entry_heads, entry_kinds, entry_node, outlined, own_names}
use Rattle.bl_draft.specs.Prepared.{HasFileIds}
use Rattle.bl_draft.specs.Targets.{Known, known_names}
use Rattle.bl_draft.specs.Whole.{IsOfAll, all_entries}
use Rattle.bl_draft.proofs.KeptLemmas.{number-index}
use Rattle.bl_draft.proofs.ListLemmas.{get_or-by, map-numbers}
use Rattle.bl_draft.proofs.OutlineFacts.{sound-HasIndex}
use Rattle.bl_draft.proofs.OwnViews.{IsPlain, selection_views-own}
use Rattle.bl_draft.proofs.SourceDrafts.{HasNamesake, IsDraftOf, IsDraftOf-source}
use Rattle.bl_draft.proofs.SourceNames.{length-marks, mark_at, names-known}

-- ---- the test

-- an entry that passes is that node
pub is_source-node : (k : ℕ) (x : Entry) → is_source 0 k x ≡ true → x ≡ entries.Source 0 k
is_source-node k (entries.Source i n) is =
    let parts = and_parts (0 == i) (k == n) is in
    let file : 0 ≡ i = eqb-true 0 i parts.0 in
    let node : k ≡ n = eqb-true k n parts.1 in
    λ j. entries.Source (sym file j) (sym node j)
is_source-node k (entries.Made m) is = absurd (cc)
is_source-node k (entries.Raw code bytes) is = absurd (cc)

-- one element more is what a function gives for its number
pub more-by : {X : Type 0} (f : ℕ → X) (xs : List X) (k : ℕ) (d : X) → k < length xs → get_or xs k d ≡ f k
    → take k xs ≡ map f (numbers_below k) → take (k + 1) xs ≡ map f (numbers_below (k + 1))
more-by f xs k d lt is so_far =
    take_more xs k d lt ∙ ap (λ ys. ys ++ get_or xs k d ∷ []) so_far
    ∙ ap (λ y. map f (numbers_below k) ++ y ∷ []) is ∙ sym (map-numbers f k)

-- at the end all are
pub all-by : {X : Type 0} (f : ℕ → X) (xs : List X) (k n : ℕ) → k ≡ length xs → k ≡ n
    → take k xs ≡ map f (numbers_below k) → xs ≡ map f (numbers_below n)
all-by f xs k n all is so_far =
    sym (take_all k xs (omega (arith, all))) ∙ so_far ∙ ap (λ m. map f (numbers_below m)) is

-- a list that differs at a place isn't what a function gives for the numbers below n
pub differs-by : {X : Type 0} (f : ℕ → X) (xs : List X) (k n : ℕ) (d : X) → k < length xs → (get_or xs k d ≡ f k → ⊥)
    → xs ≡ map f (numbers_below n) → ⊥
differs-by f xs k n d lt differs all =
    let long : length xs ≡ n = ap length all ∙ length-map (numbers_below n) f ∙ length-numbers_below n in
    differs (ap (λ ys. get_or ys k d) all ∙ get_or-by f n k d (omega (arith, lt, long)))

-- an entry that doesn't pass isn't that node
pub is_source-other : (k : ℕ) (x : Entry) → is_source 0 k x ≡ false → x ≡ entries.Source 0 k → ⊥
is_source-other k x none is = both_ways (is_source 0 k x) none (ap (is_source 0 k) is ∙ eq-eqb k k refl)

-- ---- nodes of an accepted file

index-own : (c : Catalogue) (x : Head) → CanBeRead c → HasIndex c x → index_under c c x.index ≡ x.index
index-own c x read has = by x.index refl
  where
    by : (s : ℕ) → x.index ≡ s → index_under c c s ≡ s
    by zero is = refl
    by (suc s) is = elim has [
      | inl raw ↦ absurd (omega (arith, raw, is))
      | inr lt ↦ struct_number-own c (suc s) read (omega (arith, lt, is))
    ]

-- the catalogue of a sound outline has the structs of its nodes under their own numbers, whatever the bytes
pub sound-HaveOwnIndex : (o : Outline) (b : List ℕ) → IsSound o → HaveOwnIndex (outlined o b)
sound-HaveOwnIndex o b sound k =
    let c = o.layout.catalogue in
    elim (cases_lt k (length o.nodes)) [
      | inl lt ↦ index-own c (get_or o.nodes k no_head) sound.has_layout.can_be_read (sound-HasIndex o sound k no_head lt)
      | inr ge ↦ subst (λ (x : Head). index_under c c x.index ≡ x.index) (sym (get_or_past o.nodes k no_head ge)) refl
    ]

-- ---- the draft

-- a draft has its file's catalogue and width
record HasOwn (o : Outline) (d : Draft) : Type 0 where
  catalogue : d.catalogue ≡ o.layout.catalogue
  width : d.header.width ≡ o.header.width

plain : (o : Outline) (b : List ℕ) (d : Draft) → IsSound o → IsSourceDraft o d → HasOwn o d → IsPlain (outlined o b) d
plain o b d sound source own =
    let layout : HasLayout o.layout.catalogue o.header.width =
    subst (HasLayout o.layout.catalogue) sound.width sound.has_layout in
    record {
      catalogue = own.catalogue;
      index = sound-HaveOwnIndex o b sound;
      no_fault = first_fault-none o.layout.catalogue o.header.width layout.no_fault;
      width = own.width;
      no_overrides = source.no_overrides;
    }

-- under the file's header a draft of all nodes is the file's own one
of_all-own : (o : Outline) (b : List ℕ) (d : Draft) → IsSourceDraft o d → d.catalogue ≡ o.layout.catalogue → IsOfAll (length o.nodes) d
    → record d { header = o.header } ≡ own_selection (outlined o b)
of_all-own o b d source catalogue all = λ i. record {
  header = o.header;
  catalogue = catalogue i;
  entries = all.entries i;
  images = all.images i;
  overrides = source.no_overrides i;
}

-- so is one under the file's header and catalogue
own-is_own : (o : Outline) (d : Draft) → IsSourceDraft o d → IsOfAll (length o.nodes) d
    → record d { header = o.header; catalogue = o.layout.catalogue } ≡ own_selection (outlined o [])
own-is_own o d source all = λ i. record {
  header = o.header;
  catalogue = o.layout.catalogue;
  entries = all.entries i;
  images = all.images i;
  overrides = source.no_overrides i;
}

-- what addresses name has nothing of the header
names-header : (f : File) (h : Header) (d : Draft) (e : ℕ) → own_names f d e ≡ own_names f (record d { header = h }) e
unfolding entry_names entry_is_id
names-header f h d e = refl

-- its heads are the nodes
heads-all : (nodes : List Head) → entry_heads nodes (all_entries (length nodes)) ≡ nodes
heads-all nodes =
    let n = length nodes in
    let long : length (all_entries n) ≡ n = length-map (numbers_below n) (entries.Source 0) ∙ length-numbers_below n in
    let many : length (entry_heads nodes (all_entries n)) ≡ n = length-map (all_entries n) (entry_head nodes) ∙ long in
    ext_get_or no_head (entry_heads nodes (all_entries n)) nodes many
    (λ k below.
    let lt : k < n = omega (arith, below, many) in
    get_or-map (entry_head nodes) (all_entries n) k (entries.Raw [] []) no_head (omega (arith, lt, long))
    ∙ ap (entry_head nodes) (get_or-by (entries.Source 0) n k (entries.Raw [] []) lt))

-- so the nodes of an outline are its heads
pub nodes-known : (o : Outline) (d : Draft) (nodes : List Head) → IsOfAll (length o.nodes) d → nodes ≡ o.nodes
    → nodes ≡ entry_heads o.nodes d.entries
nodes-known o d nodes all is = is ∙ sym (ap (entry_heads o.nodes) all.entries ∙ heads-all o.nodes)

-- what addresses name from the nodes of a file
abbrev names_in : File → Namings
names_in f k = file_names f (group_of (file_codes f) k)

-- what the nodes say by these names is what the file says
views-all : (f : File) → views_seen (names_in f) f.header f.catalogue f.nodes f.bytes ≡ file_views f
unfolding views_seen file_views node_cells
views-all f = refl

kinds-all : (f : File) → kinds_seen f.nodes (file_views f) ≡ kinds_in f
unfolding kinds_seen kinds_in
kinds-all f = refl

own_names-all : (f : File) → HaveOwnIndex f → (e : ℕ) → e < length f.nodes → names_in f e ≡ own_names f (own_selection f) e
own_names-all f index e lt =
    sym (ap (λ x. entry_names (f ∷ []) (own_selection f) e 0 (entry_node x)) (entry_at-own f index e lt)
    ∙ names-own f index e)

-- a node of the outline for each of its entries
pub length-nodes : (o : Outline) (d : Draft) → IsOfAll (length o.nodes) d → length o.nodes ≡ length d.entries
length-nodes o d all =
    let n = length o.nodes in
    let long : length (all_entries n) ≡ n = length-map (numbers_below n) (entries.Source 0) ∙ length-numbers_below n in
    sym long ∙ sym (ap (λ (es : List Entry). length es) all.entries)

-- so they name from the entries of a draft of all nodes
own_names-known : (o : Outline) (b : List ℕ) (d : Draft) → IsSound o → IsSourceDraft o d → d.catalogue ≡ o.layout.catalogue
    → IsOfAll (length o.nodes) d → (e : ℕ) → e < length o.nodes → names_in (outlined o b) e ≡ own_names (outlined o b) d e
own_names-known o b d sound source catalogue all e lt =
    let f = outlined o b in
    own_names-all f (sound-HaveOwnIndex o b sound) e lt
    ∙ ap (λ (x : Draft). own_names f x e) (sym (of_all-own o b d source catalogue all))
    ∙ sym (names-header f o.header d e)

-- the kinds of its entries are those of the file
entry_kinds-all : (o : Outline) (b : List ℕ) (d : Draft) → IsSound o → IsSourceDraft o d → HasOwn o d → IsOfAll (length o.nodes) d
    → entry_kinds (outlined o b) d ≡ kinds_in (outlined o b)
entry_kinds-all o b d sound source own all =
    let f = outlined o b in
    let heads : entry_heads f.nodes d.entries ≡ f.nodes = ap (entry_heads f.nodes) all.entries ∙ heads-all f.nodes in
    ap (kinds_seen (entry_heads f.nodes d.entries))
    (sym (selection_views-own f d (IsDraftOf-source o d source) (plain o b d sound source own) (names_in f)
    (λ e lt. own_names-known o b d sound source own.catalogue all e (omega (arith, lt, length-nodes o d all)))))
    ∙ ap (λ hs. kinds_seen hs (views_seen (names_in f) f.header f.catalogue hs f.bytes)) heads
    ∙ ap (kinds_seen f.nodes) (views-all f) ∙ kinds-all f

-- so are those that an outline has
pub kinds-known : (o : Outline) (b : List ℕ) (d : Draft) (kinds : List RawKind) → IsSound o → IsSourceDraft o d
    → d.catalogue ≡ o.layout.catalogue → d.header.width ≡ o.header.width → IsOfAll (length o.nodes) d → kinds ≡ o.kinds
    → StandsFor b o → kinds ≡ entry_kinds (outlined o b) d
kinds-known o b d kinds sound source catalogue width all same stands =
    same ∙ stands.kinds ∙ ap kinds_in stands.file
    ∙ sym (entry_kinds-all o b d sound source (record { catalogue = catalogue; width = width }) all)

-- the group that a table of a file's nodes has for a node
group_told : (f : File) (k : ℕ) → k < length f.nodes → mark_group (slice_get (marks f) k) ≡ group_of (file_codes f) k
group_told f k lt =
    ap mark_group (slice_get-get_or (marks f) k no_mark (omega (arith, lt, length-marks f)))
    ∙ ap (λ (m : Mark). m.group) (mark_at f k no_mark lt)

-- ---- the file's IDs

-- the numbers of structs under their own catalogue are theirs
heads-own : (c : Catalogue) (nodes : List Head) → CanBeRead c → All (HasIndex c) nodes
    → map (numbered_head (numbers_under c c)) nodes ≡ nodes
heads-own c [] read has = refl
heads-own c (x ∷ xs) read has =
    let own : HasIndex c x = All-head (HasIndex c) x xs has in
    let number : number_at (numbers_under c c) x.index ≡ x.index = number-index c c x.index own ∙ index-own c x read own in
    let later = heads-own c xs read (All-tail (HasIndex c) x xs has) in
    λ i. record x { index = number i } ∷ later i

-- under the file's own catalogue the same nodes are IDs
pub own-HasFileIds : (o : Outline) (d : Draft) → IsSound o → d.catalogue ≡ o.layout.catalogue → HasFileIds o d
own-HasFileIds o d sound own =
    ap (λ (c : Catalogue). ids_of c (map (numbered_head (numbers_under c o.layout.catalogue)) o.nodes)) own
    ∙ ap (ids_of o.layout.catalogue) (heads-own o.layout.catalogue o.nodes sound.has_layout.can_be_read (sound-HasIndex o sound))
    ∙ sym sound.ids

-- what is known of a draft of all nodes with the file's IDs
abbrev known : Outline → Draft → Known
known o d =
    let marked = marks (outlined o []) in
    record {
      marks = marked;
      images = get_or d.images 0 [];
      sources = map (source_group marked) d.entries;
      groups = groups_among o.nodes;
      ids = o.ids;
    }

known-names : (o : Outline) (d : Draft) → IsSound o → IsDraftOf o.layout.catalogue o.nodes d → IsOfAll (length o.nodes) d → HasFileIds o d
    → (e : ℕ) → e < length d.entries → known_names (known o d) e ≡ own_names (outlined o []) d e
known-names o d sound draft all ids =
    names-known (outlined o []) d o.nodes (known o d) draft (record {
      heads_are = nodes-known o d o.nodes all refl;
      index = sound-HasIndex o sound;
      marks = refl;
      images = refl;
      sources = refl;
      groups = refl;
      ids = sym ids;
    })

-- a draft under its file's header and catalogue
abbrev under_own : Outline → Draft → Draft
under_own o d = record d { header = o.header; catalogue = o.layout.catalogue }

own-namesake : (o : Outline) → IsSound o → (x : Entry) → HasNamesake o.layout.catalogue o.layout.catalogue o.nodes x
own-namesake o sound (entries.Source i n) some none = some (sym (sound-HaveOwnIndex o [] sound n) ∙ none)
own-namesake o sound (entries.Made m) some none = some refl
own-namesake o sound (entries.Raw code bytes) some none = some refl

under_own-IsDraftOf : (o : Outline) (d : Draft) → IsSound o → IsDraftOf o.layout.catalogue o.nodes d
    → IsDraftOf o.layout.catalogue o.nodes (under_own o d)
under_own-IsDraftOf o d sound draft = record {
  entries = draft.entries;
  kept = λ k z lt. own-namesake o sound (get_or d.entries k z);
  few = draft.few;
  one_row = draft.one_row;
  images_long = draft.images_long;
  images_few = draft.images_few;
}

-- what addresses name from the entries of a draft of all nodes with the file's IDs is what they name by the file's table
pub names-by_table : (o : Outline) (d : Draft) (table : List Mark) → IsSound o → IsSourceDraft o d → IsOfAll (length o.nodes) d
    → HasFileIds o d → table ≡ o.table → (e : ℕ) → e < length d.entries → table_names table e ≡ own_names (outlined o []) d e
names-by_table o d table sound source all ids same e lt =
    let f = outlined o [] in
    let own = under_own o d in
    let all_own : IsOfAll (length o.nodes) own = record { entries = all.entries; images = all.images } in
    let draft = IsDraftOf-source o d source in
    let below : e < length f.nodes = omega (arith, lt, length-nodes o d all) in
    ap (λ (ms : List Mark). table_names ms e) (same ∙ sound.table)
    ∙ ap (target_of (marks f)) (group_told f e below)
    ∙ own_names-all f (sound-HaveOwnIndex o [] sound) e below
    ∙ ap (λ (x : Draft). own_names f x e) (sym (own-is_own o d source all))
    ∙ sym (known-names o own sound (under_own-IsDraftOf o d sound draft) all_own (own-HasFileIds o own sound refl) e lt)
    ∙ known-names o d sound draft all ids e lt
