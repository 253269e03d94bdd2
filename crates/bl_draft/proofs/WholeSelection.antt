-- The whole selection of a file, by the flags of the nodes that are kept.
use Rattle.std.proofs.Common.{◌≡◌, ◌<◌, ℕ, suc, Bool, cond, List, [], ◌∷◌, ◌++◌, length, refl, ap, ◌∙◌, arith}
use Rattle.std.specs.Prelude.{map, count_by}
use Rattle.std.proofs.lemmas.List.{length-map}
use Rattle.bl_format.specs.declared.file.Header.{Header}
use Rattle.bl_format.specs.declared.catalogue.Catalogue.{Catalogue}
use Rattle.bl_format.specs.Words.{numbers_below}
use Rattle.bl_format.specs.Nodes.{File}
use Rattle.bl_format.proofs.NewLengths.{map_same}
use Rattle.bl_selection.specs.declared.draft.Draft.{Draft}
use Rattle.bl_selection.specs.declared.draft.Entry.{Entry}
use Rattle.bl_selection.specs.declared.draft.Entry.TheVariants as entries
use Rattle.bl_selection.specs.Selection.{is_kept, kept_nodes, own_images, draft_of, whole_selection}
use Rattle.bl_selection.proofs.EntriesAsNodes.{length-numbers_below}
use Rattle.bl_draft.specs.Kept.{file_of, flag_at, entries_by}
use Rattle.bl_draft.proofs.ListLemmas.{get_or-by, filter-same, count-same}

-- tests that agree below n give the same images
images-same : (p q : ℕ → Bool) (n : ℕ) → ((k : ℕ) → k < n → p k ≡ q k) → own_images p n ≡ own_images q n
images-same p q n same =
    map_same (λ k. cond (p k) (suc (count_by p (numbers_below k))) 0) (λ k. cond (q k) (suc (count_by q (numbers_below k))) 0) n
    (λ k lt. ap (λ b. cond b (suc (count_by p (numbers_below k))) 0) (same k lt)
    ∙ ap (λ m. cond (q k) (suc m) 0) (count-same p q k (λ j below. same j (omega arith))))

-- as many flags as nodes
pub flags-long : (c : Catalogue) (f : File) (kept : List Bool) → kept ≡ map (is_kept c f) (numbers_below (length f.nodes))
    → length kept ≡ length f.nodes
flags-long c f kept is =
    ap (λ (bs : List Bool). length bs) is ∙ length-map (numbers_below (length f.nodes)) (is_kept c f)
    ∙ length-numbers_below (length f.nodes)

-- entries and images by the flags are those of the whole selection
pub whole_by : (f : File) (h : Header) (c : Catalogue) (kept : List Bool)
    → kept ≡ map (is_kept c f) (numbers_below (length f.nodes))
    → draft_of h c (entries_by (flag_at kept) (length kept)) (own_images (flag_at kept) (length kept) ∷ [])
    ≡ whole_selection f h c
whole_by f h c kept is =
    let n = length f.nodes in
    let same : (k : ℕ) → k < n → flag_at kept k ≡ is_kept c f k =
    λ k lt. ap (λ bs. flag_at bs k) is ∙ get_or-by (is_kept c f) n k _ lt in
    ap (λ m. draft_of h c (entries_by (flag_at kept) m) (own_images (flag_at kept) m ∷ [])) (flags-long c f kept is)
    ∙ ap (λ ns. draft_of h c (map (entries.Source 0) ns) (own_images (flag_at kept) n ∷ []))
    (filter-same (flag_at kept) (is_kept c f) n same)
    ∙ ap (λ ns. draft_of h c (map (entries.Source 0) (kept_nodes c f)) (ns ∷ []))
    (images-same (flag_at kept) (is_kept c f) n same)

-- a draft that is made of these is the whole selection
pub whole_of : (f : File) (h : Header) (c : Catalogue) (draft : Draft) (kept first second : List Bool) (es : List Entry)
    (rows old : List (List ℕ)) (row own : List ℕ) → draft ≡ draft_of h c es rows → rows ≡ old ++ row ∷ [] → old ≡ []
    → row ≡ own → es ≡ entries_by (flag_at first) (length first) → own ≡ own_images (flag_at second) (length second)
    → first ≡ kept → second ≡ kept → kept ≡ map (is_kept c f) (numbers_below (length f.nodes))
    → draft ≡ whole_selection f h c
whole_of f h c draft kept first second es rows old row own draft_is rows_is none row_is es_is own_is one two is =
    let images : rows ≡ own_images (flag_at kept) (length kept) ∷ [] =
    rows_is ∙ ap (λ rs. rs ++ row ∷ []) none
    ∙ ap (λ r. r ∷ []) (row_is ∙ own_is ∙ ap (λ (bs : List Bool). own_images (flag_at bs) (length bs)) two) in
    let all : es ≡ entries_by (flag_at kept) (length kept) =
    es_is ∙ ap (λ (bs : List Bool). entries_by (flag_at bs) (length bs)) one in
    draft_is ∙ ap (λ xs. draft_of h c xs rows) all
    ∙ ap (λ rs. draft_of h c (entries_by (flag_at kept) (length kept)) rs) images ∙ whole_by f h c kept is

-- ---- law

kept_alike : (f : File) (c : Catalogue) (k : ℕ) → is_kept c (file_of f.nodes f.catalogue) k ≡ is_kept c f k
unfolding is_kept
kept_alike f c k = refl

-- of a file the whole selection looks at the nodes and the catalogue alone
pub whole_selection-file_of : (f : File) (h : Header) (c : Catalogue)
    → whole_selection (file_of f.nodes f.catalogue) h c ≡ whole_selection f h c
whole_selection-file_of f h c =
    let n = length f.nodes in
    let p = is_kept c (file_of f.nodes f.catalogue) in
    ap (λ ns. draft_of h c (map (entries.Source 0) ns) (own_images p n ∷ []))
    (filter-same p (is_kept c f) n (λ k lt. kept_alike f c k))
    ∙ ap (λ ns. draft_of h c (map (entries.Source 0) (kept_nodes c f)) (ns ∷ []))
    (images-same p (is_kept c f) n (λ k lt. kept_alike f c k))
