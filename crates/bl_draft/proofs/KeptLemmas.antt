-- The flags of the nodes that are kept, and the entries and images that they give.
use Rattle.std.proofs.Common.{◌≡◌, ◌<◌, ◌≤◌, ◌⊎◌, inl, inr, ℕ, suc, ◌+◌, Bool, true, false, cond, not, List, [], ◌∷◌, ◌++◌, length, get_or, take, Some, refl, sym, ap, ◌∙◌, arith}
use Rattle.std.specs.Prelude.{All, ◌==◌, ◌||◌, ◌&&◌, map, filter, count_by}
use Rattle.std.proofs.lemmas.Bool.{cases_lt}
use Rattle.std.proofs.lemmas.List.{get_or-map, get_or_past, get_or_default, take_more, length-take-le, length-map, map-append, append-nil}
use Rattle.std.proofs.lemmas.List.Elements.{filter-append}
use Rattle.std.proofs.lemmas.List.Sums.{sum_by_push, count_by-le-length}
use Rattle.bl_format.specs.declared.file.Head.{Head}
use Rattle.bl_format.specs.declared.catalogue.Catalogue.{Catalogue}
use Rattle.bl_format.specs.Words.{numbers_below, last_place}
use Rattle.bl_format.specs.Layout.{struct_numbers}
use Rattle.bl_format.specs.Nodes.{File, is_data}
use Rattle.bl_format.specs.Graph.{file_codes}
use Rattle.bl_selection.specs.declared.draft.Entry.TheVariants as entries
use Rattle.bl_selection.specs.Selection.{no_head, index_under, has_struct, head_has_struct, is_kept, own_images}
use Rattle.bl_selection.proofs.EntriesAsNodes.{length-numbers_below}
use Rattle.bl_draft.specs.Numbers.{is_shared, number_at, numbers_under}
use Rattle.bl_draft.specs.Kept.{HasIndex, entries_by}
use Rattle.bl_draft.proofs.ListLemmas.{get_or-by, map-numbers, last_place-push}

-- ---- numbers

-- a number for each struct
pub length-numbers_under : (c from : Catalogue) → length (numbers_under c from) ≡ length from.structs
length-numbers_under c from = length-map (struct_numbers from) (index_under c from) ∙ length-numbers_below (length from.structs)

-- the number of a node's struct stands in the list
pub number-index : (c from : Catalogue) (s : ℕ) → (s ≡ 0) ⊎ (s < length from.structs) → number_at (numbers_under c from) s ≡ index_under c from s
number-index c from s has = elim (cases_lt s (length from.structs)) [
  | inl lt ↦ get_or-by (index_under c from) (length from.structs) s 0 lt
  | inr ge ↦ (get_or_past (numbers_under c from) s 0 (omega (arith, ge, length-numbers_under c from))
      ∙ elim has [
        | inl none ↦ ap (index_under c from) (sym none)
        | inr lt ↦ absurd (omega (arith, lt, ge))
      ])
]

-- the list of numbers says whether a node is raw or of a struct that the catalogue has
pub shared-has_struct : (c from : Catalogue) (x : Head) → HasIndex from x
    → is_shared (numbers_under c from) x.index ≡ has_struct c from x
shared-has_struct c from x has = ap (λ n. x.index == 0 || not (n == 0)) (number-index c from x.index has)

-- ---- flags

-- whether the head of the last group of the first i nodes stays
abbrev pub head_before : Catalogue → File → ℕ → Bool
head_before c f i = head_has_struct c f (last_place (λ code. not (is_data code)) (take i (file_codes f)))

-- what stands after i nodes
pub record KeptSoFar (c : Catalogue) (f : File) (i : ℕ) (stays : Bool) (kept : List Bool) : Type 0 where
  pub head : stays ≡ head_before c f i
  pub flags : kept ≡ map (is_kept c f) (numbers_below i)

head_more : (c : Catalogue) (f : File) (i : ℕ) → i < length f.nodes
    → head_before c f (i + 1)
    ≡ cond (is_data (get_or f.nodes i no_head).code) (head_before c f i) (has_struct c f.catalogue (get_or f.nodes i no_head))
head_more c f i lt =
    let codes = file_codes f in
    let x = get_or f.nodes i no_head in
    let heads : List ℕ → Bool = λ code. not (is_data code) in
    let many : length codes ≡ length f.nodes = length-map f.nodes (λ (y : Head). y.code) in
    let more : take (i + 1) codes ≡ take i codes ++ x.code ∷ [] =
    take_more codes i [] (omega (arith, many, lt))
    ∙ ap (λ (code : List ℕ). take i codes ++ code ∷ []) (get_or-map (λ (y : Head). y.code) f.nodes i no_head [] lt) in
    let long : length (take i codes) ≡ i = length-take-le i codes (omega (arith, many, lt)) in
    ap (λ ks. head_has_struct c f (last_place heads ks)) more
    ∙ ap (head_has_struct c f) (last_place-push heads (take i codes) x.code)
    ∙ ap (λ n. head_has_struct c f (cond (heads x.code) (Some n) (last_place heads (take i codes)))) long
    ∙ by (is_data x.code)
  where
    by : (b : Bool) → head_has_struct c f (cond (not b) (Some i) (last_place (λ code. not (is_data code)) (take i (file_codes f))))
        ≡ cond b (head_before c f i) (has_struct c f.catalogue (get_or f.nodes i no_head))
    by true = refl
    by false = refl

kept_here : (c : Catalogue) (f : File) (i : ℕ)
    → is_kept c f i ≡ (has_struct c f.catalogue (get_or f.nodes i no_head) && head_before c f (i + 1))
unfolding is_kept
kept_here c f i =
    let next : suc i ≡ i + 1 = omega arith in
    ap (λ n. has_struct c f.catalogue (get_or f.nodes i no_head) && head_before c f n) next

-- at the start there is no head
pub kept-none : (c : Catalogue) (f : File) → KeptSoFar c f 0 true []
kept-none c f = record { head = refl; flags = refl }

-- one node more
pub kept-more : (c : Catalogue) (f : File) (shared : List ℕ) (i : ℕ) (stays next own : Bool) (kept : List Bool)
    (d : Head) → All (HasIndex f.catalogue) f.nodes → shared ≡ numbers_under c f.catalogue → i < length f.nodes
    → own ≡ is_shared shared (get_or f.nodes i d).index → next ≡ cond (is_data (get_or f.nodes i d).code) stays own
    → KeptSoFar c f i stays kept → KeptSoFar c f (i + 1) next (kept ++ (own && next) ∷ [])
kept-more c f shared i stays next own kept d all table lt own_is next_is so_far =
    let x = get_or f.nodes i d in
    let y = get_or f.nodes i no_head in
    let is : x ≡ y = get_or_default f.nodes i d no_head lt in
    let own_y : own ≡ has_struct c f.catalogue y =
    own_is ∙ ap (λ ns. is_shared ns x.index) table ∙ ap (λ (z : Head). is_shared (numbers_under c f.catalogue) z.index) is
    ∙ shared-has_struct c f.catalogue y (all i no_head lt) in
    let head : next ≡ head_before c f (i + 1) =
    next_is ∙ ap (λ (z : Head). cond (is_data z.code) stays own) is
    ∙ ap (λ b. cond (is_data y.code) b own) so_far.head
    ∙ ap (λ b. cond (is_data y.code) (head_before c f i) b) own_y ∙ sym (head_more c f i lt) in
    record {
      head = head;
      flags = ap (λ ks. ks ++ (own && next) ∷ []) so_far.flags
          ∙ ap (λ b. map (is_kept c f) (numbers_below i) ++ (b && next) ∷ []) own_y
          ∙ ap (λ b. map (is_kept c f) (numbers_below i) ++ (has_struct c f.catalogue y && b) ∷ []) head
          ∙ ap (λ b. map (is_kept c f) (numbers_below i) ++ b ∷ []) (sym (kept_here c f i))
          ∙ sym (map-numbers (is_kept c f) i);
    }

-- ---- entries

entries-more : (kept : ℕ → Bool) (n : ℕ)
    → entries_by kept (n + 1) ≡ entries_by kept n ++ map (entries.Source 0) (cond (kept n) (n ∷ []) [])
entries-more kept n =
    let next : n + 1 ≡ suc n = omega arith in
    ap (entries_by kept) next
    ∙ ap (map (entries.Source 0)) (filter-append kept (numbers_below n) (n ∷ []))
    ∙ map-append (entries.Source 0) (filter kept (numbers_below n)) (cond (kept n) (n ∷ []) [])

-- one node more that is kept
pub entries-kept : (kept : ℕ → Bool) (n : ℕ) → kept n ≡ true
    → entries_by kept (n + 1) ≡ entries_by kept n ++ entries.Source 0 n ∷ []
entries-kept kept n is =
    entries-more kept n ∙ ap (λ b. entries_by kept n ++ map (entries.Source 0) (cond b (n ∷ []) [])) is

-- one node more that isn't
pub entries-dropped : (kept : ℕ → Bool) (n : ℕ) → kept n ≡ false → entries_by kept (n + 1) ≡ entries_by kept n
entries-dropped kept n is =
    entries-more kept n ∙ ap (λ b. entries_by kept n ++ map (entries.Source 0) (cond b (n ∷ []) [])) is
    ∙ append-nil (entries_by kept n)

-- ---- images

-- the images of the first i nodes, and how many of them are kept
pub record ImagesSoFar (kept : ℕ → Bool) (i before : ℕ) (row : List ℕ) : Type 0 where
  pub count : before ≡ count_by kept (numbers_below i)
  pub images : row ≡ own_images kept i

-- the image of node i, by how many are kept before it
abbrev image_by : (ℕ → Bool) → ℕ → ℕ
image_by kept i = cond (kept i) (suc (count_by kept (numbers_below i))) 0

-- at the start there is none
pub images-none : (kept : ℕ → Bool) → ImagesSoFar kept 0 0 []
images-none kept = record { count = refl; images = refl }

count-more : (kept : ℕ → Bool) (i : ℕ)
    → count_by kept (numbers_below (i + 1)) ≡ count_by kept (numbers_below i) + cond (kept i) 1 0
count-more kept i =
    let next : i + 1 ≡ suc i = omega arith in
    ap (λ n. count_by kept (numbers_below n)) next ∙ sum_by_push (λ k. cond (kept k) 1 0) (numbers_below i) i

counted : (b : Bool) (n : ℕ) → cond b (suc n) n ≡ n + cond b 1 0
counted true n = omega arith
counted false n = omega arith

-- one node more
pub images-more : (kept : ℕ → Bool) (i before after image : ℕ) (row : List ℕ)
    → image ≡ cond (kept i) (suc before) 0 → after ≡ cond (kept i) (suc before) before → ImagesSoFar kept i before row
    → ImagesSoFar kept (i + 1) after (row ++ image ∷ [])
images-more kept i before after image row image_is after_is so_far = record {
  count = after_is ∙ ap (λ n. cond (kept i) (suc n) n) so_far.count
      ∙ counted (kept i) (count_by kept (numbers_below i)) ∙ sym (count-more kept i);
  images = ap (λ ns. ns ++ image ∷ []) so_far.images
      ∙ ap (λ n. own_images kept i ++ n ∷ []) (image_is ∙ ap (λ n. cond (kept i) (suc n) 0) so_far.count)
      ∙ sym (map-numbers (image_by kept) i);
}

-- no more are kept than there are
pub count-few : (kept : ℕ → Bool) (i before : ℕ) (row : List ℕ) → ImagesSoFar kept i before row → before ≤ i
count-few kept i before row so_far =
    omega (arith, so_far.count, count_by-le-length kept (numbers_below i), length-numbers_below i)
