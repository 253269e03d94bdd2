-- What a well-formed draft over one file says of its entries and images, for code that goes over them.
use Rattle.std.proofs.Common.{◌≡◌, ℕ, ◌+◌, ◌^◌, ◌<◌, ◌≤◌, Bool, true, false, cond, All, List, [], ◌∷◌, length, get_or, Some, None, refl, sym, ap, subst, ◌∙◌, arith, inl, inr, eqb-true}
use Rattle.std.specs.Prelude.{◌==◌, ◌&&◌, nat_le, nat_lt, zip}
use Rattle.std.specs.List.{list_all, enumerate_from, position_from}
use Rattle.std.proofs.lemmas.Bool.{ltb-true, leb-true, ne_eqb, cases_lt, and_parts}
use Rattle.std.proofs.lemmas.List.FromFn.{length-enumerate_from, get_or-enumerate_from}
use Rattle.std.proofs.lemmas.List.Elements.{All-head, All-tail, All-map, All-filter, All-weaker, filter_passes}
use Rattle.std.proofs.lemmas.List.Sums.{AllPass-from_list_all}
use Rattle.bl_format.specs.declared.file.Header.{Header}
use Rattle.bl_format.specs.declared.catalogue.Catalogue.{Catalogue}
use Rattle.bl_format.specs.Words.{numbers_below, first_place}
use Rattle.bl_format.specs.Nodes.{File, group_of}
use Rattle.bl_format.specs.Graph.{file_codes}
use Rattle.bl_selection.specs.declared.draft.Draft.{Draft}
use Rattle.bl_selection.specs.declared.draft.Entry.{Entry}
use Rattle.bl_selection.specs.declared.draft.Entry.TheVariants as entries
use Rattle.bl_selection.specs.Selection.{is_kept, selection_views, kept_nodes, whole_selection}
use Rattle.bl_selection.specs.Drafts.{kept_in_group, is_good_source, has_good_images, is_good_entry, is_well_formed}
use Rattle.bl_selection.proofs.CellsFit.{numbers_below-lt}

-- an entry is a node of the first file
abbrev pub IsSource0 : Entry → Type 0
IsSource0 (entries.Source i n) = i ≡ 0
IsSource0 (entries.Made m) = ⊥
IsSource0 (entries.Raw code bytes) = ⊥

-- ---- the parts of the test

-- the entries are few, and they and the images are good
record HasGoodParts (files : List File) (d : Draft) : Type 0 where
  few : nat_lt (length d.entries) (2 ^ 32) ≡ true
  images : has_good_images files d ≡ true
  each : list_all (λ (p : ℕ × Entry). is_good_entry files d (selection_views files d) p.0 p.1) (enumerate_from 0 d.entries) ≡ true

good_parts : (files : List File) (d : Draft) → is_well_formed files d ≡ true → HasGoodParts files d
unfolding is_well_formed
good_parts files d is =
    let one = and_parts _ _ is in
    let two = and_parts _ _ one.0 in
    let three = and_parts _ _ two.0 in
    let four = and_parts _ _ three.0 in
    record { few = four.0; images = four.1; each = three.1 }

-- ---- entries and images

-- a well-formed draft has fewer than 2^32 entries
pub entries-few : (files : List File) (d : Draft) → is_well_formed files d ≡ true → length d.entries < 2 ^ 32
entries-few files d is = ltb-true (length d.entries) (2 ^ 32) (good_parts files d is).few

-- one row of images, and that one good
record IsGoodRow (f : File) (most : ℕ) (rows : List (List ℕ)) : Type 0 where
  one : rows ≡ get_or rows 0 [] ∷ []
  long : length (get_or rows 0 []) ≡ length f.nodes
  within : All (λ image. image ≤ most) (get_or rows 0 [])

module _ (f : File) (most : ℕ) where
  -- a row has an image for each node of its file, each at most a number
  abbrev is_good : File × List ℕ → Bool
  is_good p = length p.1 == length p.0.nodes && list_all (λ x. nat_le x most) p.1

  good_row : (rows : List (List ℕ)) → (length rows == 1 && list_all is_good (zip (f ∷ []) rows)) ≡ true → IsGoodRow f most rows
  good_row [] is = absurd (cc)
  good_row (row ∷ other ∷ rows) is =
      let many : length (row ∷ other ∷ rows) ≡ 1 = eqb-true (length (row ∷ other ∷ rows)) 1 (and_parts (length (row ∷ other ∷ rows) == 1) (list_all is_good (zip (f ∷ []) (row ∷ other ∷ rows))) is).0 in
      absurd (omega (arith, many))
  good_row (row ∷ []) is =
      let parts = and_parts (length row == length f.nodes) (list_all (λ x. nat_le x most) row) (and_parts (is_good (f, row)) true is).0 in
      record {
        one = refl;
        long = eqb-true (length row) (length f.nodes) parts.0;
        within = All-weaker (λ x. nat_le x most ≡ true) (λ x. x ≤ most) (λ x le. leb-true x most le) row (AllPass-from_list_all (λ x. nat_le x most) row parts.1);
      }

module _ (f : File) (d : Draft) (is : is_well_formed (f ∷ []) d ≡ true) where
  row_is_good : IsGoodRow f (length d.entries) d.images
  row_is_good = good_row f (length d.entries) d.images (good_parts (f ∷ []) d is).images

  -- a well-formed draft over one file has one list of images
  pub images-one : d.images ≡ get_or d.images 0 [] ∷ []
  images-one = row_is_good.one

  -- it is as long as the file's nodes
  pub images-long : length (get_or d.images 0 []) ≡ length f.nodes
  images-long = row_is_good.long

  -- each image is at most the number of entries
  pub images-within : All (λ image. image ≤ length d.entries) (get_or d.images 0 [])
  images-within = row_is_good.within

-- ---- nodes of entries

position_from-none : {X : Type 0} (p : X → Bool) (i : ℕ) (xs : List X) → All (λ x. p x ≡ false) xs → position_from p i xs ≡ None
position_from-none p i [] none = refl
position_from-none p i (x ∷ xs) none =
    ap (λ b. cond b (Some i) (position_from p (i + 1) xs)) (All-head (λ y. p y ≡ false) x xs none)
    ∙ position_from-none p (i + 1) xs (All-tail (λ y. p y ≡ false) x xs none)

-- a good source of the file is one of its nodes
good_source-within : (f : File) (d : Draft) (e n : ℕ) → is_good_source (f ∷ []) d e 0 n ≡ true → n < length f.nodes
good_source-within f d e n is = elim (cases_lt n (length f.nodes)) [
  | inl lt ↦ lt
  | inr le ↦ (
      let most : ℕ = length f.nodes in
      let below : All (λ m. m < most) (kept_in_group f d n) = All-filter _ (λ m. m < most) (numbers_below most) (numbers_below-lt most) in
      let none : first_place (λ m. m == n) (kept_in_group f d n) ≡ None =
      position_from-none (λ m. m == n) 0 (kept_in_group f d n) (All-weaker (λ m. m < most) (λ m. (m == n) ≡ false) (λ m lt. ne_eqb m n (λ same. absurd (omega (arith, same, lt, le)))) (kept_in_group f d n) below) in
      let never : false ≡ true = rw none at is in
      absurd (cc))
]

-- a node of node n's group is kept
abbrev is_with : File → Draft → ℕ → ℕ → Bool
is_with f d n m = group_of (file_codes f) m == group_of (file_codes f) n && is_kept d.catalogue f m

with_is_kept : (f : File) (d : Draft) (n m : ℕ) → is_with f d n m ≡ true → is_kept d.catalogue f m ≡ true
with_is_kept f d n m pass = (and_parts (group_of (file_codes f) m == group_of (file_codes f) n) (is_kept d.catalogue f m) pass).1

all_kept : (f : File) (d : Draft) (n : ℕ) → All (λ m. is_kept d.catalogue f m ≡ true) (kept_in_group f d n)
all_kept f d n =
    All-weaker (λ m. is_with f d n m ≡ true) (λ m. is_kept d.catalogue f m ≡ true) (λ m pass. with_is_kept f d n m pass) (kept_in_group f d n)
    (filter_passes (is_with f d n) (numbers_below (length f.nodes)))

-- it is one that the draft's catalogue keeps
good_source-kept : (f : File) (d : Draft) (e n : ℕ) → is_good_source (f ∷ []) d e 0 n ≡ true → is_kept d.catalogue f n ≡ true
good_source-kept f d e n is = by (is_kept d.catalogue f n) refl
  where
    by : (kept : Bool) → is_kept d.catalogue f n ≡ kept → kept ≡ true
    by true own = refl
    by false own =
        let none : first_place (λ m. m == n) (kept_in_group f d n) ≡ None =
        position_from-none (λ m. m == n) 0 (kept_in_group f d n)
        (All-weaker (λ m. is_kept d.catalogue f m ≡ true) (λ m. (m == n) ≡ false)
        (λ m kept. ne_eqb m n (λ (same : m ≡ n). let both : true ≡ false = sym kept ∙ ap (λ (k : ℕ). is_kept d.catalogue f k) same ∙ own in absurd (cc)))
        (kept_in_group f d n) (all_kept f d n)) in
        let never : false ≡ true = rw none at is in
        never

module _ (f : File) (d : Draft) (e n : ℕ) (other : Entry) (is : is_well_formed (f ∷ []) d ≡ true) (lt : e < length d.entries) (at : get_or d.entries e other ≡ entries.Source 0 n) where
  -- an entry of a well-formed draft is good
  good_here : is_good_source (f ∷ []) d e 0 n ≡ true
  unfolding is_good_entry
  good_here =
      let views = selection_views (f ∷ []) d in
      let zero_more : 0 + e ≡ e = omega arith in
      let good : is_good_entry (f ∷ []) d views (get_or (enumerate_from 0 d.entries) e (0, other)).0 (get_or (enumerate_from 0 d.entries) e (0, other)).1 ≡ true =
      AllPass-from_list_all (λ (p : ℕ × Entry). is_good_entry (f ∷ []) d views p.0 p.1) (enumerate_from 0 d.entries) (good_parts (f ∷ []) d is).each e (0, other) (omega (arith, lt, length-enumerate_from 0 d.entries)) in
      sym (ap (λ (q : ℕ × Entry). is_good_entry (f ∷ []) d views q.0 q.1) (get_or-enumerate_from 0 d.entries e (0, other) lt)
      ∙ ap (λ (k : ℕ). is_good_entry (f ∷ []) d views k (get_or d.entries e other)) zero_more
      ∙ ap (λ (x : Entry). is_good_entry (f ∷ []) d views e x) at) ∙ good

  -- in a well-formed draft over one file an entry of a node of file 0 is of a node that the draft's catalogue keeps
  pub source-kept : is_kept d.catalogue f n ≡ true
  source-kept = good_source-kept f d e n good_here

-- in a well-formed draft over one file an entry of a node of file 0 is of one of the file's nodes
pub source-within : (f : File) (d : Draft) (e n : ℕ) (other : Entry) → is_well_formed (f ∷ []) d ≡ true
    → e < length d.entries → get_or d.entries e other ≡ entries.Source 0 n → n < length f.nodes
source-within f d e n other is lt at = good_source-within f d e n (good_here f d e n other is lt at)

-- where all entries are nodes of that file, an entry of a node has file 0 and one of the file's nodes
pub source-node : (f : File) (d : Draft) (e i n : ℕ) (other : Entry) → is_well_formed (f ∷ []) d ≡ true → All IsSource0 d.entries
    → e < length d.entries → get_or d.entries e other ≡ entries.Source i n → (i ≡ 0) × (n < length f.nodes)
source-node f d e i n other is sources lt at =
    let file : i ≡ 0 = subst IsSource0 at (sources e other lt) in
    (file, source-within f d e n other is lt (at ∙ ap (λ (k : ℕ). entries.Source k n) file))

-- an entry that is a node of the first file is one by its number
pub source-named : (x : Entry) → IsSource0 x → (n : ℕ) × (x ≡ entries.Source 0 n)
source-named (entries.Source i n) is = (n, ap (λ (k : ℕ). entries.Source k n) is)
source-named (entries.Made m) is = absurd is
source-named (entries.Raw code bytes) is = absurd is

-- an entry is one of the nodes of the first file
abbrev pub IsNode0 : File → Entry → Type 0
IsNode0 f (entries.Source i n) = (i ≡ 0) × (n < length f.nodes)
IsNode0 f (entries.Made m) = ⊥
IsNode0 f (entries.Raw code bytes) = ⊥

-- in a well-formed draft of nodes of that file all entries are
pub nodes-within : (f : File) (d : Draft) → is_well_formed (f ∷ []) d ≡ true → All IsSource0 d.entries → All (IsNode0 f) d.entries
nodes-within f d formed sources e other lt =
    let source = source-named (get_or d.entries e other) (sources e other lt) in
    subst (IsNode0 f) (sym source.1) (refl, source-within f d e source.0 other formed lt source.1)

-- the selection of all nodes of a file has nodes of the first file alone
pub whole-sources : (f : File) (h : Header) (c : Catalogue) → All IsSource0 (whole_selection f h c).entries
whole-sources f h c = All-map IsSource0 (entries.Source 0) (kept_nodes c f) (λ i d lt. refl)
