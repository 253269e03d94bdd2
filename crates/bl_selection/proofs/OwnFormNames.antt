-- The selection of a file under its own header and catalogue has all its nodes, each as its own image, so its entries
-- have the codes and groups of the nodes, and an address names from an entry what it names in the file.
use Rattle.std.proofs.Common.{◌≡◌, ℕ, suc, ◌+◌, ◌<◌, Bool, true, false, cond, not, List, [], ◌∷◌, length, get_or, Option, Some, None, refl, sym, ap, ◌∙◌, arith}
use Rattle.std.specs.Prelude.{◌==◌, ◌||◌, ◌&&◌, map, filter, count_by, option_and_then}
use Rattle.std.specs.List.{enumerate_from}
use Rattle.std.specs.Option.{option_or}
use Rattle.std.proofs.Math.Path.{fun_ext}
use Rattle.std.proofs.lemmas.Bool.{and_parts}
use Rattle.std.proofs.lemmas.List.{ext_get_or, get_or-map, length-map}
use Rattle.std.proofs.lemmas.List.FromFn.{length-enumerate_from, get_or-enumerate_from}
use Rattle.std.proofs.lemmas.List.Sums.{length-filter}
use Rattle.bl_format.specs.declared.file.Head.{Head}
use Rattle.bl_format.specs.declared.catalogue.Catalogue.{Catalogue}
use Rattle.bl_format.specs.Words.{numbers_below, last_from, last_place}
use Rattle.bl_format.specs.Nodes.{File, Mark, mark, marks, group_of, is_id, target_of}
use Rattle.bl_format.specs.Graph.{Target, file_codes, file_names}
use Rattle.bl_format.proofs.NewLengths.{map_same}
use Rattle.bl_format.proofs.NumbersBelow.{get_or-by, length-numbers_below}
use Rattle.bl_selection.specs.declared.draft.Draft.{Draft}
use Rattle.bl_selection.specs.declared.draft.Entry.{Entry}
use Rattle.bl_selection.specs.declared.draft.Entry.TheVariants as entries
use Rattle.bl_selection.specs.Selection.{no_head, index_under, entry_code, entry_codes, entry_count, entry_index, entry_at, entry_is_id, image_of, image_numbered, entry_group, target_in_scope, entry_names, has_struct, head_of, head_has_struct, is_kept, kept_nodes, own_images, draft_of, whole_selection}

-- ---- lists

-- what a function gives for place k and the element there
pub at_place : {X Y : Type 0} (f : ℕ × X → Y) (xs : List X) (k : ℕ) (d : X) (e : Y) → k < length xs
    → get_or (map f (enumerate_from 0 xs)) k e ≡ f (k, get_or xs k d)
at_place f xs k d e lt =
    let same : 0 + k ≡ k = omega arith in
    get_or-map f (enumerate_from 0 xs) k (0, d) e (omega (arith, lt, length-enumerate_from 0 xs))
    ∙ ap f (get_or-enumerate_from 0 xs k (0, d) lt) ∙ ap (λ (m : ℕ). f (m, get_or xs k d)) same

filter_all : {X : Type 0} (p : X → Bool) (xs : List X) → ((x : X) → p x ≡ true) → filter p xs ≡ xs
filter_all p [] all = refl
filter_all p (x ∷ xs) all =
    ap (λ b. cond b (x ∷ filter p xs) (filter p xs)) (all x) ∙ ap (λ ys. x ∷ ys) (filter_all p xs all)

count_all : (p : ℕ → Bool) (n : ℕ) → ((k : ℕ) → p k ≡ true) → count_by p (numbers_below n) ≡ n
count_all p n all =
    sym (length-filter p (numbers_below n)) ∙ ap (λ (ks : List ℕ). length ks) (filter_all p (numbers_below n) all)
    ∙ length-numbers_below n

-- ---- what an address names

-- an element that is found as the last that passes, in a list whose first element has number i
record IsFound {X : Type 0} (p : X → Bool) (i : ℕ) (xs : List X) (t : ℕ) (d : X) : Type 0 where
  place : ℕ
  is : t ≡ i + place
  within : place < length xs
  passes : p (get_or xs place d) ≡ true

last_found : {X : Type 0} (p : X → Bool) (i : ℕ) (xs : List X) (t : ℕ) (d : X) → last_from p i xs ≡ Some t → IsFound p i xs t d
last_found p i [] t d e = absurd (cc)
last_found {X} p i (x ∷ xs) t d e = by_later (last_from p (suc i) xs) (λ u later. last_found p (suc i) xs u d later) refl e
  where
    by_first : (b : Bool) → p x ≡ b → cond b (Some i) None ≡ Some t → IsFound p i (x ∷ xs) t d
    by_first true own e =
        let same : i ≡ t = cc in
        record { place = 0; is = omega (arith, same); within = omega arith; passes = own }
    by_first false own e = absurd (cc)

    by_later : (o : Option ℕ) → ((u : ℕ) → last_from p (suc i) xs ≡ Some u → IsFound p (suc i) xs u d) → last_from p (suc i) xs ≡ o
        → option_or o (cond (p x) (Some i) None) ≡ Some t → IsFound p i (x ∷ xs) t d
    by_later None rest later e = by_first (p x) refl e
    by_later (Some u) rest later e =
        let same : u ≡ t = cc in
        let found : IsFound p (suc i) xs u d = rest u later in
        let place = found.place in
        record {
          place = suc place;
          is = omega (arith, same, found.is);
          within = omega (arith, found.within);
          passes = found.passes;
        }

-- what an address names is one of the nodes, of the group or an ID
record IsNamed (ms : List Mark) (g t : ℕ) (d : Mark) : Type 0 where
  within : t < length ms
  in_scope : ((get_or ms t d).group == g || (get_or ms t d).is_an_id) ≡ true

or_true : (a : Bool) → (a || true) ≡ true
or_true true = refl
or_true false = refl

module _ (ms : List Mark) (g address t : ℕ) (d : Mark) where
  in_group : last_place (λ n. n.group == g && n.address == address) ms ≡ Some t → IsNamed ms g t d
  in_group e =
      let found = last_found (λ (n : Mark). n.group == g && n.address == address) 0 ms t d e in
      let place = found.place in
      let is : place ≡ t = omega (arith, found.is) in
      let passes : ((get_or ms t d).group == g && (get_or ms t d).address == address) ≡ true = rw is at found.passes in
      let first : ((get_or ms t d).group == g) ≡ true = (and_parts ((get_or ms t d).group == g) ((get_or ms t d).address == address) passes).0 in
      record { within = omega (arith, found.within, is); in_scope = ap (λ b. b || (get_or ms t d).is_an_id) first }

  an_id : last_place (λ n. n.is_an_id && n.address == address) ms ≡ Some t → IsNamed ms g t d
  an_id e =
      let found = last_found (λ (n : Mark). n.is_an_id && n.address == address) 0 ms t d e in
      let place = found.place in
      let is : place ≡ t = omega (arith, found.is) in
      let passes : ((get_or ms t d).is_an_id && (get_or ms t d).address == address) ≡ true = rw is at found.passes in
      let id : (get_or ms t d).is_an_id ≡ true = (and_parts (get_or ms t d).is_an_id ((get_or ms t d).address == address) passes).0 in
      record {
        within = omega (arith, found.within, is);
        in_scope = ap (λ b. (get_or ms t d).group == g || b) id ∙ or_true ((get_or ms t d).group == g);
      }

  named : target_of ms g address ≡ Some t → IsNamed ms g t d
  unfolding target_of
  named e = by_address (address == 0) e
    where
      by_found : (o p : Option ℕ) → last_place (λ n. n.group == g && n.address == address) ms ≡ o
          → last_place (λ n. n.is_an_id && n.address == address) ms ≡ p → option_or o p ≡ Some t → IsNamed ms g t d
      by_found (Some u) p one other e = in_group (one ∙ e)
      by_found None p one other e = an_id (other ∙ e)

      by_address : (b : Bool) → cond b None (option_or (last_place (λ n. n.group == g && n.address == address) ms) (last_place (λ n. n.is_an_id && n.address == address) ms)) ≡ Some t
          → IsNamed ms g t d
      by_address true e = absurd (cc)
      by_address false e = by_found _ _ refl refl e

-- ---- the selection of all nodes

or_not : (b : Bool) → (b || not b) ≡ true
or_not true = refl
or_not false = refl

-- each node of a file is of a struct that the file's own catalogue has under its number
abbrev pub HaveOwnIndex : File → Type 0
HaveOwnIndex f = (k : ℕ) → index_under f.catalogue f.catalogue (get_or f.nodes k no_head).index ≡ (get_or f.nodes k no_head).index

-- all nodes of a file, each as its own image, under the file's header and catalogue
abbrev pub own_selection : File → Draft
own_selection f =
    draft_of f.header f.catalogue (map (entries.Source 0) (numbers_below (length f.nodes))) (map (λ k. suc k) (numbers_below (length f.nodes)) ∷ [])

module _ (f : File) (own : HaveOwnIndex f) where
  abbrev c : Catalogue
  c = f.catalogue

  abbrev files : List File
  files = f ∷ []

  abbrev d : Draft
  d = own_selection f

  has_struct-own : (k : ℕ) → has_struct c c (get_or f.nodes k no_head) ≡ true
  has_struct-own k =
      let x : Head = get_or f.nodes k no_head in
      ap (λ (s : ℕ). x.index == 0 || not (s == 0)) (own k) ∙ or_not (x.index == 0)

  head_has_struct-own : (o : Option ℕ) → head_has_struct c f o ≡ true
  head_has_struct-own None = refl
  head_has_struct-own (Some k) = has_struct-own k

  is_kept-own : (k : ℕ) → is_kept c f k ≡ true
  unfolding is_kept
  is_kept-own k = λ i. has_struct-own k i && head_has_struct-own (head_of (file_codes f) k) i

  -- under its own catalogue all nodes of a file are kept
  pub whole_selection-own : whole_selection f f.header c ≡ d
  whole_selection-own =
      let n : ℕ = length f.nodes in
      let kept : ℕ → Bool = is_kept c f in
      let nodes : kept_nodes c f ≡ numbers_below n = filter_all kept (numbers_below n) is_kept-own in
      let images : own_images kept n ≡ map (λ k. suc k) (numbers_below n) =
      map_same (λ k. cond (kept k) (suc (count_by kept (numbers_below k))) 0) (λ k. suc k) n
      (λ k lt. ap (λ b. cond b (suc (count_by kept (numbers_below k))) 0) (is_kept-own k) ∙ ap suc (count_all kept k is_kept-own)) in
      λ i. draft_of f.header c (map (entries.Source 0) (nodes i)) (images i ∷ [])

  -- ---- its entries

  pub length-entries : length d.entries ≡ length f.nodes
  length-entries = length-map (numbers_below (length f.nodes)) _ ∙ length-numbers_below (length f.nodes)

  pub entry_at-own : (k : ℕ) → k < length f.nodes → entry_at d k ≡ entries.Source 0 k
  entry_at-own k lt = get_or-by (entries.Source 0) (length f.nodes) k (entries.Raw [] []) lt

  image_of-own : (k : ℕ) → k < length f.nodes → image_of d 0 k ≡ Some k
  image_of-own k lt = ap image_numbered (get_or-by (λ k. suc k) (length f.nodes) k 0 lt)

  -- they have the codes of the nodes
  pub codes-own : entry_codes files d ≡ file_codes f
  codes-own =
      ext_get_or [] (entry_codes files d) (file_codes f)
      (length-map d.entries _ ∙ length-entries ∙ sym (length-map f.nodes _))
      (λ k below.
      let lt : k < length f.nodes = omega (arith, below, length-map d.entries (entry_code files), length-entries) in
      get_or-map (entry_code files) d.entries k (entries.Raw [] []) [] (omega (arith, lt, length-entries))
      ∙ ap (entry_code files) (entry_at-own k lt)
      ∙ sym (get_or-map (λ (x : Head). x.code) f.nodes k no_head [] lt))

  -- and are IDs where they are
  is_id-own : (k : ℕ) → k < length f.nodes
      → entry_is_id files d k ≡ is_id c (get_or f.nodes k no_head).code (get_or f.nodes k no_head).count (get_or f.nodes k no_head).index
  unfolding entry_is_id
  is_id-own k lt =
      let x : Head = get_or f.nodes k no_head in
      ap (λ (y : Entry). is_id c (entry_code files y) (entry_count files y) (entry_index files c y)) (entry_at-own k lt)
      ∙ ap (is_id c x.code x.count) (own k)

  mark-own : (k : ℕ) → k < length f.nodes → get_or (marks f) k (mark f 0 no_head) ≡ mark f k (get_or f.nodes k no_head)
  unfolding marks
  mark-own k lt = at_place (λ (p : ℕ × Head). mark f p.0 p.1) f.nodes k no_head (mark f 0 no_head) lt

  length-marks : length (marks f) ≡ length f.nodes
  unfolding marks
  length-marks = length-map (enumerate_from 0 f.nodes) _ ∙ length-enumerate_from 0 f.nodes

  -- ---- what an address names

  -- what an address names in the group of entry e is in scope of that entry
  in_scope-own : (e t : ℕ) → IsNamed (marks f) (group_of (file_codes f) e) t (mark f 0 no_head) → target_in_scope files d e t ≡ Some t
  in_scope-own e t is =
      let g : ℕ = group_of (file_codes f) e in
      let lt : t < length f.nodes = omega (arith, is.within, length-marks) in
      let scope : (group_of (file_codes f) t == g || is_id c (get_or f.nodes t no_head).code (get_or f.nodes t no_head).count (get_or f.nodes t no_head).index) ≡ true =
      ap (λ (m : Mark). m.group == g || m.is_an_id) (sym (mark-own t lt)) ∙ is.in_scope in
      let same : (entry_group files d t == entry_group files d e || entry_is_id files d t)
      ≡ (group_of (file_codes f) t == g || is_id c (get_or f.nodes t no_head).code (get_or f.nodes t no_head).count (get_or f.nodes t no_head).index) =
      λ i. group_of (codes-own i) t == group_of (codes-own i) e || is_id-own t lt i in
      ap (λ b. cond b (Some t) None) (same ∙ scope)

  named-own : (e : ℕ) (o : Target) → ((t : ℕ) → o ≡ Some t → IsNamed (marks f) (group_of (file_codes f) e) t (mark f 0 no_head))
      → option_and_then (target_in_scope files d e) (option_and_then (image_of d 0) o) ≡ o
  named-own e None is = refl
  named-own e (Some t) is =
      let own : IsNamed (marks f) (group_of (file_codes f) e) t (mark f 0 no_head) = is t refl in
      ap (option_and_then (target_in_scope files d e)) (image_of-own t (omega (arith, own.within, length-marks))) ∙ in_scope-own e t own

  -- from an entry an address names what it names in the file
  pub names-own : (k : ℕ) → entry_names files d k 0 k ≡ file_names f (group_of (file_codes f) k)
  unfolding entry_names
  names-own k =
      fun_ext (λ (address : ℕ).
      named-own k (file_names f (group_of (file_codes f) k) address)
      (λ t e. named (marks f) (group_of (file_codes f) k) address t (mark f 0 no_head) e))
