-- The selection of all nodes of a file that a catalogue keeps is well-formed.
use Rattle.std.proofs.Common.{◌≡◌, ℕ, suc, ◌+◌, ◌-◌, ◌^◌, ◌<◌, ◌≤◌, Bool, true, cond, List, [], ◌∷◌, length, get_or, drop, Option, Some, None, refl, ap, ◌∙◌, arith}
use Rattle.std.specs.Prelude.{◌==◌, ◌&&◌, ◌||◌, nat_le, nat_lt, count_by, is_some}
use Rattle.std.specs.List.{list_all, enumerate_from}
use Rattle.std.proofs.lemmas.Bool.{le-leb, le-ltb, lt-ltb, eq-eqb, and_from}
use Rattle.std.proofs.lemmas.List.{get_or-map, length-map}
use Rattle.std.proofs.lemmas.List.FromFn.{length-enumerate_from, get_or-enumerate_from}
use Rattle.std.proofs.lemmas.List.Elements.{All-weaker}
use Rattle.std.proofs.lemmas.List.Sums.{list_all-from_AllPass}
use Rattle.bl_format.specs.declared.file.Header.{Header}
use Rattle.bl_format.specs.declared.catalogue.Catalogue.{Catalogue}
use Rattle.bl_format.specs.declared.raw.View.{View}
use Rattle.bl_format.specs.Words.{numbers_below, first_place}
use Rattle.bl_format.specs.Nodes.{File, group_of}
use Rattle.bl_format.specs.Graph.{file_codes}
use Rattle.bl_format.proofs.NumbersBelow.{get_or-numbers_below, length-numbers_below}
use Rattle.bl_selection.specs.declared.draft.Draft.{Draft}
use Rattle.bl_selection.specs.declared.draft.Entry.{Entry}
use Rattle.bl_selection.specs.declared.draft.Entry.TheVariants as entries
use Rattle.bl_selection.specs.Selection.{image_of, image_numbered, head_of, is_kept, kept_nodes, own_images, whole_selection, selection_views}
use Rattle.bl_selection.specs.Drafts.{kept_in_group, are_sources, is_good_source, has_good_images, is_good_entry, is_well_formed}
use Rattle.bl_selection.proofs.RebuiltStands.{at_most, few_entries, entry_number, all_kept}
use Rattle.bl_selection.proofs.GroupRuns.{filter-both, filter-none, Rises, Rises-numbers_below, Rises-filter, passed_before, InGroup, numbers_in, numbers_under, side_by_side, in_group, group_of-rise, group_of-no_head}

all_four : (a b c d : Bool) → a ≡ true → b ≡ true → c ≡ true → d ≡ true → (a && b && c && d) ≡ true
all_four a b c d p q r s = and_from (a && b && c) d (and_from (a && b) c (and_from a b p q) r) s

-- a group has a head, or its nodes stand at the very front
front_or_headed : (o : Option ℕ) (e j : ℕ) → (o ≡ None → e ≡ j) → (is_some o || e == j) ≡ true
front_or_headed None e j front = eq-eqb e j (front refl)
front_or_headed (Some h) e j front = refl

module _ (f : File) (h : Header) (c : Catalogue) where
  abbrev d : Draft
  d = whole_selection f h c

  abbrev group : ℕ → ℕ
  group = group_of (file_codes f)

  -- ---- images

  image_at : (n : ℕ) → n < length f.nodes → is_kept c f n ≡ true → image_of d 0 n ≡ Some (count_by (is_kept c f) (numbers_below n))
  image_at n lt kept =
      let image : ℕ → ℕ = λ k. cond (is_kept c f k) (suc (count_by (is_kept c f) (numbers_below k))) 0 in
      ap image_numbered
      (get_or-map image (numbers_below (length f.nodes)) n 0 0 (omega (arith, lt, length-numbers_below (length f.nodes)))
      ∙ ap image (get_or-numbers_below (length f.nodes) n 0 lt)
      ∙ ap (λ b. cond b (suc (count_by (is_kept c f) (numbers_below n))) 0) kept)

  images_good : has_good_images (f ∷ []) d ≡ true
  images_good =
      let images : List ℕ = own_images (is_kept c f) (length f.nodes) in
      let long : length images ≡ length f.nodes = length-map (numbers_below (length f.nodes)) _ ∙ length-numbers_below (length f.nodes) in
      let within : list_all (λ x. nat_le x (length d.entries)) images ≡ true =
      list_all-from_AllPass (λ x. nat_le x (length d.entries)) images
      (All-weaker (λ x. x ≤ count_by (is_kept c f) (numbers_below (length f.nodes))) (λ x. nat_le x (length d.entries) ≡ true) (λ x le. le-leb x (length d.entries) (omega (arith, le, entry_number f h c))) images (at_most (is_kept c f) (length f.nodes))) in
      and_from (length images == length f.nodes && list_all (λ x. nat_le x (length d.entries)) images) true
      (and_from (length images == length f.nodes) _ (eq-eqb (length images) (length f.nodes) long) within) refl

  -- ---- entries

  rising : Rises (kept_nodes c f)
  rising = Rises-filter (is_kept c f) (numbers_below (length f.nodes)) (Rises-numbers_below (length f.nodes))

  in_group_of : (n : ℕ) → kept_in_group f d n ≡ numbers_in group (group n) (kept_nodes c f)
  in_group_of n = filter-both (λ m. group m == group n) (is_kept c f) (numbers_below (length f.nodes))

  -- no node is in a group below that of a node without a head
  no_lower : (n : ℕ) → head_of (file_codes f) n ≡ None → numbers_under group (group n) (kept_nodes c f) ≡ []
  no_lower n none =
      let least : group n ≡ 0 = group_of-no_head (file_codes f) n none in
      filter-none (λ m. nat_lt (group m) (group n)) (kept_nodes c f)
      (λ i k lt. le-ltb (group (get_or (kept_nodes c f) i k)) (group n) (omega (arith, least)))

  source_by_place : (e n : ℕ) → n < length f.nodes → is_kept c f n ≡ true → count_by (is_kept c f) (numbers_below n) ≡ e
      → InGroup n 0 e (numbers_in group (group n) (kept_nodes c f)) (numbers_under group (group n) (kept_nodes c f))
      → is_good_source (f ∷ []) d e 0 n ≡ true
  source_by_place e n lt kept before stands =
      let j : ℕ = stands.place in
      let is = stands.is in
      let nodes : List ℕ = numbers_in group (group n) (kept_nodes c f) in
      let lower : List ℕ = numbers_under group (group n) (kept_nodes c f) in
      let start : 0 + j ≡ j = omega arith in
      let found : first_place (λ m. m == n) (kept_in_group f d n) ≡ Some j = ap (first_place (λ m. m == n)) (in_group_of n) ∙ stands.found ∙ ap Some start in
      let behind : e - j ≡ length lower = omega (arith, is) in
      let around : are_sources 0 (kept_in_group f d n) (drop (e - j) d.entries) ≡ true =
      ap (λ ns. are_sources 0 ns (drop (e - j) d.entries)) (in_group_of n)
      ∙ ap (λ (k : ℕ). are_sources 0 nodes (drop k d.entries)) behind
      ∙ side_by_side group (group_of-rise (file_codes f)) (group n) (kept_nodes c f) rising in
      let headed : (is_some (head_of (file_codes f) n) || e == j) ≡ true =
      front_or_headed (head_of (file_codes f) n) e j (λ none. is ∙ ap (λ (ks : List ℕ). length ks + j) (no_lower n none) ∙ start) in
      let image : image_of d 0 n ≡ Some e = image_at n lt kept ∙ ap Some before in
      rw (found, image) (all_four (nat_le j e) _ _ (e == e) (le-leb j e (omega (arith, is))) around headed (eq-eqb e e refl))

  source_good : (e : ℕ) → e < length (kept_nodes c f) → is_good_source (f ∷ []) d e 0 (get_or (kept_nodes c f) e 0) ≡ true
  source_good e lt =
      let n : ℕ = get_or (kept_nodes c f) e 0 in
      let own = all_kept f h c e 0 lt in
      source_by_place e n own.0 own.1 (passed_before (is_kept c f) (length f.nodes) e lt)
      (in_group group (group_of-rise (file_codes f)) (group n) n refl (kept_nodes c f) 0 e rising lt refl)

  entries_good : (views : List View) → list_all (λ (p : ℕ × Entry). is_good_entry (f ∷ []) d views p.0 p.1) (enumerate_from 0 d.entries) ≡ true
  unfolding is_good_entry
  entries_good views =
      list_all-from_AllPass (λ (p : ℕ × Entry). is_good_entry (f ∷ []) d views p.0 p.1) (enumerate_from 0 d.entries)
      (λ e p lt.
      let within : e < length d.entries = omega (arith, lt, length-enumerate_from 0 d.entries) in
      let below : e < length (kept_nodes c f) = omega (arith, within, length-map (kept_nodes c f) (entries.Source 0)) in
      let zero_more : 0 + e ≡ e = omega arith in
      ap (λ (q : ℕ × Entry). is_good_entry (f ∷ []) d views q.0 q.1) (get_or-enumerate_from 0 d.entries e p within)
      ∙ ap (λ (k : ℕ). is_good_entry (f ∷ []) d views k (get_or d.entries e p.1)) zero_more
      ∙ ap (λ (x : Entry). is_good_entry (f ∷ []) d views e x) (get_or-map (entries.Source 0) (kept_nodes c f) e 0 p.1 below)
      ∙ source_good e below)

-- ---- the law

-- the selection of all nodes of a file that a catalogue keeps is well-formed
pub whole_selection-well_formed : (f : File) (h : Header) (c : Catalogue) → suc (length f.nodes) < 2 ^ 32
    → is_well_formed (f ∷ []) (whole_selection f h c) ≡ true
unfolding is_well_formed
whole_selection-well_formed f h c few =
    let few_enough : nat_lt (length (whole_selection f h c).entries) (2 ^ 32) ≡ true = lt-ltb (length (whole_selection f h c).entries) (2 ^ 32) (omega (arith, few, few_entries f h c)) in
    and_from _ true
    (and_from _ true
    (and_from _ _ (and_from _ _ few_enough (images_good f h c)) (entries_good f h c (selection_views (f ∷ []) (whole_selection f h c)))) refl) refl
