-- By the leaves of a catalogue that say anything it is heard what pointers say, and no leaf says that a node is a pair.
use Rattle.std.proofs.Common.{◌≡◌, ◌≢◌, ◌<◌, ◌≤◌, inl, inr, ℕ, ◌+◌, ◌*◌, Bool, true, false, cond, List, [], ◌∷◌, ◌++◌, length, get_or, drop, Some, None, refl, sym, ap, subst, ◌∙◌, arith}
use Rattle.std.specs.Prelude.{All, ◌==◌, map, flat_map}
use Rattle.std.specs.List.{enumerate_from}
use Rattle.std.proofs.lemmas.Bool.{cases_lt}
use Rattle.std.proofs.lemmas.List.{get_or_past, length-take, length-drop}
use Rattle.std.proofs.lemmas.List.Elements.{All-nil, All-cons, All-append, All-head, All-tail}
use Rattle.std.proofs.lemmas.List.Folds.{flat_map-map}
use Rattle.bl_num.specs.declared.number.Order.{Order}
use Rattle.bl_num.specs.declared.number.Width.{Width}
use Rattle.bl_format.specs.declared.file.Header.{Header}
use Rattle.bl_format.specs.declared.file.Head.{Head}
use Rattle.bl_format.specs.declared.catalogue.Catalogue.{Catalogue}
use Rattle.bl_format.specs.declared.raw.RawKind.{RawKind}
use Rattle.bl_format.specs.declared.raw.RawKind.TheVariants.{Bytes, Numbers, Pointers, Pair}
use Rattle.bl_format.specs.declared.raw.View.{View}
use Rattle.bl_format.specs.Words.{part, numbers_below}
use Rattle.bl_format.specs.Blocks.{head_size}
use Rattle.bl_format.specs.Layout.{HasLayout, leaves_of, struct_length}
use Rattle.bl_format.specs.Nodes.{payload}
use Rattle.bl_format.specs.Graph.{Target, Naming, elements, struct_cells, views_of}
use Rattle.bl_file.specs.declared.speakers.Speaker.{Speaker}
use Rattle.bl_file.specs.Heard.{AreHeard, views_of_target, leaf_heard, element_heard, node_heard, views_heard}
use Rattle.bl_file.specs.Outlines.{IsNodeIn}
use Rattle.bl_file.specs.Seen.{Namings, named_cells, named_views, views_seen}
use Rattle.bl_file.specs.Speakers.{IsHeard, basic_lengths, speaker_number, speakers_of, struct_speakers}
use Rattle.bl_file.specs.Views.{element_at}
use Rattle.bl_file.proofs.IdLemmas.{get_or-by}
use Rattle.bl_file.proofs.NodeViewLaws.{element_in}
use Rattle.bl_file.proofs.PairLemmas.{IsViewed, AreViewed, flat_map_viewed}
use Rattle.bl_file.proofs.ReadLemmas.{HasElements, faultless, element_before}
use Rattle.bl_file.proofs.ViewLaws.{flat_map-below, element_heard-cells}

-- ---- no leaf says that a node is a pair

kind_viewed : (kind : RawKind) → kind ≢ Pair → IsViewed kind
kind_viewed Bytes other = refl
kind_viewed (Numbers n) other = refl
kind_viewed Pointers other = refl
kind_viewed Pair other = absurd (other refl)

target_viewed : (kind : RawKind) (target : Target) → IsViewed kind → AreViewed (views_of_target kind target)
target_viewed kind None viewed = All-nil (λ (v : View). IsViewed v.kind)
target_viewed kind (Some n) viewed =
    All-cons (λ (v : View). IsViewed v.kind) (record { node = n; kind = kind }) [] viewed (All-nil (λ (v : View). IsViewed v.kind))

element_viewed : (names : Naming Target) (order : Order) (n : ℕ) (speakers : List Speaker) (bytes : List ℕ) → All (IsHeard n) speakers
    → AreViewed (element_heard names order speakers bytes)
element_viewed names order n [] bytes all = All-nil (λ (v : View). IsViewed v.kind)
element_viewed names order n (x ∷ xs) bytes all =
    All-append (λ (v : View). IsViewed v.kind) (leaf_heard names order bytes x) (element_heard names order xs bytes)
    (flat_map_viewed (λ k. views_of_target x.kind (names (speaker_number order x bytes k))) (numbers_below x.count)
    (λ k. target_viewed x.kind (names (speaker_number order x bytes k)) (kind_viewed x.kind (All-head (IsHeard n) x xs all).no_pair)))
    (element_viewed names order n xs bytes (All-tail (IsHeard n) x xs all))

-- what can be heard, also of a struct that isn't there
any_heard : (c : Catalogue) (structs : List (List Speaker)) (s : ℕ) → AreHeard c structs → All (IsHeard (struct_length c s)) (get_or structs s [])
any_heard c structs s heard = elim (cases_lt s (length c.structs)) [
  | inl lt ↦ heard.each s lt
  | inr ge ↦ subst (All (IsHeard (struct_length c s))) (sym (get_or_past structs s [] (omega (arith, ge, heard.len)))) (All-nil (IsHeard (struct_length c s)))
]

node_viewed : (structs : List (List Speaker)) (names : Naming Target) (h : Header) (c : Catalogue) (b : List ℕ) (x : Head) (raw : Bool) → AreHeard c structs
    → AreViewed (cond raw [] (flat_map (element_heard names h.order (get_or structs x.index [])) (elements (payload h b x) (struct_length c x.index) x.count)))
node_viewed structs names h c b x true heard = All-nil (λ (v : View). IsViewed v.kind)
node_viewed structs names h c b x false heard =
    flat_map_viewed (element_heard names h.order (get_or structs x.index [])) (elements (payload h b x) (struct_length c x.index) x.count)
    (λ bytes. element_viewed names h.order (struct_length c x.index) (get_or structs x.index []) bytes (any_heard c structs x.index heard))

-- what is heard gives no pair
pub heard_viewed : (structs : List (List Speaker)) (names : Namings) (h : Header) (c : Catalogue) (nodes : List Head) (b : List ℕ)
    → AreHeard c structs → AreViewed (views_heard structs names h c nodes b)
unfolding views_heard
heard_viewed structs names h c nodes b heard =
    flat_map_viewed (λ (p : ℕ × Head). node_heard structs (names p.0) h c b p.1) (enumerate_from 0 nodes)
    (λ p. node_viewed structs (names p.0) h c b p.1 (p.1.index == 0) heard)

-- ---- the leaves of a file's own catalogue

module _ (names : Naming Target) (h : Header) (c : Catalogue) (b : List ℕ) where
  -- the leaves of a node's struct that say anything
  abbrev speakers : Head → List Speaker
  speakers x = speakers_of (basic_lengths c) (leaves_of c h.width x.index)

  own_element : (x : Head) (e : ℕ) → HasLayout c h.width → HasElements c x → x.at + head_size h + x.len ≤ length b → e < x.count
      → element_heard names h.order (speakers x) (part (payload h b x) (e * struct_length c x.index) (struct_length c x.index))
      ≡ views_of c (struct_cells names h.order c h.width x.index (part (payload h b x) (e * struct_length c x.index) (struct_length c x.index)))
  own_element x e has own inside lt =
      let size : ℕ = struct_length c x.index in
      let before : e * size + size ≤ x.count * size = element_before e x.count size lt in
      let fits : e * size + size ≤ x.len = omega (arith, before, own.fits) in
      let whole : length (part b (element_at h c x e) size) ≡ size =
      omega (arith, fits, inside, length-take size (drop (element_at h c x e) b), length-drop (element_at h c x e) b) in
      element_heard-cells c names h.order (part (payload h b x) (e * size) size) h.width x.index has
      (ap (λ (bs : List ℕ). length bs) (element_in h c b x e own lt) ∙ whole)

  own_elements : (x : Head) → HasLayout c h.width → HasElements c x → x.at + head_size h + x.len ≤ length b
      → flat_map (element_heard names h.order (speakers x)) (elements (payload h b x) (struct_length c x.index) x.count)
      ≡ flat_map (views_of c) (named_cells names h c b x)
  own_elements x has own inside =
      let bytes : ℕ → List ℕ = λ e. part (payload h b x) (e * struct_length c x.index) (struct_length c x.index) in
      let cells = λ (bs : List ℕ). struct_cells names h.order c h.width x.index bs in
      flat_map-map (element_heard names h.order (speakers x)) bytes (numbers_below x.count)
      ∙ flat_map-below (λ e. element_heard names h.order (speakers x) (bytes e)) (λ e. views_of c (cells (bytes e))) x.count
      (λ e lt. own_element x e has own inside lt)
      ∙ sym (flat_map-map (views_of c) cells (map bytes (numbers_below x.count))
      ∙ flat_map-map (λ bs. views_of c (cells bs)) bytes (numbers_below x.count))

own_node : (names : Naming Target) (h : Header) (c : Catalogue) (b : List ℕ) (n : ℕ) (x : Head)
    → HasLayout c h.width → IsNodeIn h c n x → length b ≡ n
    → node_heard (struct_speakers c h.width (basic_lengths c)) names h c b x ≡ named_views names h c b x
own_node names h c b n x has stands long = by (x.index == 0) refl
  where
    by : (raw : Bool) → (x.index == 0) ≡ raw
        → cond raw [] (flat_map (element_heard names h.order (get_or (struct_speakers c h.width (basic_lengths c)) x.index [])) (elements (payload h b x) (struct_length c x.index) x.count))
        ≡ cond raw [] (flat_map (views_of c) (named_cells names h c b x))
    by true is = refl
    by false is =
        let own = faultless c x stands.no_fault is in
        ap (λ ss. flat_map (element_heard names h.order ss) (elements (payload h b x) (struct_length c x.index) x.count))
        (get_or-by (λ s. speakers_of (basic_lengths c) (leaves_of c h.width s)) (length c.structs) x.index [] own.struct)
        ∙ own_elements names h c b x has own (omega (arith, stands.fits, long))

own_nodes : (names : Namings) (h : Header) (c : Catalogue) (b : List ℕ) (n i : ℕ) (xs : List Head)
    → HasLayout c h.width → length b ≡ n → All (IsNodeIn h c n) xs
    → flat_map (λ (p : ℕ × Head). node_heard (struct_speakers c h.width (basic_lengths c)) (names p.0) h c b p.1) (enumerate_from i xs)
    ≡ flat_map (λ (p : ℕ × Head). named_views (names p.0) h c b p.1) (enumerate_from i xs)
own_nodes names h c b n i [] has long all = refl
own_nodes names h c b n i (x ∷ xs) has long all =
    let heard : ℕ × Head → List View = λ p. node_heard (struct_speakers c h.width (basic_lengths c)) (names p.0) h c b p.1 in
    let seen : ℕ × Head → List View = λ p. named_views (names p.0) h c b p.1 in
    ap (λ vs. vs ++ flat_map heard (enumerate_from (i + 1) xs)) (own_node (names i) h c b n x has (All-head (IsNodeIn h c n) x xs all) long)
    ∙ ap (λ vs. seen (i, x) ++ vs) (own_nodes names h c b n (i + 1) xs has long (All-tail (IsNodeIn h c n) x xs all))

-- by the leaves of a file's own catalogue it is heard what its pointers say
pub views_heard-views_seen : (names : Namings) (h : Header) (c : Catalogue) (w : Width) (nodes : List Head) (b : List ℕ) (n : ℕ)
    → w ≡ h.width → HasLayout c w → All (IsNodeIn h c n) nodes → length b ≡ n
    → views_heard (struct_speakers c w (basic_lengths c)) names h c nodes b ≡ views_seen names h c nodes b
unfolding views_heard views_seen
views_heard-views_seen names h c w nodes b n width has all long =
    ap (λ v. flat_map (λ (p : ℕ × Head). node_heard (struct_speakers c v (basic_lengths c)) (names p.0) h c b p.1) (enumerate_from 0 nodes)) width
    ∙ own_nodes names h c b n 0 nodes (subst (HasLayout c) width has) long all
