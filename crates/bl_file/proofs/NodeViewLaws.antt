-- The views that are gathered of nodes are those that they say of raw nodes.
use Rattle.std.proofs.Common.{◌≡◌, ◌<◌, ◌≤◌, ℕ, ◌+◌, ◌*◌, Bool, true, false, cond, List, [], ◌∷◌, ◌++◌, length, get_or, take, drop, Some, None, refl, sym, ap, ◌∙◌, ◌-◌, arith}
use Rattle.std.specs.Prelude.{All, ◌==◌, flat_map}
use Rattle.std.specs.List.{enumerate_from}
use Rattle.std.proofs.lemmas.List.{drop-take, take-take, drop-drop, take_all}
use Rattle.std.proofs.lemmas.List.Elements.{All-head, All-tail, filter-append}
use Rattle.std.proofs.lemmas.List.Folds.{flat_map-map}
use Rattle.std.proofs.Math.Path.{fun_ext}
use Rattle.bl_num.specs.declared.number.Order.{Order}
use Rattle.bl_format.specs.declared.file.Header.{Header}
use Rattle.bl_format.specs.declared.file.Head.{Head}
use Rattle.bl_format.specs.declared.catalogue.Catalogue.{Catalogue}
use Rattle.bl_format.specs.declared.raw.RawKind.{RawKind}
use Rattle.bl_format.specs.declared.raw.View.{View}
use Rattle.bl_format.specs.Words.{part, numbers_below}
use Rattle.bl_format.specs.Blocks.{head_size}
use Rattle.bl_format.specs.Layout.{struct_length}
use Rattle.bl_format.specs.Nodes.{payload}
use Rattle.bl_format.specs.Graph.{Target, Naming, elements}
use Rattle.bl_file.specs.declared.speakers.Speaker.{Speaker}
use Rattle.bl_file.specs.Heard.{views_of_target, leaf_heard, element_heard, node_heard, views_heard}
use Rattle.bl_file.specs.Outlines.{IsNodeIn}
use Rattle.bl_file.specs.Seen.{Namings}
use Rattle.bl_file.specs.Speakers.{speaker_number}
use Rattle.bl_file.specs.Views.{is_raw, raw_only, raw_target, speaker_views, speakers_views, element_at, element_said, elements_said, node_said}
use Rattle.bl_file.proofs.ReadLemmas.{HasElements, faultless, element_before}
use Rattle.bl_file.proofs.ViewLaws.{flat_map-below, filter-flat_map}

-- ---- leaves

kept_one : (n : ℕ) (kind : RawKind) (b : Bool)
    → cond b (record { node = n; kind = kind } ∷ []) [] ≡ views_of_target kind (cond b (Some n) None)
kept_one n kind true = refl
kept_one n kind false = refl

-- what is kept of the view of a target
pub raw_of_target : (nodes : List Head) (kind : RawKind) (target : Target)
    → raw_only nodes (views_of_target kind target) ≡ views_of_target kind (raw_target nodes target)
raw_of_target nodes kind None = refl
raw_of_target nodes kind (Some n) = kept_one n kind (is_raw nodes n)

raw_of_leaf : (nodes : List Head) (names : Naming Target) (order : Order) (bytes : List ℕ) (x : Speaker)
    → speaker_views nodes names order bytes x ≡ raw_only nodes (leaf_heard names order bytes x)
raw_of_leaf nodes names order bytes x =
    let said : ℕ → List View = λ k. views_of_target x.kind (names (speaker_number order x bytes k)) in
    sym (filter-flat_map (λ (v : View). is_raw nodes v.node) said (numbers_below x.count)
    ∙ ap (λ f. flat_map f (numbers_below x.count)) (fun_ext (λ k. raw_of_target nodes x.kind (names (speaker_number order x bytes k)))))

raw_of_element : (nodes : List Head) (names : Naming Target) (order : Order) (speakers : List Speaker) (bytes : List ℕ)
    → speakers_views nodes names order bytes speakers ≡ raw_only nodes (element_heard names order speakers bytes)
raw_of_element nodes names order speakers bytes =
    sym (filter-flat_map (λ (v : View). is_raw nodes v.node) (leaf_heard names order bytes) speakers
    ∙ ap (λ f. flat_map f speakers) (fun_ext (λ x. sym (raw_of_leaf nodes names order bytes x))))

-- ---- nodes

-- a part of a part
pub part_in : (xs : List ℕ) (at n off m : ℕ) → off + m ≤ n → part (part xs at n) off m ≡ part xs (at + off) m
part_in xs at n off m le =
    let cut : n ≡ off + (n - off) = omega (arith, le) in
    ap (λ k. take m (drop off (take k (drop at xs)))) cut
    ∙ ap (take m) (drop-take off (n - off) (drop at xs))
    ∙ take-take m (n - off) (drop off (drop at xs)) (omega (arith, le))
    ∙ ap (take m) (drop-drop off at xs)

-- an element stands in its node's payload
pub element_in : (h : Header) (c : Catalogue) (b : List ℕ) (x : Head) (e : ℕ) → HasElements c x → e < x.count
    → part (payload h b x) (e * struct_length c x.index) (struct_length c x.index) ≡ part b (element_at h c x e) (struct_length c x.index)
element_in h c b x e own lt =
    let size : ℕ = struct_length c x.index in
    let before : e * size + size ≤ x.count * size = element_before e x.count size lt in
    part_in b (x.at + head_size h) x.len (e * size) size (omega (arith, before, own.fits))

module _ (names : Naming Target) (h : Header) (c : Catalogue) (nodes : List Head) (b : List ℕ) where
  -- what an element of the payload says
  abbrev heard_in : List Speaker → Head → ℕ → List View
  heard_in speakers x e = element_heard names h.order speakers (part (payload h b x) (e * struct_length c x.index) (struct_length c x.index))

  element_law : (speakers : List Speaker) (x : Head) (e : ℕ) → HasElements c x → e < x.count
      → element_said speakers nodes names h c x b e ≡ raw_only nodes (heard_in speakers x e)
  element_law speakers x e own lt =
      raw_of_element nodes names h.order speakers (part b (element_at h c x e) (struct_length c x.index))
      ∙ ap (λ bs. raw_only nodes (element_heard names h.order speakers bs)) (sym (element_in h c b x e own lt))

  elements_law : (speakers : List Speaker) (x : Head) → HasElements c x
      → elements_said speakers nodes names h c x b x.count
      ≡ raw_only nodes (flat_map (element_heard names h.order speakers) (elements (payload h b x) (struct_length c x.index) x.count))
  elements_law speakers x own =
      let bytes : ℕ → List ℕ = λ e. part (payload h b x) (e * struct_length c x.index) (struct_length c x.index) in
      flat_map-below (element_said speakers nodes names h c x b) (λ e. raw_only nodes (heard_in speakers x e)) x.count
      (λ e lt. element_law speakers x e own lt)
      ∙ sym (filter-flat_map (λ (v : View). is_raw nodes v.node) (heard_in speakers x) (numbers_below x.count))
      ∙ ap (raw_only nodes) (sym (flat_map-map (element_heard names h.order speakers) bytes (numbers_below x.count)))

-- what is gathered of a node is what it says of raw nodes
node_law : (structs : List (List Speaker)) (names : Naming Target) (h : Header) (c : Catalogue) (nodes : List Head) (b : List ℕ) (n : ℕ) (x : Head)
    → IsNodeIn h c n x → node_said structs nodes names h c x b ≡ raw_only nodes (node_heard structs names h c b x)
node_law structs names h c nodes b n x stands = by (x.index == 0) refl
  where
    by : (raw : Bool) → (x.index == 0) ≡ raw
        → cond raw [] (elements_said (get_or structs x.index []) nodes names h c x b x.count)
        ≡ raw_only nodes (cond raw [] (flat_map (element_heard names h.order (get_or structs x.index [])) (elements (payload h b x) (struct_length c x.index) x.count)))
    by true is = refl
    by false is = elements_law names h c nodes b (get_or structs x.index []) x (faultless c x stands.no_fault is)

nodes_law : (structs : List (List Speaker)) (names : Namings) (h : Header) (c : Catalogue) (nodes : List Head) (b : List ℕ) (n i : ℕ) (xs : List Head)
    → All (IsNodeIn h c n) xs
    → flat_map (λ (p : ℕ × Head). node_said structs nodes (names p.0) h c p.1 b) (enumerate_from i xs)
    ≡ raw_only nodes (flat_map (λ (p : ℕ × Head). node_heard structs (names p.0) h c b p.1) (enumerate_from i xs))
nodes_law structs names h c nodes b n i [] all = refl
nodes_law structs names h c nodes b n i (x ∷ xs) all =
    let said : ℕ × Head → List View = λ p. node_said structs nodes (names p.0) h c p.1 b in
    let heard : ℕ × Head → List View = λ p. node_heard structs (names p.0) h c b p.1 in
    ap (λ vs. vs ++ flat_map said (enumerate_from (i + 1) xs)) (node_law structs (names i) h c nodes b n x (All-head (IsNodeIn h c n) x xs all))
    ∙ ap (λ vs. raw_only nodes (heard (i, x)) ++ vs) (nodes_law structs names h c nodes b n (i + 1) xs (All-tail (IsNodeIn h c n) x xs all))
    ∙ sym (filter-append (λ (v : View). is_raw nodes v.node) (heard (i, x)) (flat_map heard (enumerate_from (i + 1) xs)))

-- what is gathered of all nodes is what they say of raw nodes
pub heard_law : (structs : List (List Speaker)) (names : Namings) (h : Header) (c : Catalogue) (nodes : List Head) (b : List ℕ) (n k : ℕ)
    → All (IsNodeIn h c n) nodes → length nodes ≤ k
    → flat_map (λ (p : ℕ × Head). node_said structs nodes (names p.0) h c p.1 b) (enumerate_from 0 (take k nodes))
    ≡ raw_only nodes (views_heard structs names h c nodes b)
unfolding views_heard
heard_law structs names h c nodes b n k all ge =
    ap (λ (ys : List Head). flat_map (λ (p : ℕ × Head). node_said structs nodes (names p.0) h c p.1 b) (enumerate_from 0 ys)) (take_all k nodes ge)
    ∙ nodes_law structs names h c nodes b n 0 nodes all
