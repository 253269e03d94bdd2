-- Names that agree on raw nodes give the same kinds, and those in the groups that have a raw node agree with all on them.
use Rattle.std.proofs.Common.{◌≡◌, ℕ, Bool, true, false, cond, List, [], get_or, Some, None, refl, sym, ap, ◌∙◌}
use Rattle.std.specs.Prelude.{◌==◌, flat_map, slice_get, IfSome}
use Rattle.std.specs.List.{enumerate_from}
use Rattle.std.specs.Option.{option_or}
use Rattle.std.proofs.Math.Path.{fun_ext}
use Rattle.std.proofs.lemmas.Bool.{false_from_ne_true}
use Rattle.bl_num.specs.declared.number.Order.{Order}
use Rattle.bl_format.specs.declared.file.Header.{Header}
use Rattle.bl_format.specs.declared.file.Head.{Head}
use Rattle.bl_format.specs.declared.catalogue.Catalogue.{Catalogue}
use Rattle.bl_format.specs.declared.raw.RawKind.{RawKind}
use Rattle.bl_format.specs.declared.raw.View.{View}
use Rattle.bl_format.specs.Words.{numbers_below}
use Rattle.bl_format.specs.Layout.{struct_length}
use Rattle.bl_format.specs.Nodes.{Mark, payload, target_of}
use Rattle.bl_format.specs.Graph.{Target, Naming, elements}
use Rattle.bl_addresses.specs.Marks.{target_in_group}
use Rattle.bl_file.specs.declared.speakers.Speaker.{Speaker}
use Rattle.bl_file.specs.Groups.{group_names, has_raw}
use Rattle.bl_file.specs.Outlines.{marks_of}
use Rattle.bl_file.specs.Seen.{Namings, mark_group, table_names, kinds_seen}
use Rattle.bl_file.specs.Speakers.{speaker_number}
use Rattle.bl_file.specs.Heard.{AreHeard, views_of_target, leaf_heard, element_heard, node_heard, views_heard}
use Rattle.bl_file.specs.Views.{SaysOfRaw, is_raw, raw_target, raw_only, kinds_by}
use Rattle.bl_file.proofs.HeardLaws.{heard_viewed}
use Rattle.bl_file.proofs.KindLemmas.{kinds_by-kinds_seen}
use Rattle.bl_file.proofs.RawGroupLemmas.{found_in_group, found_id}
use Rattle.bl_file.proofs.NodeViewLaws.{raw_of_target}
use Rattle.bl_file.proofs.ViewLaws.{filter-flat_map}

-- ---- names

not_raw : (nodes : List Head) (n : ℕ) → is_raw nodes n ≡ false → None ≡ raw_target nodes (Some n)
not_raw nodes n is = sym (ap (λ b. cond b (Some n) None) is)

no_raw : (nodes : List Head) (second : Target) → IfSome second (λ n. is_raw nodes n ≡ false) → None ≡ raw_target nodes second
no_raw nodes None not = refl
no_raw nodes (Some n) not = not_raw nodes n not

-- what is named of raw nodes in a group, and in the file where the group has it not
raw_named : (nodes : List Head) (null raw : Bool) (first second : Target)
    → IfSome first (λ n. is_raw nodes n ≡ true → raw ≡ true) → IfSome second (λ n. is_raw nodes n ≡ false)
    → raw_target nodes (cond raw (cond null None first) None) ≡ raw_target nodes (cond null None (option_or first second))
raw_named nodes true true first second has not = refl
raw_named nodes true false first second has not = refl
raw_named nodes false true (Some n) second has not = refl
raw_named nodes false true None second has not = no_raw nodes second not
raw_named nodes false false (Some n) second has not =
    not_raw nodes n (false_from_ne_true (is_raw nodes n) (λ is. let raw : false ≡ true = has is in absurd (cc)))
raw_named nodes false false None second has not = no_raw nodes second not

-- the names in groups that have a raw node are those of the table, of raw nodes
names_same : (h : Header) (c : Catalogue) (nodes : List Head) (table : List Mark) (raw : List Bool) (k : ℕ)
    → table ≡ marks_of h c nodes → ((group : ℕ) → get_or raw group false ≡ has_raw table nodes group)
    → SaysOfRaw nodes (group_names raw table k) (table_names table k)
unfolding target_of target_in_group
names_same h c nodes table raw k is has address =
    let group = mark_group (slice_get table k) in
    raw_named nodes (address == 0) (get_or raw group false) _ _
    (found_in_group table nodes group address (get_or raw group false) (has group))
    (found_id h c nodes table address is)

-- ---- views

-- what is kept of lists behind one another, by what is kept of each
kept_all : {X : Type 0} (nodes : List Head) (f g : X → List View) (xs : List X) → ((x : X) → raw_only nodes (f x) ≡ raw_only nodes (g x))
    → raw_only nodes (flat_map f xs) ≡ raw_only nodes (flat_map g xs)
kept_all nodes f g xs same =
    filter-flat_map (λ (v : View). is_raw nodes v.node) f xs
    ∙ ap (λ k. flat_map k xs) (fun_ext same)
    ∙ sym (filter-flat_map (λ (v : View). is_raw nodes v.node) g xs)

module _ (nodes : List Head) (names others : Naming Target) (same : SaysOfRaw nodes names others) where
  same_target : (kind : RawKind) (address : ℕ)
      → raw_only nodes (views_of_target kind (names address)) ≡ raw_only nodes (views_of_target kind (others address))
  same_target kind address =
      raw_of_target nodes kind (names address) ∙ ap (views_of_target kind) (same address)
      ∙ sym (raw_of_target nodes kind (others address))

  same_leaf : (order : Order) (bytes : List ℕ) (x : Speaker)
      → raw_only nodes (leaf_heard names order bytes x) ≡ raw_only nodes (leaf_heard others order bytes x)
  same_leaf order bytes x =
      kept_all nodes _ _ (numbers_below x.count) (λ k. same_target x.kind (speaker_number order x bytes k))

  same_element : (order : Order) (speakers : List Speaker) (bytes : List ℕ)
      → raw_only nodes (element_heard names order speakers bytes) ≡ raw_only nodes (element_heard others order speakers bytes)
  same_element order speakers bytes =
      kept_all nodes (leaf_heard names order bytes) (leaf_heard others order bytes) speakers (same_leaf order bytes)

  -- what is kept of a node's views
  same_node : (structs : List (List Speaker)) (h : Header) (c : Catalogue) (b : List ℕ) (x : Head)
      → raw_only nodes (node_heard structs names h c b x) ≡ raw_only nodes (node_heard structs others h c b x)
  same_node structs h c b x = by (x.index == 0)
    where
      speakers : List Speaker
      speakers = get_or structs x.index []

      bytes : List (List ℕ)
      bytes = elements (payload h b x) (struct_length c x.index) x.count

      by : (raw : Bool)
          → raw_only nodes (cond raw [] (flat_map (element_heard names h.order speakers) bytes))
          ≡ raw_only nodes (cond raw [] (flat_map (element_heard others h.order speakers) bytes))
      by true = refl
      by false =
          kept_all nodes (element_heard names h.order speakers) (element_heard others h.order speakers) bytes
          (same_element h.order speakers)

-- ---- kinds

-- namings that name the same of raw nodes give the same kinds
same_kinds : (structs : List (List Speaker)) (names others : Namings) (h : Header) (c : Catalogue) (nodes : List Head) (b : List ℕ)
    → AreHeard c structs → ((k : ℕ) → SaysOfRaw nodes (names k) (others k))
    → kinds_seen nodes (views_heard structs names h c nodes b) ≡ kinds_seen nodes (views_heard structs others h c nodes b)
unfolding views_heard
same_kinds structs names others h c nodes b heard same =
    sym (kinds_by-kinds_seen nodes (views_heard structs names h c nodes b) (heard_viewed structs names h c nodes b heard))
    ∙ ap (kinds_by nodes)
    (kept_all nodes (λ (p : ℕ × Head). node_heard structs (names p.0) h c b p.1)
    (λ (p : ℕ × Head). node_heard structs (others p.0) h c b p.1) (enumerate_from 0 nodes)
    (λ p. same_node nodes (names p.0) (others p.0) (same p.0) structs h c b p.1))
    ∙ kinds_by-kinds_seen nodes (views_heard structs others h c nodes b) (heard_viewed structs others h c nodes b heard)

-- so the names in groups that have a raw node give the kinds that all names of the table give
pub kinds-in_groups : (structs : List (List Speaker)) (h : Header) (c : Catalogue) (nodes : List Head) (table own : List Mark) (raw : List Bool) (b : List ℕ)
    → AreHeard c structs → table ≡ marks_of h c nodes → own ≡ table → ((group : ℕ) → get_or raw group false ≡ has_raw table nodes group)
    → kinds_seen nodes (views_heard structs (group_names raw own) h c nodes b) ≡ kinds_seen nodes (views_heard structs (table_names table) h c nodes b)
kinds-in_groups structs h c nodes table own raw b heard is same has =
    ap (λ (ms : List Mark). kinds_seen nodes (views_heard structs (group_names raw ms) h c nodes b)) same
    ∙ same_kinds structs (group_names raw table) (table_names table) h c nodes b heard (λ k. names_same h c nodes table raw k is has)
