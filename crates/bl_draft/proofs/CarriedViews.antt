-- What all pointers of a draft of one opened file's nodes say is what is heard of its nodes at the source's leaves.
use Rattle.std.proofs.Common.{◌≡◌, ℕ, ◌+◌, ◌*◌, ◌<◌, ◌≤◌, Bool, true, false, cond, All, List, [], ◌∷◌, ◌++◌, length, get_or, drop, refl, sym, ap, subst, ◌∙◌, arith}
use Rattle.std.specs.Prelude.{◌==◌, map, flat_map}
use Rattle.std.specs.List.{enumerate_from}
use Rattle.std.proofs.lemmas.Bool.{eqb-false}
use Rattle.std.proofs.lemmas.List.{ext_get_or, get_or-map, length-map, length-take, length-drop}
use Rattle.std.proofs.lemmas.List.Elements.{All-head, All-tail}
use Rattle.std.proofs.lemmas.List.Folds.{flat_map-map}
use Rattle.std.proofs.lemmas.List.FromFn.{length-enumerate_from}
use Rattle.bl_format.specs.declared.file.Head.{Head}
use Rattle.bl_format.specs.declared.raw.View.{View}
use Rattle.bl_format.specs.Words.{part, numbers_below}
use Rattle.bl_format.specs.Blocks.{head_size}
use Rattle.bl_format.specs.Layout.{HasLayout, struct_length}
use Rattle.bl_format.specs.Nodes.{File, payload}
use Rattle.bl_format.specs.Graph.{Target, Naming, elements, views_of}
use Rattle.bl_selection.specs.declared.draft.Draft.{Draft}
use Rattle.bl_selection.specs.declared.draft.Entry.{Entry}
use Rattle.bl_selection.specs.declared.draft.Entry.TheVariants as entries
use Rattle.bl_selection.specs.Selection.{no_head, entry_at, entry_names, entry_views, selection_views}
use Rattle.bl_selection.specs.Carried.{carried_cells, carried_views}
use Rattle.bl_selection.proofs.CarriedForm.{entry_views-carried}
use Rattle.bl_selection.proofs.OwnFormNames.{at_place}
use Rattle.bl_file.specs.declared.outline.Outline.{Outline}
use Rattle.bl_file.specs.declared.speakers.Speaker.{Speaker}
use Rattle.bl_file.specs.Heard.{element_heard, node_heard, views_heard}
use Rattle.bl_file.specs.Outlines.{IsNodeIn, IsSound}
use Rattle.bl_file.specs.Seen.{Namings, kinds_seen}
use Rattle.bl_file.specs.Views.{element_at}
use Rattle.bl_file.proofs.NodeViewLaws.{element_in}
use Rattle.bl_file.proofs.ReadLemmas.{HasElements, faultless, element_before}
use Rattle.bl_file.proofs.ViewLaws.{flat_map-below}
use Rattle.bl_draft.specs.Own.{IsOfSource, IsSourceDraft, outlined, entry_node, entry_head, entry_heads, entry_kinds, own_names}
use Rattle.bl_draft.specs.Speakers.{SpeaksAs, carried_speakers}
use Rattle.bl_draft.specs.Structs.{source_form, target_form}
use Rattle.bl_draft.proofs.CarriedElements.{carried_cells-heard}
use Rattle.bl_draft.proofs.EntryNames.{names_without}
use Rattle.bl_draft.proofs.OutlineFacts.{heads-IsNodeIn}

module _ (b : List ℕ) (o : Outline) (d : Draft) where
  abbrev f : File
  f = outlined o b

  abbrev files : List File
  files = f ∷ []

  -- ---- by the heads of nodes

  views_by_entry : d.overrides ≡ [] → (e : ℕ) (x : Entry) → IsOfSource x
      → entry_views files d e x ≡ carried_views (entry_names (outlined o [] ∷ []) d e 0 (entry_node x)) f d.header d.catalogue (entry_head o.nodes x)
  views_by_entry none e (entries.Source i n) is =
      ap (λ (k : ℕ). entry_views files d e (entries.Source k n)) is
      ∙ entry_views-carried files d [] e 0 n none
      ∙ ap (λ (names : Naming Target). carried_views names f d.header d.catalogue (get_or o.nodes n no_head)) (sym (names_without o d b e n))
  views_by_entry none e (entries.Made m) is = absurd is
  views_by_entry none e (entries.Raw code bytes) is = absurd is

  -- what all pointers of the draft say, by the heads of its nodes
  pub selection_views-known : d.overrides ≡ [] → All IsOfSource d.entries
      → selection_views files d
      ≡ flat_map (λ p. carried_views (own_names (outlined o []) d p.0) f d.header d.catalogue p.1) (enumerate_from 0 (entry_heads o.nodes d.entries))
  unfolding selection_views
  selection_views-known none sources =
      let heads : List Head = entry_heads o.nodes d.entries in
      let one : List View → List View = λ vs. vs in
      let by_entries : ℕ × Entry → List View = λ p. entry_views files d p.0 p.1 in
      let by_heads : ℕ × Head → List View = λ p. carried_views (own_names (outlined o []) d p.0) f d.header d.catalogue p.1 in
      let many : length heads ≡ length d.entries = length-map d.entries (entry_head o.nodes) in
      let left : length (map by_entries (enumerate_from 0 d.entries)) ≡ length d.entries = length-map (enumerate_from 0 d.entries) by_entries ∙ length-enumerate_from 0 d.entries in
      let right : length (map by_heads (enumerate_from 0 heads)) ≡ length d.entries = length-map (enumerate_from 0 heads) by_heads ∙ length-enumerate_from 0 heads ∙ many in
      let same : map by_entries (enumerate_from 0 d.entries) ≡ map by_heads (enumerate_from 0 heads) =
      ext_get_or [] (map by_entries (enumerate_from 0 d.entries)) (map by_heads (enumerate_from 0 heads)) (left ∙ sym right)
      (λ e below.
      let none_there : Entry = entries.Raw [] [] in
      let lt : e < length d.entries = omega (arith, below, left) in
      at_place by_entries d.entries e none_there [] lt
      ∙ views_by_entry none e (entry_at d e) (sources e none_there lt)
      ∙ sym (at_place by_heads heads e no_head [] (omega (arith, lt, many))
      ∙ ap (λ (x : Head). by_heads (e, x)) (get_or-map (entry_head o.nodes) d.entries e none_there no_head lt))) in
      sym (flat_map-map one by_entries (enumerate_from 0 d.entries)) ∙ ap (flat_map one) same ∙ flat_map-map one by_heads (enumerate_from 0 heads)

  -- ---- what is heard

  -- what an element of a node says, once it is carried
  abbrev carried : Naming Target → Head → List ℕ → List View
  carried names x bytes = views_of d.catalogue (carried_cells names (source_form o x.index) (target_form o d x.index).leaves bytes)

  -- element e of a node
  abbrev element_of : Head → ℕ → List ℕ
  element_of x e = part (payload o.header b x) (e * struct_length o.layout.catalogue x.index) (struct_length o.layout.catalogue x.index)

  element_long : (x : Head) (e : ℕ) → HasElements o.layout.catalogue x → x.at + head_size o.header + x.len ≤ length b → e < x.count
      → length (element_of x e) ≡ struct_length o.layout.catalogue x.index
  element_long x e own inside lt =
      let size : ℕ = struct_length o.layout.catalogue x.index in
      let at : ℕ = element_at o.header o.layout.catalogue x e in
      let before : e * size + size ≤ x.count * size = element_before e x.count size lt in
      let fits : e * size + size ≤ x.len = omega (arith, before, own.fits) in
      let whole : length (part b at size) ≡ size = omega (arith, fits, inside, length-take size (drop at b), length-drop at b) in
      ap (λ (bytes : List ℕ). length bytes) (element_in o.header o.layout.catalogue b x e own lt) ∙ whole

  elements_heard : (names : Naming Target) (x : Head) → HasLayout o.layout.catalogue o.header.width → HasElements o.layout.catalogue x
      → x.at + head_size o.header + x.len ≤ length b
      → flat_map (element_heard names o.header.order (carried_speakers o d x.index)) (elements (payload o.header b x) (struct_length o.layout.catalogue x.index) x.count)
      ≡ flat_map (carried names x) (elements (payload o.header b x) (struct_length o.layout.catalogue x.index) x.count)
  elements_heard names x has own inside =
      let heard : List ℕ → List View = element_heard names o.header.order (carried_speakers o d x.index) in
      flat_map-map heard (element_of x) (numbers_below x.count)
      ∙ flat_map-below (λ e. heard (element_of x e)) (λ e. carried names x (element_of x e)) x.count
      (λ e lt. sym (carried_cells-heard d.catalogue names o.header.order o.layout.catalogue o.header.width x.index (target_form o d x.index).leaves (element_of x e) has
      (element_long x e own inside lt)))
      ∙ sym (flat_map-map (carried names x) (element_of x) (numbers_below x.count))

  node_is_heard : (structs : List (List Speaker)) (names : Naming Target) (x : Head) → HasLayout o.layout.catalogue o.header.width
      → IsNodeIn o.header o.layout.catalogue o.size x → length b ≡ o.size → SpeaksAs o d structs x
      → node_heard structs names o.header o.layout.catalogue b x ≡ carried_views names f d.header d.catalogue x
  node_is_heard structs names x has stands long speaks = by_raw (x.index == 0) refl
    where
      bytes : List (List ℕ)
      bytes = elements (payload o.header b x) (struct_length o.layout.catalogue x.index) x.count

      by_raw : (raw : Bool) → (x.index == 0) ≡ raw
          → cond raw [] (flat_map (element_heard names o.header.order (get_or structs x.index [])) bytes) ≡ cond raw [] (flat_map (carried names x) bytes)
      by_raw true is = refl
      by_raw false is =
          ap (λ (speakers : List Speaker). flat_map (element_heard names o.header.order speakers) bytes) (speaks (eqb-false x.index 0 is))
          ∙ elements_heard names x has (faultless o.layout.catalogue x stands.no_fault is) (omega (arith, stands.fits, long))

  nodes_are_heard : (structs : List (List Speaker)) (names own : Namings) (i : ℕ) (xs : List Head) → HasLayout o.layout.catalogue o.header.width
      → All (IsNodeIn o.header o.layout.catalogue o.size) xs → length b ≡ o.size → All (SpeaksAs o d structs) xs
      → ((e : ℕ) → i ≤ e → e < i + length xs → names e ≡ own e)
      → flat_map (λ (p : ℕ × Head). node_heard structs (names p.0) o.header o.layout.catalogue b p.1) (enumerate_from i xs)
      ≡ flat_map (λ (p : ℕ × Head). carried_views (own p.0) f d.header d.catalogue p.1) (enumerate_from i xs)
  nodes_are_heard structs names own i [] has stand long speak same = refl
  nodes_are_heard structs names own i (x ∷ xs) has stand long speak same =
      let heard : ℕ × Head → List View = λ p. node_heard structs (names p.0) o.header o.layout.catalogue b p.1 in
      let IsNode : Head → Type 0 = IsNodeIn o.header o.layout.catalogue o.size in
      ap (λ (vs : List View). vs ++ flat_map heard (enumerate_from (i + 1) xs))
      (node_is_heard structs (names i) x has (All-head IsNode x xs stand) long (All-head (SpeaksAs o d structs) x xs speak)
      ∙ ap (λ (those : Naming Target). carried_views those f d.header d.catalogue x) (same i (omega arith) (omega arith)))
      ∙ ap (λ (vs : List View). carried_views (own i) f d.header d.catalogue x ++ vs)
      (nodes_are_heard structs names own (i + 1) xs has (All-tail IsNode x xs stand) long (All-tail (SpeaksAs o d structs) x xs speak)
      (λ e from to. same e (omega (arith, from)) (omega (arith, to))))

-- what is heard at the source's leaves is what all pointers of a draft say
pub views_heard-carried : (b : List ℕ) (o : Outline) (d : Draft) (structs : List (List Speaker)) (names : Namings) → IsSound o → IsSourceDraft o d
    → length b ≡ o.size → All (IsNodeIn o.header o.layout.catalogue o.size) (entry_heads o.nodes d.entries)
    → All (SpeaksAs o d structs) (entry_heads o.nodes d.entries)
    → ((e : ℕ) → e < length d.entries → names e ≡ own_names (outlined o []) d e)
    → views_heard structs names o.header o.layout.catalogue (entry_heads o.nodes d.entries) b ≡ selection_views (outlined o b ∷ []) d
unfolding views_heard
views_heard-carried b o d structs names sound source long stand speak same =
    let heads : List Head = entry_heads o.nodes d.entries in
    let many : length heads ≡ length d.entries = length-map d.entries (entry_head o.nodes) in
    nodes_are_heard b o d structs names (own_names (outlined o []) d) 0 heads (subst (HasLayout o.layout.catalogue) sound.width sound.has_layout) stand long speak
    (λ e from to. same e (omega (arith, to, many)))
    ∙ sym (selection_views-known b o d source.no_overrides source.sources)

-- so the kinds of nodes that are heard are those of the entries
pub kinds-carried : (b : List ℕ) (o : Outline) (d : Draft) (structs : List (List Speaker)) (names : Namings) (heads : List Head)
    → IsSound o → IsSourceDraft o d → length b ≡ o.size → heads ≡ entry_heads o.nodes d.entries → All (SpeaksAs o d structs) heads
    → ((e : ℕ) → e < length d.entries → names e ≡ own_names (outlined o []) d e)
    → kinds_seen heads (views_heard structs names o.header o.layout.catalogue heads b) ≡ entry_kinds (outlined o b) d
kinds-carried b o d structs names heads sound source size is say same =
    ap (λ hs. kinds_seen hs (views_heard structs names o.header o.layout.catalogue hs b)) is
    ∙ ap (kinds_seen (entry_heads o.nodes d.entries))
    (views_heard-carried b o d structs names sound source size (subst (All (IsNodeIn o.header o.layout.catalogue o.size)) is (heads-IsNodeIn o d heads sound source is))
    (subst (All (SpeaksAs o d structs)) is say) same)
