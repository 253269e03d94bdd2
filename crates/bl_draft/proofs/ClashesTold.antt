-- A draft is refused for a float just where a node of it has a struct of which `fates` prints a member, or one inside, as
-- float-cast; and the member that is told is such.
use Rattle.std.proofs.Common.{◌≡◌, ◌≢◌, ◌<◌, inl, inr, ℕ, suc, Bool, true, false, cond, All, List, [], ◌∷◌, length, get_or, Option, Some, None, refl, sym, ap, subst, ◌∙◌, arith, eqb-true}
use Rattle.std.specs.Prelude.{◌↔◌, ◌==◌, Any, map}
use Rattle.std.specs.Option.{option_or}
use Rattle.std.proofs.lemmas.Bool.{eqb-false}
use Rattle.std.proofs.lemmas.List.Elements.{All-map}
use Rattle.bl_format.specs.declared.file.Header.{Header}
use Rattle.bl_format.specs.declared.file.Head.{Head}
use Rattle.bl_format.specs.declared.catalogue.Catalogue.{Catalogue}
use Rattle.bl_format.specs.Words.{find_map}
use Rattle.bl_format.specs.Layout.{HasLayout}
use Rattle.bl_format.specs.Nodes.{File, Accepted}
use Rattle.bl_selection.specs.declared.draft.Draft.{Draft}
use Rattle.bl_selection.specs.declared.draft.Fate.TheVariants as fates
use Rattle.bl_selection.specs.declared.draft.Entry.TheVariants as entries
use Rattle.bl_selection.specs.Selection.{no_head, index_under, kept_nodes, selection_clash, whole_selection}
use Rattle.bl_selection.proofs.OwnFormGraph.{accepted-CanBeRead}
use Rattle.bl_selection.proofs.RebuiltStands.{none_each, kept_struct, all_kept}
use Rattle.bl_plan.specs.Agreements.{printed_fate}
use Rattle.bl_plan.proofs.ClashesByFates.{first_clash-HasFloatCast, first_clash-float_cast}
use Rattle.bl_file.specs.declared.outline.Outline.{Outline}
use Rattle.bl_file.specs.Outlines.{IsSound}
use Rattle.bl_draft.specs.Own.{IsOfSource, IsSourceDraft, entry_head, entry_heads, outlined}
use Rattle.bl_draft.specs.Structs.{NodeHasFloatCast}
use Rattle.bl_draft.proofs.NodesHaveIndex.{faultless-HasIndex}
use Rattle.bl_draft.proofs.OutlineFacts.{heads-inside, heads-namesakes}
use Rattle.bl_draft.proofs.StructsPlanned.{clash_under, node_clash, namesake, selection_clash-nodes}

-- ---- some element

-- what holds of some element holds of some of more
any_later : {X : Type 0} (P : X → Type 0) (x : X) (xs : List X) → Any P xs → Any P (x ∷ xs)
any_later P x xs one = (suc one.0, one.1, omega (arith, one.2), one.3, one.4)

-- what is found some element gives
found_of : {X Y : Type 0} (g : X → Option Y) (xs : List X) (y : Y) → find_map g xs ≡ Some y → Any (λ x. g x ≡ Some y) xs
found_of g [] y is = absurd (cc)
found_of {X} {Y} g (x ∷ xs) y is = by (g x) refl is (found_of g xs y)
  where
    by : (o : Option Y) → g x ≡ o → option_or o (find_map g xs) ≡ Some y
        → (find_map g xs ≡ Some y → Any (λ x. g x ≡ Some y) xs) → Any (λ x. g x ≡ Some y) (x ∷ xs)
    by (Some z) here is later = (0, x, omega arith, refl, here ∙ is)
    by None here is later = any_later (λ x. g x ≡ Some y) x xs (later is)

-- something is found just where some element gives something
some_found : {X Y : Type 0} (g : X → Option Y) (xs : List X) → (find_map g xs ≢ None) ↔ Any (λ x. g x ≢ None) xs
some_found {X} {Y} g xs = (
  λ some. by (find_map g xs) refl some,
  λ one none. one.4 (subst (λ x. g x ≡ None) one.3 (none_each g xs none one.0 one.1 one.2)),
)
  where
    by : (o : Option Y) → find_map g xs ≡ o → find_map g xs ≢ None → Any (λ x. g x ≢ None) xs
    by None is some = absurd (some is)
    by (Some y) is some =
        let one = found_of g xs y is in
        (one.0, one.1, one.2, one.3, λ none. let both = sym one.4 ∙ none in absurd (cc))

-- what follows of each element follows of some
some_alike : {X : Type 0} (P Q : X → Type 0) (xs : List X) → All (λ x. P x → Q x) xs → Any P xs → Any Q xs
some_alike P Q xs each one =
    (one.0, one.1, one.2, one.3, subst (λ x. P x → Q x) one.3 (each one.0 one.1 one.2) one.4)

-- what is found in a map
found_in_map : {X Y Z : Type 0} (g : Y → Option Z) (h : X → Y) (xs : List X) → find_map g (map h xs) ≡ find_map (λ x. g (h x)) xs
found_in_map g h [] = refl
found_in_map g h (x ∷ xs) = ap (option_or (g (h x))) (found_in_map g h xs)

-- ---- a node

-- unless a node is raw, its catalogue has its struct, and the draft's catalogue one of that name
record IsInBoth (f : File) (d : Draft) (x : Head) : Type 0 where
  inside : x.index ≢ 0 → x.index < length f.catalogue.structs
  named : x.index ≢ 0 → index_under d.catalogue f.catalogue x.index ≢ 0

module _ (f : File) (d : Draft) (has : HasLayout f.catalogue f.header.width) (has' : HasLayout d.catalogue d.header.width) where
  -- the fate of a target's member, as it is printed, is float-cast
  abbrev IsFloatCast : ℕ → ℕ → Type 0
  IsFloatCast t k = printed_fate f.catalogue f.header.width d.catalogue d.header.width t k ≡ fates.FloatCast

  module _ (x : Head) (met : IsInBoth f d x) where
    by_raw : (P : Option (ℕ × ℕ) → Type 0) → (x.index ≡ 0 → P None) → (x.index ≢ 0 → P (clash_under f d x.index)) → P (node_clash f d x)
    by_raw P raw other = by (x.index == 0) refl
      where
        by : (b : Bool) → (x.index == 0) ≡ b → P (cond b None (clash_under f d x.index))
        by true is = raw (eqb-true x.index 0 is)
        by false is = other (eqb-false x.index 0 is)

    -- a node's elements can't be carried just where a member of its struct, or one inside, is printed as float-cast
    node_told : (node_clash f d x ≢ None) ↔ NodeHasFloatCast f d x
    node_told =
        by_raw (λ clash. (clash ≢ None) ↔ NodeHasFloatCast f d x) (λ raw. (λ some. absurd (some refl), λ cast none. cast.0 raw))
        (λ some.
        let there = namesake d.catalogue f.catalogue x.index (met.named some) in
        let law = first_clash-HasFloatCast f.catalogue d.catalogue f.header.width d.header.width has has' x.index
        (index_under d.catalogue f.catalogue x.index) (met.inside some) there.within (sym there.name_is) in
        (λ clash. (some, law.0 clash), λ cast. law.1 cast.1))

    -- the member that is told is
    node_member : (t k : ℕ) → node_clash f d x ≡ Some (t, k) → IsFloatCast t k
    node_member t k =
        by_raw (λ clash. clash ≡ Some (t, k) → IsFloatCast t k) (λ raw is. absurd (cc))
        (λ some.
        let there = namesake d.catalogue f.catalogue x.index (met.named some) in
        first_clash-float_cast f.catalogue d.catalogue f.header.width d.header.width has has' x.index
        (index_under d.catalogue f.catalogue x.index) t k (met.inside some) there.within (sym there.name_is))

  -- ---- all nodes of a draft

  module _ {X : Type 0} (node : X → Head) (xs : List X) (met : All (λ x. IsInBoth f d (node x)) xs)
      (is : selection_clash (f ∷ []) d ≡ find_map (λ x. node_clash f d (node x)) xs) where
    all_told : (selection_clash (f ∷ []) d ≢ None) ↔ Any (λ x. NodeHasFloatCast f d (node x)) xs
    all_told =
        let found = some_found (λ x. node_clash f d (node x)) xs in (
          λ some. some_alike (λ x. node_clash f d (node x) ≢ None) (λ x. NodeHasFloatCast f d (node x)) xs
              (λ k z lt. (node_told (node (get_or xs k z)) (met k z lt)).0) (found.0 (λ none. some (is ∙ none))),
          λ one none. found.1 (some_alike (λ x. NodeHasFloatCast f d (node x)) (λ x. node_clash f d (node x) ≢ None) xs
              (λ k z lt. (node_told (node (get_or xs k z)) (met k z lt)).1) one) (sym is ∙ none),
        )

    all_member : (t k : ℕ) → selection_clash (f ∷ []) d ≡ Some (t, k) → IsFloatCast t k
    all_member t k told =
        let one = found_of (λ x. node_clash f d (node x)) xs (t, k) (sym is ∙ told) in
        let own = subst (λ x. node_clash f d (node x) ≡ Some (t, k) → IsFloatCast t k) one.3
        (node_member (node (get_or xs one.0 one.1)) (met one.0 one.1 one.2) t k) in
        own one.4

-- ---- laws

module _ (o : Outline) (d : Draft) (sound : IsSound o) (source : IsSourceDraft o d) where
  own_layout : HasLayout o.layout.catalogue o.header.width
  own_layout = subst (HasLayout o.layout.catalogue) sound.width sound.has_layout

  heads_met : All (IsInBoth (outlined o []) d) (entry_heads o.nodes d.entries)
  heads_met k z lt = record {
    inside = heads-inside o d (entry_heads o.nodes d.entries) sound source refl k z lt;
    named = heads-namesakes o d (entry_heads o.nodes d.entries) source refl k z lt;
  }

  -- a draft of an opened file's nodes is refused for a float just where, for some node, the printed fates say float-cast of
  -- a member of its struct, or of one inside
  pub selection_clash-HasFloatCast : (selection_clash (outlined o [] ∷ []) d ≢ None)
      ↔ Any (NodeHasFloatCast (outlined o []) d) (entry_heads o.nodes d.entries)
  selection_clash-HasFloatCast =
      all_told (outlined o []) d own_layout source.has_layout (λ x. x) (entry_heads o.nodes d.entries) heads_met
      (selection_clash-nodes (outlined o []) d source.sources)

  -- the member that the refusal tells is printed as float-cast
  pub selection_clash-float_cast : (t k : ℕ) → selection_clash (outlined o [] ∷ []) d ≡ Some (t, k)
      → printed_fate o.layout.catalogue o.header.width d.catalogue d.header.width t k ≡ fates.FloatCast
  selection_clash-float_cast =
      all_member (outlined o []) d own_layout source.has_layout (λ x. x) (entry_heads o.nodes d.entries) heads_met
      (selection_clash-nodes (outlined o []) d source.sources)

module _ (b : List ℕ) (f : File) (h : Header) (c : Catalogue) (bytes : All (λ x. x < 256) b) (accepted : Accepted b f) (has : HasLayout c h.width) where
  file_layout : HasLayout f.catalogue f.header.width
  file_layout = record { can_be_read = accepted-CanBeRead b f bytes accepted; no_fault = accepted.no_layout_fault }

  kept_met : All (λ n. IsInBoth f (whole_selection f h c) (get_or f.nodes n no_head)) (kept_nodes c f)
  kept_met k z lt =
      let n : ℕ = get_or (kept_nodes c f) k z in
      let kept = all_kept f h c k z lt in
      record {
        inside = λ some. elim (faultless-HasIndex f.catalogue f.nodes accepted.no_node_fault n no_head kept.0) [
          | inl raw ↦ absurd (some raw)
          | inr inside ↦ inside
        ];
        named = kept_struct c f n kept.1;
      }

  kept_clash : selection_clash (f ∷ []) (whole_selection f h c)
      ≡ find_map (λ n. node_clash f (whole_selection f h c) (get_or f.nodes n no_head)) (kept_nodes c f)
  kept_clash =
      let d = whole_selection f h c in
      selection_clash-nodes f d (All-map IsOfSource (entries.Source 0) (kept_nodes c f) (λ k z lt. refl))
      ∙ found_in_map (node_clash f d) (entry_head f.nodes) (map (entries.Source 0) (kept_nodes c f))
      ∙ found_in_map (λ x. node_clash f d (entry_head f.nodes x)) (entries.Source 0) (kept_nodes c f)

  -- so it is of all nodes of an accepted file that a catalogue keeps
  pub whole_clash-HasFloatCast : (selection_clash (f ∷ []) (whole_selection f h c) ≢ None)
      ↔ Any (λ n. NodeHasFloatCast f (whole_selection f h c) (get_or f.nodes n no_head)) (kept_nodes c f)
  whole_clash-HasFloatCast =
      all_told f (whole_selection f h c) file_layout has (λ n. get_or f.nodes n no_head) (kept_nodes c f) kept_met kept_clash

  -- and so is the member that is told
  pub whole_clash-float_cast : (t k : ℕ) → selection_clash (f ∷ []) (whole_selection f h c) ≡ Some (t, k)
      → printed_fate f.catalogue f.header.width c h.width t k ≡ fates.FloatCast
  whole_clash-float_cast =
      all_member f (whole_selection f h c) file_layout has (λ n. get_or f.nodes n no_head) (kept_nodes c f) kept_met kept_clash
