-- The draft of the second of two groups of a file, which a test renders, is one of the file's nodes.
use Rattle.std.proofs.Common.{◌≡◌, ℕ, Bool, true, false, List, [], ◌∷◌, get_or, length, slice_index_or, Option, Some, None, refl, sym, ap, subst, ◌∙◌, arith}
use Rattle.std.specs.Prelude.{◌==◌, ◌||◌, ◌&&◌, not, codes, map}
use Rattle.std.specs.Str.{bytes_eq}
use Rattle.std.proofs.lemmas.List.Elements.{All-map}
use Rattle.std.proofs.lemmas.Slice.Eq.{bytes_eq-Decides}
use Rattle.bl_format.specs.declared.file.Header.{Header}
use Rattle.bl_format.specs.declared.file.Head.{Head}
use Rattle.bl_format.specs.declared.catalogue.Catalogue.{Catalogue}
use Rattle.bl_format.specs.Layout.{HasLayout}
use Rattle.bl_format.specs.Nodes.{File}
use Rattle.bl_format.specs.Graph.{file_codes}
use Rattle.bl_selection.specs.declared.draft.Draft.{Draft}
use Rattle.bl_selection.specs.declared.draft.Entry.TheVariants as entries
use Rattle.bl_selection.specs.Selection.{no_head, draft_of, has_struct, head_of, head_has_struct, is_kept}
use Rattle.bl_selection.specs.Drafts.{kept_in_group, are_sources, is_good_source, is_good_entry, is_well_formed}
use Rattle.bl_selection.proofs.OwnFormNames.{HaveOwnIndex}
use Rattle.bl_file.specs.declared.outline.Outline.{Outline}
use Rattle.bl_file.specs.Outlines.{IsSound, file_with}
use Rattle.bl_draft.specs.Own.{IsOfSource, IsSourceDraft, outlined}
use Rattle.bl_draft.proofs.AllNodes.{sound-HaveOwnIndex}

or_not : (b : Bool) → (b || not b) ≡ true
or_not true = refl
or_not false = refl

-- under its own catalogue each node of a file is kept
module _ (f : File) (own : HaveOwnIndex f) where
  has_struct-own : (k : ℕ) → has_struct f.catalogue f.catalogue (get_or f.nodes k no_head) ≡ true
  has_struct-own k =
      let x : Head = get_or f.nodes k no_head in
      ap (λ (s : ℕ). x.index == 0 || not (s == 0)) (own k) ∙ or_not (x.index == 0)

  head_has_struct-own : (o : Option ℕ) → head_has_struct f.catalogue f o ≡ true
  head_has_struct-own None = refl
  head_has_struct-own (Some k) = has_struct-own k

  is_kept-own : (k : ℕ) → is_kept f.catalogue f k ≡ true
  unfolding is_kept
  is_kept-own k = λ i. has_struct-own k i && head_has_struct-own (head_of (file_codes f) k) i

-- a head with another code
abbrev with_code : List ℕ → Head → Head
with_code code x = record { code = code; len = x.len; address = x.address; index = x.index; count = x.count; at = x.at }

-- three nodes of which the first two begin groups
abbrev two_groups : Head → Head → Head → List Head
two_groups x y z = with_code (77 ∷ 69 ∷ 0 ∷ 0 ∷ []) x ∷ with_code (77 ∷ 69 ∷ 0 ∷ 0 ∷ []) y ∷ with_code (codes "DATA") z ∷ []

-- the draft of the second group
abbrev pub second_group : Header → Catalogue → Draft
second_group h c = draft_of h c (entries.Source 0 1 ∷ entries.Source 0 2 ∷ []) ((0 ∷ 1 ∷ 2 ∷ []) ∷ [])

module _ (h : Header) (c : Catalogue) (x y z : Head) where
  abbrev f : File
  f = file_with h c (two_groups x y z) []

  module _ (kept : (k : ℕ) → is_kept c f k ≡ true) where
    first_in_group : kept_in_group f (second_group h c) 1 ≡ 1 ∷ 2 ∷ []
    first_in_group = rw (kept 1, kept 2) refl

    second_in_group : kept_in_group f (second_group h c) 2 ≡ 1 ∷ 2 ∷ []
    second_in_group = rw (kept 1, kept 2) refl

    first_good : is_good_source (f ∷ []) (second_group h c) 0 0 1 ≡ true
    first_good = rw first_in_group (ap (λ (ns : List ℕ). are_sources 0 ns (second_group h c).entries && true && true) first_in_group)

    second_good : is_good_source (f ∷ []) (second_group h c) 1 0 2 ≡ true
    second_good = rw second_in_group (ap (λ (ns : List ℕ). are_sources 0 ns (second_group h c).entries && true && true) second_in_group)

    well_formed : is_well_formed (f ∷ []) (second_group h c) ≡ true
    unfolding is_well_formed is_good_entry
    well_formed = λ i. (first_good i && (second_good i && true)) && true && true

nodes_are : (nodes : List Head)
    → map (λ (x : Head). x.code) nodes ≡ (77 ∷ 69 ∷ 0 ∷ 0 ∷ []) ∷ (77 ∷ 69 ∷ 0 ∷ 0 ∷ []) ∷ codes "DATA" ∷ []
    → nodes ≡ two_groups (get_or nodes 0 no_head) (get_or nodes 1 no_head) (get_or nodes 2 no_head)
nodes_are (x ∷ y ∷ z ∷ []) are =
    let code : ℕ → List (List ℕ) → List ℕ = λ k codes. get_or codes k [] in
    λ i. with_code (code 0 (are i)) x ∷ with_code (code 1 (are i)) y ∷ with_code (code 2 (are i)) z ∷ []
nodes_are [] are = absurd (cc)
nodes_are (x ∷ []) are = absurd (cc)
nodes_are (x ∷ y ∷ []) are = absurd (cc)
nodes_are (x ∷ y ∷ z ∷ w ∷ rest) are = absurd (cc)

-- their codes, one by one
pub codes_are : (nodes : List Head) (first second third : Head) → length nodes ≡ 3
    → bytes_eq (slice_index_or nodes 0 first).code (77 ∷ 69 ∷ 0 ∷ 0 ∷ []) ≡ true
    → bytes_eq (slice_index_or nodes 1 second).code (77 ∷ 69 ∷ 0 ∷ 0 ∷ []) ≡ true
    → bytes_eq (slice_index_or nodes 2 third).code (codes "DATA") ≡ true
    → map (λ (x : Head). x.code) nodes ≡ (77 ∷ 69 ∷ 0 ∷ 0 ∷ []) ∷ (77 ∷ 69 ∷ 0 ∷ 0 ∷ []) ∷ codes "DATA" ∷ []
codes_are (x ∷ y ∷ z ∷ []) first second third len a b c = λ i. same x.code (77 ∷ 69 ∷ 0 ∷ 0 ∷ []) a i ∷ same y.code (77 ∷ 69 ∷ 0 ∷ 0 ∷ []) b i ∷ same z.code (codes "DATA") c i ∷ []
  where
    same : (one other : List ℕ) → bytes_eq one other ≡ true → one ≡ other
    same one other is = (bytes_eq-Decides one other).0 is
codes_are [] first second third len a b c = absurd (omega (arith, len))
codes_are (x ∷ []) first second third len a b c = absurd (omega (arith, len))
codes_are (x ∷ y ∷ []) first second third len a b c = absurd (omega (arith, len))
codes_are (x ∷ y ∷ z ∷ w ∷ rest) first second third len a b c = absurd (omega (arith, len))

-- a draft of these entries and images is one of the file's nodes
pub IsSourceDraft-second_group : (o : Outline) (d : Draft) → IsSound o → d ≡ second_group o.header o.layout.catalogue
    → map (λ (x : Head). x.code) o.nodes ≡ (77 ∷ 69 ∷ 0 ∷ 0 ∷ []) ∷ (77 ∷ 69 ∷ 0 ∷ 0 ∷ []) ∷ codes "DATA" ∷ [] → IsSourceDraft o d
IsSourceDraft-second_group o d sound is are =
    let h : Header = o.header in
    let c : Catalogue = o.layout.catalogue in
    let formed : is_well_formed (outlined o [] ∷ []) (second_group h c) ≡ true =
    subst (λ (nodes : List Head). ((k : ℕ) → is_kept c (file_with h c nodes []) k ≡ true) → is_well_formed (file_with h c nodes [] ∷ []) (second_group h c) ≡ true)
    (sym (nodes_are o.nodes are)) (well_formed h c (get_or o.nodes 0 no_head) (get_or o.nodes 1 no_head) (get_or o.nodes 2 no_head)) (is_kept-own (outlined o []) (sound-HaveOwnIndex o [] sound)) in
    subst (IsSourceDraft o) (sym is) (record {
      version = sound.version;
      has_layout = subst (HasLayout c) sound.width sound.has_layout;
      short = sound.short;
      no_overrides = refl;
      sources = All-map IsOfSource (entries.Source 0) (1 ∷ 2 ∷ []) (λ k e lt. refl);
      well_formed = formed;
    })
