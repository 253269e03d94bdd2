-- The leaves whose pointers say anything under a draft's catalogue, as they are found for each struct that a node has.
use Rattle.std.proofs.Common.{◌≡◌, ◌≢◌, ◌<◌, ◌≤◌, inl, inr, ℕ, ◌+◌, Bool, true, false, All, List, [], ◌∷◌, ◌++◌, length, get_or, take, set, Option, Some, None, refl, sym, ap, subst, ◌∙◌, arith, eqb-true}
use Rattle.std.specs.Prelude.{◌==◌, map, option_and_then, replicate}
use Rattle.std.specs.List.{cons_option}
use Rattle.std.proofs.lemmas.Bool.{cases_lt, eq-eqb}
use Rattle.std.proofs.lemmas.List.{get_or-map, get_or-set_same, get_or-set_other, get_or_push, get_or_append_left, length-append, length-map, length-replicate, length-set}
use Rattle.std.proofs.lemmas.List.Elements.{All-nil, All-more}
use Rattle.std.proofs.lemmas.Option.{slice_get-get_or}
use Rattle.bl_format.specs.declared.file.Head.{Head}
use Rattle.bl_format.specs.declared.catalogue.Catalogue.{Catalogue}
use Rattle.bl_format.specs.declared.layout.Leaf.{Leaf}
use Rattle.bl_format.specs.Layout.{HasLayout, NamedLeaf, leaf_of, leaves_of, named_leaves, no_leaf, struct_length, struct_name}
use Rattle.bl_selection.specs.declared.draft.Draft.{Draft}
use Rattle.bl_selection.specs.Fate.{source_leaf}
use Rattle.bl_plan.specs.SourcePlaces.{source_place}
use Rattle.bl_plan.proofs.PlanLaws.{source_at, source_nowhere}
use Rattle.bl_file.specs.declared.outline.Outline.{Outline}
use Rattle.bl_file.specs.declared.speakers.Speaker.{Speaker}
use Rattle.bl_file.specs.Heard.{AreHeard}
use Rattle.bl_file.specs.Outlines.{IsSound}
use Rattle.bl_file.specs.Speakers.{IsHeard, basic_lengths}
use Rattle.bl_draft.specs.Own.{IsSourceDraft, entry_heads}
use Rattle.bl_draft.specs.Speakers.{SpeaksAs, carried_speakers, met_speaker, met_speakers, speaker_at, speakers_by}
use Rattle.bl_draft.specs.declared.structs.TargetStructs.{TargetStructs}
use Rattle.bl_draft.specs.Numbers.{number_at}
use Rattle.bl_draft.specs.Structs.{AreStructsOf, number_under, source_form, target_form}
use Rattle.bl_draft.proofs.KeptLemmas.{number-index}
use Rattle.bl_draft.proofs.SpeakerFacts.{met_speakers-heard}
use Rattle.bl_draft.proofs.OutlineFacts.{heads-inside, heads-namesakes}
use Rattle.bl_draft.proofs.StructsPlanned.{namesake}

-- ---- one struct

-- the number of a struct under a draft's catalogue, as it is looked up
pub number-known : (o : Outline) (d : Draft) (structs : TargetStructs) (numbers : List ℕ) (s t : ℕ) → AreStructsOf o d structs
    → numbers ≡ structs.numbers.items → s < length o.layout.catalogue.structs → t ≡ number_at numbers s → t ≡ number_under o d s
number-known o d structs numbers s t are same lt is =
    is ∙ ap (λ ns. number_at ns s) (same ∙ are.numbers) ∙ number-index d.catalogue o.layout.catalogue s (inr lt)

-- where it isn't 0, the struct of that number is there and has the same name
pub namesake-known : (o : Outline) (d : Draft) (structs : TargetStructs) (s t : ℕ) → AreStructsOf o d structs → t ≡ number_under o d s → t ≢ 0
    → (t < length structs.layout.now.catalogue.structs) × (struct_name o.layout.catalogue s ≡ struct_name structs.layout.now.catalogue t)
namesake-known o d structs s t are number some =
    let there = namesake d.catalogue o.layout.catalogue s (λ none. some (number ∙ none)) in (
      omega (arith, number, there.within, ap (λ (k : Catalogue). length k.structs) are.catalogue),
      sym there.name_is ∙ ap (struct_name d.catalogue) (sym number) ∙ ap (λ (k : Catalogue). struct_name k t) (sym are.catalogue),
    )

-- a leaf by the place that is found says what it says by the leaf that it meets
speaker_met : (basics : List (Option ℕ)) (xs : List NamedLeaf) (y : NamedLeaf)
    → speaker_at basics (map leaf_of xs) (leaf_of y) (source_place xs y)
    ≡ option_and_then (λ x. met_speaker basics (leaf_of y) (leaf_of x)) (source_leaf xs y)
speaker_met basics xs y = go (source_place xs y) refl
  where
    go : (o : Option ℕ) → source_place xs y ≡ o
        → speaker_at basics (map leaf_of xs) (leaf_of y) o ≡ option_and_then (λ x. met_speaker basics (leaf_of y) (leaf_of x)) (source_leaf xs y)
    go None is = sym (ap (option_and_then (λ x. met_speaker basics (leaf_of y) (leaf_of x))) (source_nowhere xs y is))
    go (Some j) is =
        let there = source_at xs y j is in
        let inside : j < length (map leaf_of xs) = omega (arith, there.0, length-map xs leaf_of) in
        ap (option_and_then (met_speaker basics (leaf_of y)))
        (slice_get-get_or (map leaf_of xs) j (leaf_of no_leaf) inside ∙ ap (λ (x : Leaf). Some x) (get_or-map leaf_of xs j no_leaf (leaf_of no_leaf) there.0))
        ∙ sym (ap (option_and_then (λ x. met_speaker basics (leaf_of y) (leaf_of x))) there.1)

-- so do all leaves of a struct
pub speakers_by-met : (basics : List (Option ℕ)) (xs ys : List NamedLeaf)
    → speakers_by basics (map leaf_of xs) (map leaf_of ys) (map (source_place xs) ys) ≡ met_speakers basics xs ys
speakers_by-met basics xs [] = refl
speakers_by-met basics xs (y ∷ ys) =
    let first = speaker_met basics xs y in
    let later = speakers_by-met basics xs ys in
    λ i. cons_option (first i) (later i)

-- what is found of a struct and its namesake, by the leaves of their layouts
pub found-carried : (o : Outline) (d : Draft) (structs : TargetStructs) (s t : ℕ) (basics : List (Option ℕ)) (sources targets : List Leaf)
    → IsSound o → AreStructsOf o d structs → basics ≡ basic_lengths d.catalogue → s < length o.layout.catalogue.structs
    → t ≡ number_at structs.numbers.items s → sources ≡ leaves_of o.layout.catalogue o.layout.width s
    → targets ≡ leaves_of structs.layout.now.catalogue structs.layout.now.width t
    → speakers_by basics sources targets (map (source_place (named_leaves o.layout.catalogue o.layout.width s)) (named_leaves structs.layout.now.catalogue structs.layout.now.width t))
    ≡ carried_speakers o d s
unfolding leaves_of
found-carried o d structs s t basics sources targets sound are basics_are lt number sources_are targets_are =
    let number_is : t ≡ number_under o d s =
    number ∙ ap (λ ns. number_at ns s) are.numbers ∙ number-index d.catalogue o.layout.catalogue s (inr lt) in
    (λ i. speakers_by (basics_are i) (sources_are i) (targets_are i)
    (map (source_place (named_leaves o.layout.catalogue o.layout.width s)) (named_leaves structs.layout.now.catalogue structs.layout.now.width t)))
    ∙ (λ i. speakers_by (basic_lengths d.catalogue) (leaves_of o.layout.catalogue (sound.width i) s) (leaves_of (are.catalogue i) (are.width i) (number_is i))
    (map (source_place (named_leaves o.layout.catalogue (sound.width i) s)) (named_leaves (are.catalogue i) (are.width i) (number_is i))))
    ∙ speakers_by-met (basic_lengths d.catalogue) (source_form o s).leaves (target_form o d s).leaves

-- what is carried of a sound outline's struct can be heard
pub carried_speakers-heard : (o : Outline) (d : Draft) (s : ℕ) → IsSound o
    → All (IsHeard (struct_length o.layout.catalogue s)) (carried_speakers o d s)
carried_speakers-heard o d s sound =
    met_speakers-heard o.layout.catalogue o.header.width s (basic_lengths d.catalogue) (target_form o d s).leaves
    (subst (HasLayout o.layout.catalogue) sound.width sound.has_layout)

-- ---- structs that nodes have

-- the structs of the first i nodes are flagged
pub record UsedSoFar (count : ℕ) (heads : List Head) (i : ℕ) (used : List Bool) : Type 0 where
  pub len : length used ≡ count
  pub nodes : All (λ (x : Head). x.index < count → get_or used x.index false ≡ true) (take i heads)

pub used_none : (count : ℕ) (heads : List Head) (used : List Bool) → used ≡ replicate count false → UsedSoFar count heads 0 used
used_none count heads used is = record {
  len = ap length is ∙ length-replicate count false;
  nodes = All-nil (λ (x : Head). x.index < count → get_or used x.index false ≡ true);
}

module _ (count : ℕ) (heads : List Head) (i : ℕ) (z : Head) (used : List Bool) (lt : i < length heads) (so_far : UsedSoFar count heads i used) where
  abbrev here : Head
  here = get_or heads i z

  -- one node more, whose struct isn't among them
  pub used_pass : count ≤ here.index → UsedSoFar count heads (i + 1) used
  used_pass past = record {
    len = so_far.len;
    nodes = All-more (λ (x : Head). x.index < count → get_or used x.index false ≡ true) heads i z lt so_far.nodes (λ inside. absurd (omega (arith, inside, past)));
  }

  still : (x : Head) → (x.index < count → get_or used x.index false ≡ true) → here.index < count
      → x.index < count → get_or (set used here.index true) x.index false ≡ true
  still x before within inside = by (x.index == here.index) refl
    where
      by : (b : Bool) → (x.index == here.index) ≡ b → get_or (set used here.index true) x.index false ≡ true
      by true is = ap (λ n. get_or (set used here.index true) n false) (eqb-true x.index here.index is) ∙ get_or-set_same used here.index true false (omega (arith, within, so_far.len))
      by false is =
          get_or-set_other used here.index x.index true false (λ same. let both : true ≡ false = sym (eq-eqb x.index here.index same) ∙ is in absurd (cc))
          ∙ before inside

  -- one node more, whose struct is flagged
  pub used_more : here.index < count → UsedSoFar count heads (i + 1) (set used here.index true)
  used_more within = record {
    len = length-set used here.index true ∙ so_far.len;
    nodes = All-more (λ (x : Head). x.index < count → get_or (set used here.index true) x.index false ≡ true) heads i z lt
        (λ k e below. still (get_or (take i heads) k e) (so_far.nodes k e below) within)
        (λ inside. get_or-set_same used here.index true false (omega (arith, within, so_far.len)));
  }

-- ---- all structs

module _ (o : Outline) (d : Draft) (used : List Bool) where
  -- the leaves of a struct that say anything, if it is used and has a namesake, and they can be heard
  pub record AreSpeakersOf (s : ℕ) (own : List Speaker) : Type 0 where
    pub are : get_or used s false ≡ true → number_under o d s ≢ 0 → own ≡ carried_speakers o d s
    pub heard : All (IsHeard (struct_length o.layout.catalogue s)) own

  -- the first n structs have theirs
  pub record SpeakersSoFar (n : ℕ) (speakers : List (List Speaker)) : Type 0 where
    pub len : length speakers ≡ n
    pub each : (s : ℕ) → s < n → AreSpeakersOf s (get_or speakers s [])

  pub speakers_none : SpeakersSoFar 0 []
  speakers_none = record { len = refl; each = λ s lt. absurd (omega (arith, lt)) }

  -- one struct more
  pub speakers_more : (n : ℕ) (speakers : List (List Speaker)) (own : List Speaker) → SpeakersSoFar n speakers → AreSpeakersOf n own
      → SpeakersSoFar (n + 1) (speakers ++ own ∷ [])
  speakers_more n speakers own so_far are = record {
    len = length-append speakers (own ∷ []) ∙ ap (λ k. k + 1) so_far.len;
    each = λ s lt. elim (cases_lt s n) [
      | inl less ↦ subst (AreSpeakersOf s) (sym (get_or_append_left speakers (own ∷ []) [] s (omega (arith, less, so_far.len)))) (so_far.each s less)
      | inr most ↦ (let last : n ≡ s = omega (arith, lt, most) in
          subst (λ k. AreSpeakersOf k (get_or (speakers ++ own ∷ []) k [])) last
          (subst (AreSpeakersOf n) (sym (get_or_push speakers own [] n so_far.len)) are))
    ];
  }

  -- all can be heard
  pub speakers_heard : (n : ℕ) (speakers : List (List Speaker)) → n ≡ length o.layout.catalogue.structs → SpeakersSoFar n speakers
      → AreHeard o.layout.catalogue speakers
  speakers_heard n speakers is so_far = record {
    len = so_far.len ∙ is;
    each = λ s lt. (so_far.each s (omega (arith, lt, is))).heard;
  }

  -- and say what the structs of nodes say
  pub speakers_say : (n count : ℕ) (speakers : List (List Speaker)) (heads : List Head) → IsSound o → IsSourceDraft o d → heads ≡ entry_heads o.nodes d.entries
      → n ≡ length o.layout.catalogue.structs → count ≡ length o.layout.catalogue.structs
      → All (λ (x : Head). x.index < count → get_or used x.index false ≡ true) heads → SpeakersSoFar n speakers
      → All (SpeaksAs o d speakers) heads
  speakers_say n count speakers heads sound source are is whole flagged so_far k e lt some =
      let x : Head = get_or heads k e in
      let inside = heads-inside o d heads sound source are k e lt some in
      let own = so_far.each x.index (omega (arith, inside, is)) in
      own.are (flagged k e lt (omega (arith, inside, whole))) (heads-namesakes o d heads source are k e lt some)
