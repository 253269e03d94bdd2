use Rattle.std.proofs.Common.{◌≡◌, inl, inr, true, false, All, sym, ap, subst, ◌∙◌}
use Rattle.bl_format.specs.Layout.{struct_length}
use Rattle.bl_file.specs.Speakers.{IsHeard}
use Rattle.bl_draft.specs.Numbers.{number_at}
use Rattle.bl_draft.specs.Speakers.{speakers_by}
use Rattle.bl_draft.proofs.SpeakersMade.{carried_speakers-heard, found-carried, namesake-known, number-known}
use Rattle.bl_draft.proofs.speakers.struct_speakers.Goals as goal

pub returns-then-not-is_used-clause-speakers : goal.returns-then-not-is_used-clause-speakers
returns-then-not-is_used-clause-speakers c used some =
    let x = c.args.prepared.now in
    let number = number-known x.outline.now x.draft.now x.structs.now c.deref.result.now c.args.s c.number_at-t.result c.requires.structs
    c.deref.ensures.value c.requires.s c.number_at-t.ensures in
    elim c.then-not-is_used.either [
      | inl not_used ↦ (let both : true ≡ false = sym used ∙ not_used in absurd (cc))
      | inr none ↦ absurd (some (sym number ∙ none.1))
    ]

pub source_places-requires-clause-t : goal.source_places-requires-clause-t
source_places-requires-clause-t c =
    let x = c.args.prepared.now in
    let number = number-known x.outline.now x.draft.now x.structs.now c.deref.result.now c.args.s c.number_at-t.result c.requires.structs
    c.deref.ensures.value c.requires.s c.number_at-t.ensures in
    (namesake-known x.outline.now x.draft.now x.structs.now c.args.s c.number_at-t.result c.requires.structs number c.if-t-eq0.false).0

pub source_places-requires-clause-name : goal.source_places-requires-clause-name
source_places-requires-clause-name c =
    let x = c.args.prepared.now in
    let number = number-known x.outline.now x.draft.now x.structs.now c.deref.result.now c.args.s c.number_at-t.result c.requires.structs
    c.deref.ensures.value c.requires.s c.number_at-t.ensures in
    (namesake-known x.outline.now x.draft.now x.structs.now c.args.s c.number_at-t.result c.requires.structs number c.if-t-eq0.false).1

pub leaves-requires-2 : goal.leaves-requires-2
leaves-requires-2 c =
    let x = c.args.prepared.now in
    let number = number-known x.outline.now x.draft.now x.structs.now c.deref.result.now c.args.s c.number_at-t.result c.requires.structs
    c.deref.ensures.value c.requires.s c.number_at-t.ensures in
    (namesake-known x.outline.now x.draft.now x.structs.now c.args.s c.number_at-t.result c.requires.structs number c.if-t-eq0.false).0

pub returns-clause-speakers : goal.returns-clause-speakers
returns-clause-speakers c used some =
    let x = c.args.prepared.now in
    c.in_ok-speakers_by.ensures
    ∙ ap (λ found. speakers_by c.args.basics.now c.leaves.result.now c.leaves-2.result.now found) (c.deref-2.ensures.value ∙ c.in_ok-found.ensures)
    ∙ found-carried x.outline.now x.draft.now x.structs.now c.args.s c.number_at-t.result c.args.basics.now c.leaves.result.now c.leaves-2.result.now
    c.requires.sound c.requires.structs c.requires.basics c.requires.s (c.number_at-t.ensures ∙ ap (λ ns. number_at ns c.args.s) c.deref.ensures.value)
    c.leaves.ensures.leaves c.leaves-2.ensures.leaves

pub returns-clause-heard : goal.returns-clause-heard
returns-clause-heard c =
    let x = c.args.prepared.now in
    let own = c.in_ok-speakers_by.ensures
    ∙ ap (λ found. speakers_by c.args.basics.now c.leaves.result.now c.leaves-2.result.now found) (c.deref-2.ensures.value ∙ c.in_ok-found.ensures)
    ∙ found-carried x.outline.now x.draft.now x.structs.now c.args.s c.number_at-t.result c.args.basics.now c.leaves.result.now c.leaves-2.result.now
    c.requires.sound c.requires.structs c.requires.basics c.requires.s (c.number_at-t.ensures ∙ ap (λ ns. number_at ns c.args.s) c.deref.ensures.value)
    c.leaves.ensures.leaves c.leaves-2.ensures.leaves in
    subst (All (IsHeard (struct_length x.outline.now.layout.catalogue c.args.s))) (sym own)
    (carried_speakers-heard x.outline.now x.draft.now c.args.s c.requires.sound)
