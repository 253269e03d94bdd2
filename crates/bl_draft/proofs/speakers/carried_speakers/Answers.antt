use Rattle.std.proofs.Common.{◌+◌, false, List, ◌++◌, [], ◌∷◌, sym, ap, subst, ◌∙◌, arith}
use Rattle.std.proofs.lemmas.List.{get_or_default}
use Rattle.bl_file.specs.declared.speakers.Speaker.{Speaker}
use Rattle.bl_draft.proofs.SpeakersMade.{AreSpeakersOf, SpeakersSoFar, speakers_more, speakers_heard, speakers_say}
use Rattle.bl_draft.proofs.speakers.carried_speakers.Goals as goal

pub loop-s-preserved : goal.loop-s-preserved
loop-s-preserved c =
    let o = c.args.prepared.now.outline.now in
    let d = c.args.prepared.now.draft.now in
    let used = c.in_ok-used.used.items in
    let is_used = c.index.ensures ∙ get_or_default used c.loop-s.s c.index.result.now false (omega (arith, c.loop-s-test.true, c.in_ok-used.ensures.len)) in
    let own : AreSpeakersOf o d used c.loop-s.s c.in_ok-own.own.items = record {
      are = λ flag some. c.in_ok-own.ensures.speakers (is_used ∙ flag) some;
      heard = c.in_ok-own.ensures.heard;
    } in
    subst (SpeakersSoFar o d used (c.loop-s.s + 1))
    (sym (c.in_ok-push.ensures.items ∙ ap (λ (own : List Speaker). c.loop-s.speakers.items ++ own ∷ []) c.from_vec.ensures))
    (speakers_more o d used c.loop-s.s c.loop-s.speakers.items c.in_ok-own.own.items c.loop-s.invariant own)

pub returns-clause-heard : goal.returns-clause-heard
returns-clause-heard c =
    speakers_heard c.args.prepared.now.outline.now c.args.prepared.now.draft.now c.in_ok-used.used.items c.loop-s.s c.loop-s.speakers.items
    (omega (arith, c.loop-s-test.false, c.loop-s.auto.s-end, c.struct_count-count.ensures)) c.loop-s.invariant

pub returns-clause-says : goal.returns-clause-says
returns-clause-says c =
    speakers_say c.args.prepared.now.outline.now c.args.prepared.now.draft.now c.in_ok-used.used.items c.loop-s.s c.struct_count-count.result c.loop-s.speakers.items
    c.args.prepared.now.heads.now c.requires.sound c.requires.draft c.requires.heads
    (omega (arith, c.loop-s-test.false, c.loop-s.auto.s-end, c.struct_count-count.ensures)) c.struct_count-count.ensures
    c.in_ok-used.ensures.used c.loop-s.invariant
