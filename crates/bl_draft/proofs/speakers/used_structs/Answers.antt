use Rattle.std.proofs.Common.{◌≡◌, ◌<◌, ◌+◌, true, false, Bool, All, Vec, Global, get_or, sym, subst}
use Rattle.std.proofs.lemmas.List.{take_all}
use Rattle.bl_format.specs.declared.file.Head.{Head}
use Rattle.bl_draft.proofs.SpeakersMade.{UsedSoFar, used_pass, used_more}
use Rattle.bl_draft.proofs.speakers.used_structs.Goals.{then-s-count, else-s-count}
use Rattle.bl_draft.proofs.speakers.used_structs.Goals as goal

pub loop-head-preserved : goal.loop-head-preserved
loop-head-preserved c =
    let count = c.args.count in
    let heads = c.args.heads.now in
    let i = c.loop-head.head-index in
    elim c.if-s-count.branch [
      | then-s-count w ↦
          subst (λ (used : Vec Bool Global). UsedSoFar count heads (i + 1) used.items) (sym w.used-is)
          (used_more count heads i _ c.loop-head.used.items c.loop-head-test.true c.loop-head.invariant w.if-s-count.true)
      | else-s-count w ↦
          subst (λ (used : Vec Bool Global). UsedSoFar count heads (i + 1) used.items) (sym w.used-is)
          (used_pass count heads i _ c.loop-head.used.items c.loop-head-test.true c.loop-head.invariant w.if-s-count.false)
    ]

pub returns-clause-used : goal.returns-clause-used
returns-clause-used c =
    subst (All (λ (x : Head). x.index < c.args.count → get_or c.loop-head.used.items x.index false ≡ true))
    (take_all c.loop-head.head-index c.args.heads.now c.loop-head-test.false) c.loop-head.invariant.nodes
