use Rattle.std.proofs.Common.{ap, sym, ◌∙◌, inr}
use Rattle.bl_layout.specs.LaidOut.{LaidOut}
use Rattle.bl_layout.specs.NewLengths.{new_lengths}
use Rattle.bl_layout.proofs.NewLengthLemmas.{rewidth_fault-lengths}
use Rattle.bl_layout.proofs.new_width.checked_lengths.Goals as goal

pub returns-in-Some-clause-refuses : goal.returns-in-Some-clause-refuses
returns-in-Some-clause-refuses c =
    let same = c.in_ok-lengths.ensures ∙ ap (λ (l : LaidOut). new_lengths l.catalogue l.width c.args.to) c.in_ok-layout.ensures.made in
    inr (rewidth_fault-lengths c.args.catalogue.now c.args.from c.args.to c.deref.result.now (c.deref.ensures.value ∙ same) ∙ sym c.in-Some.ensures)

pub returns-clause-passes : goal.returns-clause-passes
returns-clause-passes c =
    let same = c.in_ok-lengths.ensures ∙ ap (λ (l : LaidOut). new_lengths l.catalogue l.width c.args.to) c.in_ok-layout.ensures.made in
    rewidth_fault-lengths c.args.catalogue.now c.args.from c.args.to c.deref.result.now (c.deref.ensures.value ∙ same) ∙ sym c.in-None.ensures
