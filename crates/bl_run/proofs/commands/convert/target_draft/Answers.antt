use Rattle.std.proofs.Common.{refl, arith}
use Rattle.std.proofs.lemmas.Result.{IfErr-weaker}
use Rattle.bl_run.proofs.CommandLaws.Conversions.{form_unwritten, forms_written, own_model}
use Rattle.bl_run.proofs.commands.convert.target_draft.Goals as goal

pub returns-in-None-clause-draft : goal.returns-in-None-clause-draft
returns-in-None-clause-draft g c =
    let file = c.args.file.now in
    let o = c.args.options.now in
    forms_written g.S.Shelf _ o.like o.width o.order _ file.outline file.outline file.payload c.form_draft.result
    (own_model g.S.Shelf o.like _ file.outline c.in-None.is) c.form_draft.ensures.fits c.form_draft.ensures.draft

pub returns-in-None-clause-unready : goal.returns-in-None-clause-unready
returns-in-None-clause-unready g c =
    let file = c.args.file.now in
    let o = c.args.options.now in
    let shelf = c.args.shelf.now in
    IfErr-weaker c.form_draft.result _ _
    (λ e not. form_unwritten g.S.Shelf _ o.like o.width o.order shelf shelf file.outline file.outline file.payload e c.requires.idle
    (record { told = refl; room = refl; history = refl; faults = omega arith; misses = omega arith })
    (own_model g.S.Shelf o.like shelf file.outline c.in-None.is) not)
    c.form_draft.ensures.refuses
