use Rattle.std.proofs.Common.{Some}
use Rattle.std.proofs.lemmas.Result.{IfErr-weaker}
use Rattle.bl_run.proofs.CommandLaws.Conversions.{cat_model, cat_unopened, form_unwritten, forms_written}
use Rattle.bl_run.proofs.Opens.{unopened}
use Rattle.bl_run.proofs.commands.convert.draft_by_catalogue.Goals as goal

pub returns-in-Err-clause-unready : goal.returns-in-Err-clause-unready
returns-in-Err-clause-unready g c =
    let file = c.args.file.now in
    let cat = c.args.cat.now in
    let not = unopened g.S.Shelf file.outline.size cat c.in-Err.fault c.open_ending.result _ _ c.open_ending.ensures c.open.ensures.keeps c.in-Err.ensures.cause c.in-Err.ensures.refuses in
    cat_unopened g.S.Shelf _ cat c.args.width c.args.order _ _ file.outline file.payload c.open_ending.result c.requires.idle c.open.ensures.keeps not

pub returns-clause-draft : goal.returns-clause-draft
returns-clause-draft g c =
    let file = c.args.file.now in
    let q = c.in-Ok.model.outline in
    let opened = c.in-Ok.ensures in
    forms_written g.S.Shelf _ (Some c.args.cat.now) c.args.width c.args.order _ file.outline q file.payload c.form_draft.result
    (cat_model g.S.Shelf c.args.cat.now _ file.outline q _ opened.stands opened.passes) c.form_draft.ensures.fits c.form_draft.ensures.draft

pub returns-clause-unready : goal.returns-clause-unready
returns-clause-unready g c =
    let file = c.args.file.now in
    let q = c.in-Ok.model.outline in
    let opened = c.in-Ok.ensures in
    IfErr-weaker c.form_draft.result _ _
    (λ e not. form_unwritten g.S.Shelf _ (Some c.args.cat.now) c.args.width c.args.order _ _ file.outline q file.payload e c.requires.idle c.open.ensures.keeps
    (cat_model g.S.Shelf c.args.cat.now _ file.outline q _ opened.stands opened.passes) not)
    c.form_draft.ensures.refuses
