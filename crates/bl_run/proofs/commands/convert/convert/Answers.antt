use Rattle.bl_run.specs.Commands.Convert.{convert_meaning}
use Rattle.bl_file.proofs.CallLemmas.{keeps_on, quiet_on}
use Rattle.bl_run.proofs.CommandLaws.Conversions.{conversion_unopened, input_later, input_opened, writes_later}
use Rattle.bl_run.proofs.CommandLaws.Convert.{convert_writes}
use Rattle.bl_run.proofs.Obeying.{unready_ends, written_obeys}
use Rattle.bl_run.proofs.Opens.{unopened}
use Rattle.bl_run.proofs.Read.{ready_before, unready_before}
use Rattle.bl_run.proofs.commands.convert.convert.Goals as goal

pub returns-in-Err-clause-obeys : goal.returns-in-Err-clause-obeys
returns-in-Err-clause-obeys g c =
    let input = c.args.input.now in
    let name = c.args.name.now in
    let o = c.args.options.now in
    let not = unopened g.S.Shelf 0 input c.in-Err.fault c.open_ending.result _ _ c.open_ending.ensures c.open.ensures.keeps c.in-Err.ensures.cause c.in-Err.ensures.refuses in
    unready_ends g.S.Shelf g.O.Sink (convert_meaning input name o.like o.width o.order) name (convert_writes input name o.like o.width o.order) _ _ c.args.out.now c.open_ending.result
    (conversion_unopened g.S.Shelf input name o.like o.width o.order _ _ c.open_ending.result c.requires c.open.ensures.keeps not)

pub returns-in-Err-target_draft-clause-obeys : goal.returns-in-Err-target_draft-clause-obeys
returns-in-Err-target_draft-clause-obeys g c =
    let input = c.args.input.now in
    let name = c.args.name.now in
    let o = c.args.options.now in
    let file = c.in-Ok.file in
    let opened = c.in-Ok.ensures in
    let ending = c.in-Err-target_draft.ending in
    unready_ends g.S.Shelf g.O.Sink (convert_meaning input name o.like o.width o.order) name (convert_writes input name o.like o.width o.order) _ _ c.args.out.now ending
    (unready_before g.S.Shelf (convert_meaning input name o.like o.width o.order) name _ _ _ c.open.ensures.keeps opened.cause ending
    (c.in-Err-target_draft.ensures.unready input name (input_opened g.S.Shelf _ input _ _ file.outline file.payload c.open.ensures.keeps opened.sound opened.name opened.size opened.stands opened.passes)))

pub stage_conversion-requires-clause-input : goal.stage_conversion-requires-clause-input
stage_conversion-requires-clause-input g c =
    let input = c.args.input.now in
    let file = c.in-Ok.file in
    let opened = c.in-Ok.ensures in
    input_later g.S.Shelf _ input _ _ file.outline file.payload c.target_draft.ensures.keeps
    (input_opened g.S.Shelf _ input _ _ file.outline file.payload c.open.ensures.keeps opened.sound opened.name opened.size opened.stands opened.passes)

pub returns-in-Err-stage_conversion-clause-obeys : goal.returns-in-Err-stage_conversion-clause-obeys
returns-in-Err-stage_conversion-clause-obeys g c =
    let input = c.args.input.now in
    let name = c.args.name.now in
    let o = c.args.options.now in
    let file = c.in-Ok.file in
    let opened = c.in-Ok.ensures in
    let made = c.in-Ok-target_draft.ensures in
    let ending = c.in-Err-stage_conversion.ending in
    let writes = writes_later g.S.Shelf (convert_meaning input name o.like o.width o.order) input name _ _ c.in-Ok-target_draft.draft c.target_draft.ensures.keeps
    (made.draft input name (input_opened g.S.Shelf _ input _ _ file.outline file.payload c.open.ensures.keeps opened.sound opened.name opened.size opened.stands opened.passes)) in
    unready_ends g.S.Shelf g.O.Sink (convert_meaning input name o.like o.width o.order) name (convert_writes input name o.like o.width o.order) _ _ c.args.out.now ending
    (unready_before g.S.Shelf (convert_meaning input name o.like o.width o.order) name _ _ _ (keeps_on g.S.Shelf _ _ _ c.open.ensures.keeps c.target_draft.ensures.keeps) (quiet_on opened.cause made.quiet) ending
    (c.in-Err-stage_conversion.ensures.unready o.like o.width o.order writes))

pub commit-requires : goal.commit-requires
commit-requires g c =
    let input = c.args.input.now in
    let name = c.args.name.now in
    let o = c.args.options.now in
    let file = c.in-Ok.file in
    let opened = c.in-Ok.ensures in
    let writes = writes_later g.S.Shelf (convert_meaning input name o.like o.width o.order) input name _ _ c.in-Ok-target_draft.draft c.target_draft.ensures.keeps
    (c.in-Ok-target_draft.ensures.draft input name (input_opened g.S.Shelf _ input _ _ file.outline file.payload c.open.ensures.keeps opened.sound opened.name opened.size opened.stands opened.passes)) in
    (c.in-Ok-stage_conversion.ensures.ready o.like o.width o.order writes).room

pub returns-clause-obeys : goal.returns-clause-obeys
returns-clause-obeys g c =
    let input = c.args.input.now in
    let name = c.args.name.now in
    let o = c.args.options.now in
    let file = c.in-Ok.file in
    let opened = c.in-Ok.ensures in
    let made = c.in-Ok-target_draft.ensures in
    let line = c.in-Ok-stage_conversion.line.items in
    let writes = writes_later g.S.Shelf (convert_meaning input name o.like o.width o.order) input name _ _ c.in-Ok-target_draft.draft c.target_draft.ensures.keeps
    (made.draft input name (input_opened g.S.Shelf _ input _ _ file.outline file.payload c.open.ensures.keeps opened.sound opened.name opened.size opened.stands opened.passes)) in
    written_obeys g.S.Shelf g.O.Sink (convert_meaning input name o.like o.width o.order) name (convert_writes input name o.like o.width o.order) _ _ _ _ _ line c.deref.result.now c.commit.result c.deref.ensures.value
    (ready_before g.S.Shelf (convert_meaning input name o.like o.width o.order) name _ _ _ (keeps_on g.S.Shelf _ _ _ c.open.ensures.keeps c.target_draft.ensures.keeps) (quiet_on opened.cause made.quiet) line
    (c.in-Ok-stage_conversion.ensures.ready o.like o.width o.order writes)) c.commit.ensures.commits
