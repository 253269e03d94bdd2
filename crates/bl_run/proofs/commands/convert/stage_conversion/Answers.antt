use Rattle.std.proofs.Common.{arith}
use Rattle.bl_run.specs.Commands.Convert.{convert_meaning}
use Rattle.bl_run.proofs.Drafted.{draft_not_usage, draft_ready, draft_unready}
use Rattle.bl_run.proofs.commands.convert.stage_conversion.Goals as goal

pub returns-in-Err-clause-unready : goal.returns-in-Err-clause-unready
returns-in-Err-clause-unready g c = λ like width order writes.
    let input = c.args.input.now in
    let name = c.args.name.now in
    let file = c.args.file in
    let render = c.in-Err.ensures in
    draft_unready g.S.Shelf (convert_meaning input name like width order) input name _ c.args.draft.now writes _ _ file.outline file.payload c.requires.input render.stages render.holds
    c.in-Err.fault c.write_ending.result render.cause (render.limits 0 file (omega arith)) c.write_ending.ensures

pub returns-in-Err-clause-spelled : goal.returns-in-Err-clause-spelled
returns-in-Err-clause-spelled g c =
    draft_not_usage c.args.draft.now.catalogue c.args.input.now c.in-Err.fault c.write_ending.result c.write_ending.ensures

pub returns-in-Ok-summary_line-clause-ready : goal.returns-in-Ok-summary_line-clause-ready
returns-in-Ok-summary_line-clause-ready g c = λ like width order writes.
    let input = c.args.input.now in
    let name = c.args.name.now in
    let file = c.args.file in
    let render = c.in-Ok.ensures in
    let limits = render.limits 0 file (omega arith) in
    draft_ready g.S.Shelf (convert_meaning input name like width order) input name _ c.args.draft.now writes _ _ file.outline file.payload c.in-Ok.totals c.in-Ok-summary_line.line.items
    c.requires.input render.stages (render.totals 0 file (omega arith)) limits.0 limits.2 (render.staged 0 file (omega arith)) render.cause c.in-Ok-summary_line.ensures
