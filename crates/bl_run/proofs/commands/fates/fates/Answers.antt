use Rattle.bl_run.specs.Commands.Fates.{fates_meaning}
use Rattle.bl_file.proofs.CallLemmas.{keeps_on, quiet_on}
use Rattle.bl_run.proofs.Obeying.{printed_obeys, unread_ends}
use Rattle.bl_run.proofs.Opens.{unopened}
use Rattle.bl_run.proofs.Read.{blamed_before}
use Rattle.bl_run.proofs.CommandLaws.Fates.{fates_of_inputs, fates_unopened, fates_unopened_second, fates_writes}
use Rattle.bl_run.proofs.commands.fates.fates.Goals as goal

pub returns-in-Err-clause-obeys : goal.returns-in-Err-clause-obeys
returns-in-Err-clause-obeys g c =
    let input = c.args.input.now in
    let cat = c.args.cat.now in
    let not = unopened g.S.Shelf 0 input c.in-Err.fault c.open_ending.result _ _ c.open_ending.ensures c.open.ensures.keeps c.in-Err.ensures.cause c.in-Err.ensures.refuses in
    let ends = fates_unopened g.S.Shelf input cat _ _ c.open_ending.result not in
    unread_ends g.S.Shelf g.O.Sink (fates_meaning input cat) (fates_writes input cat) _ _ c.args.out.now c.requires c.open.ensures.keeps c.open_ending.result not.blamed ends.0 ends.1

pub returns-in-Err-open-clause-obeys : goal.returns-in-Err-open-clause-obeys
returns-in-Err-open-clause-obeys g c =
    let input = c.args.input.now in
    let cat = c.args.cat.now in
    let source = c.in-Ok.source.outline in
    let ending = c.open_ending-in-Err-open.result in
    let not = unopened g.S.Shelf source.size cat c.in-Err-open.fault ending _ _ c.open_ending-in-Err-open.ensures c.open-2.ensures.keeps c.in-Err-open.ensures.cause c.in-Err-open.ensures.refuses in
    let ends = fates_unopened_second g.S.Shelf _ input cat source _ _ _ ending c.open.ensures.keeps c.in-Ok.ensures.passes c.in-Ok.ensures.stands not in
    unread_ends g.S.Shelf g.O.Sink (fates_meaning input cat) (fates_writes input cat) _ _ c.args.out.now c.requires (keeps_on g.S.Shelf _ _ _ c.open.ensures.keeps c.open-2.ensures.keeps)
    ending (blamed_before g.S.Shelf _ _ _ c.in-Ok.ensures.cause ending not.blamed) ends.0 ends.1

pub returns-clause-obeys : goal.returns-clause-obeys
returns-clause-obeys g c =
    let input = c.args.input.now in
    let cat = c.args.cat.now in
    printed_obeys g.S.Shelf g.O.Sink (fates_meaning input cat) (fates_writes input cat) _ _ _ c.requires (keeps_on g.S.Shelf _ _ _ c.open.ensures.keeps c.open-2.ensures.keeps) _ _ c.print_fates.result
    (fates_of_inputs _ _ input cat c.in-Ok.source.outline c.in-Ok-open.target.outline c.in-Ok.ensures.sound.width c.in-Ok-open.ensures.sound.width
    (g.S.Shelf.told c.args.shelf.now) _ c.open.ensures.keeps.told c.in-Ok.ensures.passes c.in-Ok-open.ensures.passes c.in-Ok.ensures.stands c.in-Ok-open.ensures.stands)
    (quiet_on c.in-Ok.ensures.cause c.in-Ok-open.ensures.cause) c.print_fates.ensures.puts
