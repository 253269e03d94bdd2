use Rattle.bl_run.specs.Commands.Schema.{schema_meaning}
use Rattle.bl_run.proofs.Obeying.{printed_obeys, unread_ends}
use Rattle.bl_run.proofs.Opens.{unopened}
use Rattle.bl_run.proofs.CommandLaws.Schema.{schema_of_input, schema_unopened, schema_writes}
use Rattle.bl_run.proofs.commands.schema.schema.Goals as goal

pub returns-in-Err-clause-obeys : goal.returns-in-Err-clause-obeys
returns-in-Err-clause-obeys g c =
    let input = c.args.input.now in
    let not = unopened g.S.Shelf 0 input c.in-Err.fault c.open_ending.result _ _ c.open_ending.ensures c.open.ensures.keeps c.in-Err.ensures.cause c.in-Err.ensures.refuses in
    let ends = schema_unopened g.S.Shelf input _ _ c.open_ending.result not in
    unread_ends g.S.Shelf g.O.Sink (schema_meaning input) (schema_writes input) _ _ c.args.out.now c.requires c.open.ensures.keeps c.open_ending.result not.blamed ends.0 ends.1

pub returns-in-Ok-clause-obeys : goal.returns-in-Ok-clause-obeys
returns-in-Ok-clause-obeys g c =
    printed_obeys g.S.Shelf g.O.Sink (schema_meaning c.args.input.now) (schema_writes c.args.input.now) _ _ _ c.requires c.open.ensures.keeps _ _ c.print_schema.result
    (schema_of_input _ (g.S.Shelf.told c.args.shelf.now) c.args.input.now c.in-Ok.file.outline c.in-Ok.ensures.passes c.in-Ok.ensures.stands) c.in-Ok.ensures.cause c.print_schema.ensures.puts
