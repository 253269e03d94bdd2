use Rattle.std.specs.Prelude.{map}
use Rattle.std.specs.String.{string_bytes}
use Rattle.bl_commands.specs.Commands.{command_of}
use Rattle.bl_run.proofs.CommandLaws.{all_lawful}
use Rattle.bl_run.proofs.Runs.{run_room, run_status, run_checked, run_complete, run_done, run_accomplishes, run_left, run_lines, run_writes, run_blames, run_absent}
use Rattle.bl_run.specs.Commands.{command_in, meaning_in}
use Rattle.bl_run.proofs.running.run.Goals as goal

pub returns-clause-statuses : goal.returns-clause-statuses
returns-clause-statuses g c = run_status (command_in c.args.words.now) c.perform-done.result c.conclude.result _ _ _ _ (c.perform-done.ensures.usage (command_of (map string_bytes c.args.words.now)) c.command_of-command.ensures) c.conclude.ensures.concludes

pub returns-clause-room : goal.returns-clause-room
returns-clause-room g c = run_room g.S.Shelf g.O.Sink (meaning_in c.args.words.now) _ _ _ _ c.args.out.now c.conclude.result c.perform-done.result (c.perform-done.ensures.obeys (command_of (map string_bytes c.args.words.now)) c.command_of-command.ensures)

pub returns-clause-lawful : goal.returns-clause-lawful
returns-clause-lawful g c = all_lawful (command_in c.args.words.now)

pub returns-clause-checked : goal.returns-clause-checked
returns-clause-checked g c = run_checked g.S.Shelf g.O.Sink (meaning_in c.args.words.now) _ _ _ _ _ c.conclude.result c.perform-done.result (c.perform-done.ensures.obeys (command_of (map string_bytes c.args.words.now)) c.command_of-command.ensures) c.conclude.ensures.concludes

pub returns-clause-complete : goal.returns-clause-complete
returns-clause-complete g c = run_complete g.S.Shelf g.O.Sink (meaning_in c.args.words.now) _ _ _ _ _ c.conclude.result c.perform-done.result (c.perform-done.ensures.obeys (command_of (map string_bytes c.args.words.now)) c.command_of-command.ensures) c.conclude.ensures.concludes c.conclude.ensures.later

pub returns-clause-done : goal.returns-clause-done
returns-clause-done g c = run_done g.S.Shelf g.O.Sink (meaning_in c.args.words.now) _ _ _ _ _ c.conclude.result c.perform-done.result (c.perform-done.ensures.obeys (command_of (map string_bytes c.args.words.now)) c.command_of-command.ensures) c.conclude.ensures.concludes

pub returns-clause-accomplishes : goal.returns-clause-accomplishes
returns-clause-accomplishes g c =
    run_accomplishes g.S.Shelf g.O.Sink (meaning_in c.args.words.now) _ _ _ _ _ c.conclude.result (all_lawful (command_in c.args.words.now)) c.perform-done.result (c.perform-done.ensures.obeys (command_of (map string_bytes c.args.words.now)) c.command_of-command.ensures) c.conclude.ensures.concludes

pub returns-clause-left : goal.returns-clause-left
returns-clause-left g c = run_left g.S.Shelf g.O.Sink (meaning_in c.args.words.now) _ _ _ _ _ c.conclude.result c.perform-done.result (c.perform-done.ensures.obeys (command_of (map string_bytes c.args.words.now)) c.command_of-command.ensures) c.conclude.ensures.concludes

pub returns-clause-lines : goal.returns-clause-lines
returns-clause-lines g c = run_lines g.S.Shelf g.O.Sink (meaning_in c.args.words.now) _ _ _ _ _ c.conclude.result c.perform-done.result (c.perform-done.ensures.obeys (command_of (map string_bytes c.args.words.now)) c.command_of-command.ensures) c.conclude.ensures.concludes

pub returns-clause-writes : goal.returns-clause-writes
returns-clause-writes g c = run_writes g.S.Shelf g.O.Sink (meaning_in c.args.words.now) _ _ _ _ _ c.conclude.result c.perform-done.result (c.perform-done.ensures.obeys (command_of (map string_bytes c.args.words.now)) c.command_of-command.ensures) c.conclude.ensures.concludes

pub returns-clause-blames : goal.returns-clause-blames
returns-clause-blames g c = run_blames g.S.Shelf g.O.Sink (meaning_in c.args.words.now) _ _ _ _ _ c.conclude.result c.perform-done.result (c.perform-done.ensures.obeys (command_of (map string_bytes c.args.words.now)) c.command_of-command.ensures) c.conclude.ensures.concludes c.conclude.ensures.later

pub returns-clause-absent : goal.returns-clause-absent
returns-clause-absent g c = run_absent g.S.Shelf g.O.Sink (meaning_in c.args.words.now) _ _ _ _ _ c.conclude.result c.perform-done.result (c.perform-done.ensures.obeys (command_of (map string_bytes c.args.words.now)) c.command_of-command.ensures) c.conclude.ensures.concludes
