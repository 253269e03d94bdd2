use Rattle.std.proofs.lemmas.Result.{err_from_is_err_and}
use Rattle.bl_run.proofs.CommandLaws.Fates.{all_lines}
use Rattle.bl_run.proofs.Gathers.{cut_answer, cut_first, puts_once}
use Rattle.bl_run.proofs.commands.fates.print_fates.Goals as goal

pub returns-in_err-add_structs : goal.returns-in_err-add_structs
returns-in_err-add_structs g c =
    let p = err_from_is_err_and c.from_residual-in_err-add_structs.result c.from_residual-in_err-add_structs.ensures.1 in
    record {
      puts = cut_answer g.O.Sink _ _ _ c.from_residual-in_err-add_structs.result p.0 _ p.1 p.2
          (cut_first g.O.Sink _ _ _ _ _ _ c.new-pending.ensures.items (all_lines c.args.from.now.catalogue c.args.from.now.width c.args.to.now.catalogue c.args.to.now.width) c.in_err-add_structs.ensures.puts);
    }

pub returns : goal.returns
returns g c = record {
  puts = puts_once g.O.Sink _ _ _ _ _ _ _ c.put.result c.new-pending.ensures.items (all_lines c.args.from.now.catalogue c.args.from.now.width c.args.to.now.catalogue c.args.to.now.width)
      c.in_ok-add_structs.ensures.puts.0 c.in_ok-add_structs.ensures.puts.1 (rw (← c.deref.ensures.value) c.put.ensures.puts);
}
