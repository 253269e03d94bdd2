use Rattle.std.proofs.Common.{length, ◌∙◌}
use Rattle.bl_answers.specs.Fates.{fate_lines}
use Rattle.std.proofs.lemmas.Result.{err_from_is_err_and}
use Rattle.bl_run.proofs.Gathers.{cut_on, later_answer, numbers_part, numbers_more}
use Rattle.bl_run.proofs.commands.fates.add_structs.Goals as goal

pub returns-in_err-add_struct : goal.returns-in_err-add_struct
returns-in_err-add_struct g c =
    let p = err_from_is_err_and c.from_residual.result c.from_residual.ensures.1 in
    record {
      puts = later_answer g.O.Sink _ _ _ _ _ c.from_residual.result p.0 _ p.1 p.2 (cut_on g.O.Sink _ _ _ _ _ _ c.loop-t.invariant.quiet c.in_err-add_struct.ensures.puts
          (numbers_part (fate_lines c.args.from.now.catalogue c.args.from.now.width c.args.to.now.catalogue c.args.to.now.width) (length c.args.to.now.catalogue.structs) c.loop-t.t _ _ _ _ _ (rw (← c.struct_count-t-end.ensures) c.loop-t-test.true) c.loop-t.invariant.so_far c.in_err-add_struct.ensures.puts.part));
    }

pub loop-t-preserved : goal.loop-t-preserved
loop-t-preserved g c = record {
  so_far = numbers_more (fate_lines c.args.from.now.catalogue c.args.from.now.width c.args.to.now.catalogue c.args.to.now.width) c.loop-t.t _ _ _ _ _ _ c.loop-t.invariant.so_far c.in_ok-add_struct.ensures.puts.0;
  quiet = c.in_ok-add_struct.ensures.puts.1 ∙ c.loop-t.invariant.quiet;
}
