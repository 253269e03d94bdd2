use Rattle.std.proofs.Common.{◌∙◌}
use Rattle.bl_format.specs.Layout.{member_count}
use Rattle.bl_answers.specs.Fates.{fate_line}
use Rattle.std.proofs.lemmas.Result.{err_from_is_err_and}
use Rattle.bl_run.proofs.Gathers.{cut_on, later_answer, numbers_part, numbers_more}
use Rattle.bl_run.proofs.commands.fates.add_fates.Goals as goal

pub returns-in_err-add_fate : goal.returns-in_err-add_fate
returns-in_err-add_fate g c =
    let p = err_from_is_err_and c.from_residual.result c.from_residual.ensures.1 in
    record {
      puts = later_answer g.O.Sink _ _ _ _ _ c.from_residual.result p.0 _ p.1 p.2 (cut_on g.O.Sink _ _ _ _ _ _ c.loop-member.invariant.quiet c.in_err-add_fate.ensures.puts
          (numbers_part (fate_line c.args.pair.now.from.now.catalogue c.args.pair.now.from.now.width c.args.pair.now.s c.args.pair.now.to.now.catalogue c.args.pair.now.to.now.width c.args.pair.now.t) (member_count c.args.pair.now.to.now.catalogue c.args.pair.now.t) c.loop-member.member _ _ _ _ _ (rw (← c.member_count-member-end.ensures) c.loop-member-test.true) c.loop-member.invariant.so_far c.in_err-add_fate.ensures.puts.part));
    }

pub loop-member-preserved : goal.loop-member-preserved
loop-member-preserved g c = record {
  so_far = numbers_more (fate_line c.args.pair.now.from.now.catalogue c.args.pair.now.from.now.width c.args.pair.now.s c.args.pair.now.to.now.catalogue c.args.pair.now.to.now.width c.args.pair.now.t) c.loop-member.member _ _ _ _ _ _ c.loop-member.invariant.so_far c.in_ok-add_fate.ensures.puts.0;
  quiet = c.in_ok-add_fate.ensures.puts.1 ∙ c.loop-member.invariant.quiet;
}
