use Rattle.std.proofs.Common.{◌∙◌}
use Rattle.bl_format.specs.Layout.{member_count}
use Rattle.bl_answers.specs.Schema.{member_line}
use Rattle.std.proofs.lemmas.Result.{err_from_is_err_and}
use Rattle.bl_run.proofs.Gathers.{cut_on, later_answer, numbers_part, numbers_more}
use Rattle.bl_run.proofs.commands.schema.add_members.Goals as goal

pub returns-in_err-add_member : goal.returns-in_err-add_member
returns-in_err-add_member g c =
    let p = err_from_is_err_and c.from_residual.result c.from_residual.ensures.1 in
    record {
      puts = later_answer g.O.Sink _ _ _ _ _ c.from_residual.result p.0 _ p.1 p.2 (cut_on g.O.Sink _ _ _ _ _ _ c.loop-member.invariant.quiet c.in_err-add_member.ensures.puts
          (numbers_part (member_line c.args.layout.now.catalogue c.args.layout.now.width c.args.s) (member_count c.args.layout.now.catalogue c.args.s) c.loop-member.member _ _ _ _ _ (rw (← c.member_count-member-end.ensures) c.loop-member-test.true) c.loop-member.invariant.so_far c.in_err-add_member.ensures.puts.part));
    }

pub loop-member-preserved : goal.loop-member-preserved
loop-member-preserved g c = record {
  so_far = numbers_more (member_line c.args.layout.now.catalogue c.args.layout.now.width c.args.s) c.loop-member.member _ _ _ _ _ _ c.loop-member.invariant.so_far c.in_ok-add_member.ensures.puts.0;
  quiet = c.in_ok-add_member.ensures.puts.1 ∙ c.loop-member.invariant.quiet;
}
