use Rattle.std.proofs.Common.{refl, ap, subst, ◌++◌, ◌∙◌}
use Rattle.std.specs.Prelude.{flat_map}
use Rattle.bl_format.specs.declared.catalogue.Catalogue.{Catalogue}
use Rattle.bl_format.specs.Layout.{member_numbers, struct_name}
use Rattle.bl_answers.specs.Fates.{common_struct_line, fate_line}
use Rattle.bl_shelf.specs.Written.{GrowsByPrefix}
use Rattle.bl_run.specs.Printing.{Adds}
use Rattle.std.proofs.lemmas.Result.{err_from_is_err_and}
use Rattle.bl_run.proofs.Gathers.{cut_on, later_answer, first_part, puts_more}
use Rattle.bl_run.proofs.commands.fates.add_common_struct.Goals as goal

pub returns-in_err-add_line : goal.returns-in_err-add_line
returns-in_err-add_line g c =
    let own = c.deref.ensures.value ∙ c.in_ok-line.ensures ∙ ap common_struct_line (c.struct_name.ensures ∙ ap (λ (x : Catalogue). struct_name x c.args.pair.now.t) c.catalogue.ensures.is) in
    let cut = c.in_err-add_line.ensures.puts in
    let fates = flat_map (fate_line c.args.pair.now.from.now.catalogue c.args.pair.now.from.now.width c.args.pair.now.s c.args.pair.now.to.now.catalogue c.args.pair.now.to.now.width c.args.pair.now.t) (member_numbers c.args.pair.now.to.now.catalogue c.args.pair.now.t) in
    let p = err_from_is_err_and c.from_residual-in_err-add_line.result c.from_residual-in_err-add_line.ensures.1 in
    record {
      puts = later_answer g.O.Sink _ _ _ _ _ c.from_residual-in_err-add_line.result p.0 _ p.1 p.2 (cut_on g.O.Sink _ _ _ _ _ _ refl cut
          (first_part _ _ c.args.pending.now.items _ fates (subst (λ x. GrowsByPrefix (g.O.Sink.written c.args.out.now) (c.args.pending.now.items ++ x) (g.O.Sink.written c.add_line.new.out)) own cut.part)));
    }

pub returns : goal.returns
returns g c =
    let own = c.deref.ensures.value ∙ c.in_ok-line.ensures ∙ ap common_struct_line (c.struct_name.ensures ∙ ap (λ (x : Catalogue). struct_name x c.args.pair.now.t) c.catalogue.ensures.is) in
    let puts = c.in_ok-add_line.ensures.puts in
    let adds = subst (λ x. Adds (g.O.Sink.written c.args.out.now) c.args.pending.now.items x (g.O.Sink.written c.add_line.new.out) c.add_line.new.pending.items) own puts.0 in
    record { puts = puts_more g.O.Sink _ _ _ _ _ _ _ _ c.add_fates.result adds puts.1 c.add_fates.ensures.puts }
