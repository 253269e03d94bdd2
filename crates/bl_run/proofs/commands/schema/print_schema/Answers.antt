use Rattle.std.proofs.Common.{◌≡◌, ◌++◌, [], None, refl}
use Rattle.std.specs.Prelude.{flat_map}
use Rattle.bl_format.specs.Layout.{struct_numbers}
use Rattle.bl_answers.specs.Schema.{schema_text, struct_lines}
use Rattle.std.proofs.lemmas.Result.{err_from_is_err_and}
use Rattle.bl_run.proofs.Gathers.{cut_on, cut_answer, first_put, second_put, puts_last}
use Rattle.bl_run.proofs.CommandLaws.Schema.{schema_text_at}
use Rattle.bl_run.proofs.commands.schema.print_schema.Goals as goal

pub returns-in_err-add_line : goal.returns-in_err-add_line
returns-in_err-add_line g c =
    let catalogue = c.args.layout.now.catalogue in
    let structs = flat_map (struct_lines catalogue c.args.layout.now.width) (struct_numbers catalogue) in
    let whole : schema_text c.args.header.now catalogue ≡ c.deref.result.now ++ structs = rw (c.deref.ensures.value, c.in_ok-line.ensures, c.catalogue.ensures.is) (schema_text_at c.args.header.now catalogue c.args.layout.now.width c.requires) in
    let p = err_from_is_err_and c.from_residual-in_err-add_line.result c.from_residual-in_err-add_line.ensures.1 in
    record {
      puts = cut_answer g.O.Sink _ _ _ c.from_residual-in_err-add_line.result p.0 _ p.1 p.2 (cut_on g.O.Sink _ _ _ _ _ _ refl c.in_err-add_line.ensures.puts
          (first_put _ (g.O.Sink.written c.add_line.new.out) None None _ [] [] _ structs _ c.new-pending.ensures.items whole c.in_err-add_line.ensures.puts.part));
    }

pub returns-in_err-add_structs : goal.returns-in_err-add_structs
returns-in_err-add_structs g c =
    let catalogue = c.args.layout.now.catalogue in
    let structs = flat_map (struct_lines catalogue c.args.layout.now.width) (struct_numbers catalogue) in
    let whole : schema_text c.args.header.now catalogue ≡ c.deref.result.now ++ structs = rw (c.deref.ensures.value, c.in_ok-line.ensures, c.catalogue.ensures.is) (schema_text_at c.args.header.now catalogue c.args.layout.now.width c.requires) in
    let p = err_from_is_err_and c.from_residual-in_err-add_structs.result c.from_residual-in_err-add_structs.ensures.1 in
    record {
      puts = cut_answer g.O.Sink _ _ _ c.from_residual-in_err-add_structs.result p.0 _ p.1 p.2 (cut_on g.O.Sink _ _ _ _ _ _ c.in_ok-add_line.ensures.puts.1 c.in_err-add_structs.ensures.puts
          (second_put _ _ _ None _ _ [] _ structs _ c.new-pending.ensures.items whole c.in_ok-add_line.ensures.puts.0 c.in_err-add_structs.ensures.puts.part));
    }

pub returns : goal.returns
returns g c =
    let catalogue = c.args.layout.now.catalogue in
    let structs = flat_map (struct_lines catalogue c.args.layout.now.width) (struct_numbers catalogue) in
    let whole : schema_text c.args.header.now catalogue ≡ c.deref.result.now ++ structs = rw (c.deref.ensures.value, c.in_ok-line.ensures, c.catalogue.ensures.is) (schema_text_at c.args.header.now catalogue c.args.layout.now.width c.requires) in
    record {
      puts = puts_last g.O.Sink _ _ _ _ _ _ _ _ structs _ c.put.result c.new-pending.ensures.items whole c.in_ok-add_line.ensures.puts.0 c.in_ok-add_line.ensures.puts.1
          c.in_ok-add_structs.ensures.puts.0 c.in_ok-add_structs.ensures.puts.1 (rw (← c.deref-2.ensures.value) c.put.ensures.puts);
    }
