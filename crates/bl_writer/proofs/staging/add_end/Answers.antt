use Rattle.std.proofs.Common.{subst, ◌∙◌}
use Rattle.std.proofs.lemmas.List.{length-take-le}
use Rattle.std.proofs.lemmas.Result.{on_ok_weaker}
use Rattle.bl_writer.specs.Rendering.{Adds, pending}
use Rattle.bl_writer.proofs.BlockLengths.{end_written-is, length-end_written}
use Rattle.bl_writer.proofs.staging.add_end.Goals as goal

pub returns-clause-adds : goal.returns-clause-adds
returns-clause-adds g c =
    on_ok_weaker c.add_bytes.result (λ adds. record {
      adds = subst (λ x. Adds (g.S.Shelf.told c.args.shelf.now) (pending c.args.buffer.now) x (g.S.Shelf.told c.add_bytes.new.shelf) (pending c.add_bytes.new.buffer))
          (end_written-is c.args.header.now _ _ (length-take-le c.head_size.result _ c.head_size.ensures.longest ∙ c.head_size.ensures.size) c.write_end.ensures) adds;
      length = length-end_written c.args.header.now;
    }) c.add_bytes.ensures.adds
