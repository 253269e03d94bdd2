use Rattle.std.proofs.Common.{◌≡◌}
use Rattle.std.specs.Prelude.{flat_map}
use Rattle.bl_format.specs.Words.{numbers_below}
use Rattle.bl_answers.specs.Schema.{struct_lines}
use Rattle.bl_run.specs.Printing.{Adds}
use Rattle.bl_run.proofs.commands.schema.add_structs.Given as goal

abbrev pub invariant-loop-s : goal.invariant-loop-s
invariant-loop-s g l = record {
  so_far : Adds (g.O.Sink.written l.initial.out) l.initial.pending.items (flat_map (struct_lines l.layout.catalogue l.layout.width) (numbers_below l.s)) (g.O.Sink.written l.out) l.pending.items;
  quiet : g.O.Sink.faults l.out ≡ g.O.Sink.faults l.initial.out;
}
