use Rattle.std.proofs.Common.{◌≡◌}
use Rattle.std.specs.Prelude.{flat_map}
use Rattle.bl_format.specs.Words.{numbers_below}
use Rattle.bl_answers.specs.Fates.{fate_lines}
use Rattle.bl_run.specs.Printing.{Adds}
use Rattle.bl_run.proofs.commands.fates.add_structs.Given as goal

abbrev pub invariant-loop-t : goal.invariant-loop-t
invariant-loop-t g l = record {
  so_far : Adds (g.O.Sink.written l.initial.out) l.initial.pending.items (flat_map (fate_lines l.from.catalogue l.from.width l.to.catalogue l.to.width) (numbers_below l.t)) (g.O.Sink.written l.out) l.pending.items;
  quiet : g.O.Sink.faults l.out ≡ g.O.Sink.faults l.initial.out;
}
