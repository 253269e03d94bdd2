use Rattle.std.proofs.Common.{◌≡◌}
use Rattle.std.specs.Prelude.{flat_map}
use Rattle.bl_format.specs.Words.{numbers_below}
use Rattle.bl_answers.specs.Fates.{fate_line}
use Rattle.bl_run.specs.Printing.{Adds}
use Rattle.bl_run.proofs.commands.fates.add_fates.Given as goal

abbrev pub invariant-loop-member : goal.invariant-loop-member
invariant-loop-member g l = record {
  so_far : Adds (g.O.Sink.written l.initial.out) l.initial.pending.items (flat_map (fate_line l.pair.from.now.catalogue l.pair.from.now.width l.pair.s l.pair.to.now.catalogue l.pair.to.now.width l.pair.t) (numbers_below l.member)) (g.O.Sink.written l.out) l.pending.items;
  quiet : g.O.Sink.faults l.out ≡ g.O.Sink.faults l.initial.out;
}
