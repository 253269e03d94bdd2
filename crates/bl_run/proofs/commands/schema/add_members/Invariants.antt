use Rattle.std.proofs.Common.{◌≡◌}
use Rattle.std.specs.Prelude.{flat_map}
use Rattle.bl_format.specs.Words.{numbers_below}
use Rattle.bl_answers.specs.Schema.{member_line}
use Rattle.bl_run.specs.Printing.{Adds}
use Rattle.bl_run.proofs.commands.schema.add_members.Given as goal

abbrev pub invariant-loop-member : goal.invariant-loop-member
invariant-loop-member g l = record {
  so_far : Adds (g.O.Sink.written l.initial.out) l.initial.pending.items (flat_map (member_line l.layout.catalogue l.layout.width l.s) (numbers_below l.member)) (g.O.Sink.written l.out) l.pending.items;
  quiet : g.O.Sink.faults l.out ≡ g.O.Sink.faults l.initial.out;
}
