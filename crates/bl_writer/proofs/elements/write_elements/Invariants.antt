use Rattle.std.proofs.Common.{◌-◌, ◌≡◌, ◌≤◌, ◌*◌, length}
use Rattle.bl_format.specs.Words.{part}
use Rattle.bl_shelf.specs.Calls.{IsQuiet}
use Rattle.bl_file.specs.Calls.{Stays, Tells}
use Rattle.bl_writer.proofs.ElementPieces.{AreCarried}
use Rattle.bl_writer.proofs.elements.write_elements.Given as goal

abbrev pub invariant-loop-done : goal.invariant-loop-done
invariant-loop-done g l = record {
  within : l.done ≤ l.elements.count;
  scratch : length l.scratch ≡ length l.initial.scratch;
  long : length l.dst ≡ length l.initial.dst;
  written : Tells g.S.Shelf g.P.Payload l.initial.shelf l.initial.payload (λ b.
      AreCarried (g.I.Images.names l.images) l.elements (part b l.elements.at (l.elements.count * l.elements.len)) l.initial.dst l.done l.dst);
  stays : Stays g.S.Shelf g.P.Payload l.initial.shelf l.shelf l.initial.payload l.payload;
  quiet : IsQuiet g.S.Shelf l.initial.shelf l.shelf;
}

abbrev pub decreases-loop-done : goal.decreases-loop-done
decreases-loop-done g l = l.elements.count - l.done
