use Rattle.bl_writer.proofs.ElementPieces.{AreCarried}
use Rattle.bl_writer.proofs.elements.carry_elements.Given as goal

abbrev pub invariant-loop-e : goal.invariant-loop-e
invariant-loop-e g l = AreCarried (g.I.Images.names l.images) l.elements l.src l.initial.dst l.e l.dst
