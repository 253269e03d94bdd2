use Rattle.bl_ptrarrays.specs.Pieces.{turned}
use Rattle.bl_ptrarrays.proofs.PiecesPut.{PutSoFar}
use Rattle.bl_rebuild.proofs.numbers.turn_pieces.Given as goal

abbrev pub invariant-loop-k : goal.invariant-loop-k
invariant-loop-k l = PutSoFar turned l.size l.size l.k l.initial.bytes l.initial.bytes l.bytes
