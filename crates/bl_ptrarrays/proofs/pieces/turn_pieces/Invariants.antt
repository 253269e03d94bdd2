use Rattle.bl_ptrarrays.specs.Pieces.{turned}
use Rattle.bl_ptrarrays.proofs.PiecesPut.{PutSoFar}
use Rattle.bl_ptrarrays.proofs.pieces.turn_pieces.Given as goal

abbrev pub invariant-loop-k : goal.invariant-loop-k
invariant-loop-k l = PutSoFar turned l.n l.n l.k l.initial.bytes l.initial.bytes l.bytes
