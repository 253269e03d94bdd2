use Rattle.bl_ptrarrays.specs.Pieces.{turned}
use Rattle.bl_ptrarrays.proofs.PiecesPut.{put-none, turn-more}
use Rattle.bl_rebuild.proofs.numbers.turn_pieces.Goals as goal

pub loop-k-init : goal.loop-k-init
loop-k-init c = put-none turned c.args.size c.args.size c.args.bytes.now c.args.bytes.now

pub loop-k-preserved : goal.loop-k-preserved
loop-k-preserved c =
    turn-more c.args.size c.loop-k.k c.args.bytes.now c.loop-k.bytes c.turn_piece.new.bytes c.loop-k-test.true c.turn_piece.ensures c.loop-k.invariant
