use Rattle.std.proofs.Common.{◌/◌, ◌<◌, ℕ, ap, ◌∙◌, subst, length}
use Rattle.bl_ptrarrays.specs.Pieces.{turned, piece, with_piece}
use Rattle.bl_ptrarrays.proofs.PiecesPut.{put-none, turn-more}
use Rattle.bl_ptrarrays.proofs.pieces.turn_pieces.Goals as goal

pub loop-k-init : goal.loop-k-init
loop-k-init c = put-none turned c.args.n c.args.n c.args.bytes.now c.args.bytes.now

pub loop-k-preserved : goal.loop-k-preserved
loop-k-preserved c =
    let old = c.args.bytes.now in
    let k = c.loop-k.k in
    let dst = c.loop-k.bytes in
    turn-more c.args.n k old dst c.turn_piece.new.bytes
    (subst (λ (n : ℕ). k < length old / n) c.from-size.ensures c.loop-k-test.true)
    (c.turn_piece.ensures ∙ ap (λ (n : ℕ). with_piece n k (turned (piece n dst k)) dst) c.from-size.ensures)
    c.loop-k.invariant
