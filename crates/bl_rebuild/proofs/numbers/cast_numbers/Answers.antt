use Rattle.std.proofs.Common.{ℕ, ap, ◌∙◌}
use Rattle.bl_num.specs.Numbers.{bytes_of, cast_of, number_of}
use Rattle.bl_ptrarrays.specs.Pieces.{piece, with_piece}
use Rattle.bl_ptrarrays.proofs.PiecesPut.{put-none}
use Rattle.bl_rebuild.specs.Runs.{number_cast}
use Rattle.bl_rebuild.proofs.PiecesWritten.{number_more}
use Rattle.bl_rebuild.proofs.numbers.cast_numbers.Goals as goal

pub loop-k-init : goal.loop-k-init
loop-k-init c =
    put-none (number_cast c.args.source c.args.target c.args.from c.args.to) c.args.source.bytes c.args.target.bytes c.args.src.now c.args.dst.now

pub loop-k-preserved : goal.loop-k-preserved
loop-k-preserved c =
    let k = c.loop-k.k in
    let src = c.args.src.now in
    let source = c.args.source in
    let target = c.args.target in
    let read = c.read_piece-value.ensures ∙ ap (λ (n : ℕ). number_of c.args.from n (piece n src k)) c.from.ensures in
    number_more (number_cast source target c.args.from c.args.to) c.args.to source.bytes target.bytes k c.args.count c.cast.result src c.args.dst.now c.loop-k.dst c.write_piece.new.dst
    c.loop-k-test.true c.requires.dst
    (ap (bytes_of c.args.to target.bytes) (c.cast.ensures ∙ ap (λ (v : ℕ). cast_of v source target) read))
    (c.write_piece.ensures ∙ ap (λ (n : ℕ). with_piece n k (bytes_of c.args.to n c.cast.result) c.loop-k.dst) c.from-in-loop-k.ensures)
    c.loop-k.invariant
