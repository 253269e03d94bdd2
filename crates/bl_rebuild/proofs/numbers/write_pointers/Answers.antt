use Rattle.bl_ptrarrays.specs.Pieces.{piece}
use Rattle.bl_ptrarrays.proofs.PiecesPut.{put-none}
use Rattle.bl_rebuild.specs.Runs.{pointer_written}
use Rattle.bl_rebuild.proofs.PiecesWritten.{number_more, pointer_is}
use Rattle.bl_rebuild.proofs.numbers.write_pointers.Goals as goal

pub loop-k-init : goal.loop-k-init
loop-k-init g c =
    put-none (pointer_written (g.I.Images.names c.args.images.now) c.args.source c.args.target c.args.from c.args.to) c.args.source c.args.target c.args.src.now c.args.dst.now

pub loop-k-preserved : goal.loop-k-preserved
loop-k-preserved g c =
    let names = g.I.Images.names c.args.images.now in
    number_more (pointer_written names c.args.source c.args.target c.args.from c.args.to) c.args.to c.args.source c.args.target c.loop-k.k c.args.count c.image_of-image.result
    c.args.src.now c.args.dst.now c.loop-k.dst c.write_piece.new.dst c.loop-k-test.true c.requires.dst
    (pointer_is names c.args.from c.args.to c.args.source c.args.target c.read_piece.result c.image_of-image.result (piece c.args.source c.args.src.now c.loop-k.k)
    c.read_piece.ensures c.image_of-image.ensures)
    c.write_piece.ensures c.loop-k.invariant
