use Rattle.std.proofs.Common.{◌/◌, ◌<◌, ℕ, subst, length}
use Rattle.bl_num.specs.Numbers.{pointer_bytes}
use Rattle.bl_ptrarrays.specs.Carried.{pointer_carried}
use Rattle.bl_ptrarrays.proofs.PiecesPut.{put-none, pointer-more}
use Rattle.bl_ptrarrays.proofs.carry.carry_pointers.Goals as goal

pub loop-k-init : goal.loop-k-init
loop-k-init g c =
    put-none (pointer_carried (g.I.Images.names c.args.images.now) c.args.from c.args.to) (pointer_bytes c.args.from.width) (pointer_bytes c.args.to.width)
    c.args.src.now c.args.dst.now

pub loop-k-preserved : goal.loop-k-preserved
loop-k-preserved g c =
    pointer-more (g.I.Images.names c.args.images.now) c.args.from c.args.to c.loop-k.k c.read_slot-address.result c.image.result
    c.args.src.now c.args.dst.now c.loop-k.dst c.write_slot.new.dst
    (subst (λ (size : ℕ). c.loop-k.k < length c.args.src.now / size) c.pointer_bytes.ensures c.loop-k-test.true) c.requires
    c.read_slot-address.ensures c.image.ensures.image c.write_slot.ensures c.loop-k.invariant
