use Rattle.bl_num.specs.Numbers.{pointer_bytes}
use Rattle.bl_ptrarrays.specs.Carried.{pointer_carried}
use Rattle.bl_ptrarrays.proofs.PiecesPut.{PutSoFar}
use Rattle.bl_ptrarrays.proofs.carry.carry_pointers.Given as goal

abbrev pub invariant-loop-k : goal.invariant-loop-k
invariant-loop-k g l =
    PutSoFar (pointer_carried (g.I.Images.names l.images) l.from l.to) (pointer_bytes l.from.width) (pointer_bytes l.to.width) l.k
    l.src l.initial.dst l.dst
