use Rattle.bl_ptrarrays.proofs.PiecesPut.{PutSoFar}
use Rattle.bl_rebuild.specs.Runs.{pointer_written}
use Rattle.bl_rebuild.proofs.numbers.write_pointers.Given as goal

abbrev pub invariant-loop-k : goal.invariant-loop-k
invariant-loop-k g l =
    PutSoFar (pointer_written (g.I.Images.names l.images) l.source l.target l.from l.to) l.source l.target l.k l.src l.initial.dst l.dst
