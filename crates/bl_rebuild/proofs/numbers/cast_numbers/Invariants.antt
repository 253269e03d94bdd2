use Rattle.bl_ptrarrays.proofs.PiecesPut.{PutSoFar}
use Rattle.bl_rebuild.specs.Runs.{number_cast}
use Rattle.bl_rebuild.proofs.numbers.cast_numbers.Given as goal

abbrev pub invariant-loop-k : goal.invariant-loop-k
invariant-loop-k l = PutSoFar (number_cast l.source l.target l.from l.to) l.source.bytes l.target.bytes l.k l.src l.initial.dst l.dst
