use Rattle.bl_layout.proofs.OffsetLemmas.{AreChecked}
use Rattle.bl_layout.proofs.check.struct_offsets.Given as goal

abbrev pub invariant-loop-k : goal.invariant-loop-k
invariant-loop-k l = AreChecked l.catalogue l.width l.s l.suspects.duplicate l.suspects.back l.k l.offset l.offsets.items
