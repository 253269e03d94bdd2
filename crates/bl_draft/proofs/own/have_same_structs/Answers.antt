use Rattle.std.proofs.Common.{◌<◌, length, sym, ◌∙◌, arith}
use Rattle.bl_draft.proofs.ListLemmas.{same-more}
use Rattle.bl_draft.proofs.own.have_same_structs.Goals as goal

pub loop-k-preserved : goal.loop-k-preserved
loop-k-preserved c =
    let below : c.loop-k.k < length c.args.others.now = omega (arith, c.loop-k-test.true, c.if-structs-others.false) in
    same-more c.args.structs.now c.args.others.now c.loop-k.k _ _ c.loop-k-test.true below
    (sym c.index-structs-k.is ∙ c.is_same_struct.ensures.0 c.if-not-is_same_struct.false ∙ c.index-others-k.is) c.loop-k.invariant
