use Rattle.std.proofs.Common.{◌<◌, length, sym, ◌∙◌, arith}
use Rattle.bl_draft.proofs.ListLemmas.{same-more}
use Rattle.bl_draft.proofs.own.have_same_types.Goals as goal

pub loop-k-preserved : goal.loop-k-preserved
loop-k-preserved c =
    let below : c.loop-k.k < length c.args.others.now = omega (arith, c.loop-k-test.true, c.if-types-others.false) in
    same-more c.args.types.now c.args.others.now c.loop-k.k _ _ c.loop-k-test.true below
    (sym c.index-types-k.is ∙ c.is_same_type.ensures.0 c.if-not-is_same_type.false ∙ c.index-others-k.is) c.loop-k.invariant
