use Rattle.std.proofs.Common.{◌<◌, length, sym, ◌∙◌, arith}
use Rattle.bl_draft.proofs.ListLemmas.{same-more}
use Rattle.bl_draft.proofs.own.have_same_names.Goals as goal

pub loop-k-preserved : goal.loop-k-preserved
loop-k-preserved c =
    let below : c.loop-k.k < length c.args.others.now = omega (arith, c.loop-k-test.true, c.if-names-others.false) in
    same-more c.args.names.now c.args.others.now c.loop-k.k _ _ c.loop-k-test.true below
    (sym c.index-names-k.is ∙ c.is_same_name.ensures.0 c.if-not-is_same_name.false ∙ c.index-others-k.is) c.loop-k.invariant
