use Rattle.std.proofs.Common.{◌≡◌, ◌+◌, ◌++◌, [], ◌∷◌, sym, ap, subst, ◌∙◌}
use Rattle.std.specs.Prelude.{◌&&◌}
use Rattle.bl_draft.specs.Kept.{file_of}
use Rattle.bl_draft.proofs.KeptLemmas.{KeptSoFar, kept-more}
use Rattle.bl_draft.proofs.kept.kept_flags.Goals.{then-own, else-own}
use Rattle.bl_draft.proofs.kept.kept_flags.Goals as goal

pub loop-node-preserved : goal.loop-node-preserved
loop-node-preserved c =
    let to = c.args.catalogue.now in
    let f = file_of c.args.nodes.now c.args.from.now in
    let i = c.loop-node.node-index in
    let own = c.is_shared-own.result in
    let next = c.head_stays-stays.result in
    let kept = c.loop-node.kept.items in
    let both : c.if-own.push ≡ (own && next) = elim c.if-own.branch [
      | then-own w ↦ w.push-is ∙ ap (λ b. b && next) (sym w.if-own.true)
      | else-own w ↦ w.push-is ∙ w.if-own.false ∙ ap (λ b. b && next) (sym w.if-own.false)
    ] in
    let more : KeptSoFar to f (i + 1) next (kept ++ (own && next) ∷ []) =
    kept-more to f c.deref.result.now i c.loop-node.stays next own kept _ c.requires.nodes
    (c.deref.ensures.value ∙ c.in_ok-numbers.ensures) c.loop-node-test.true c.is_shared-own.ensures
    c.head_stays-stays.ensures c.loop-node.invariant in
    subst (KeptSoFar to f (i + 1) next) (sym (c.in_ok-push.ensures.items ∙ ap (λ b. kept ++ b ∷ []) both)) more
