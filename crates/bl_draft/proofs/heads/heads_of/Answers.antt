use Rattle.std.proofs.Common.{◌≡◌, ◌∙◌}
use Rattle.std.proofs.lemmas.Result.{IfOk-weaker}
use Rattle.bl_draft.specs.Own.{entry_heads}
use Rattle.bl_draft.proofs.OutlineFacts.{entries-inside, heads-IsNodeIn}
use Rattle.bl_draft.proofs.heads.heads_of.Goals as goal

pub heads_by-requires : goal.heads_by-requires
heads_by-requires c =
    entries-inside c.args.outline.now c.args.draft.now c.as_slice.result.now c.as_slice-2.result.now c.as_slice.ensures
    c.as_slice-2.ensures c.requires.draft

pub returns-clause-nodes : goal.returns-clause-nodes
returns-clause-nodes c =
    let nodes = c.as_slice.result.now in
    let es = c.as_slice-2.result.now in
    IfOk-weaker c.heads_by.result (λ heads. heads.items ≡ entry_heads nodes es) _
    (λ heads is. heads-IsNodeIn c.args.outline.now c.args.draft.now heads.items c.requires.sound c.requires.draft
    (is ∙ λ i. entry_heads (c.as_slice.ensures i) (c.as_slice-2.ensures i)))
    c.heads_by.ensures
