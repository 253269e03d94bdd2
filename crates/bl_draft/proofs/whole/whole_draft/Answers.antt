use Rattle.std.proofs.Common.{◌≡◌, ◌∙◌}
use Rattle.std.proofs.lemmas.Result.{IfOk-weaker}
use Rattle.bl_selection.specs.Selection.{whole_selection}
use Rattle.bl_draft.specs.Kept.{file_of}
use Rattle.bl_draft.proofs.OutlineFacts.{whole-outlined, whole-source, whole-well_formed}
use Rattle.bl_draft.proofs.whole.whole_draft.Goals as goal

pub returns-clause-draft : goal.returns-clause-draft
returns-clause-draft g c =
    let nodes = c.as_slice-nodes.result.now in
    let from = c.catalogue.result.now in
    IfOk-weaker c.draft_of_nodes.result (λ draft. draft ≡ whole_selection (file_of nodes from) c.args.header c.args.catalogue) _
    (λ draft is b. is ∙ whole-outlined c.args.opened.now.outline nodes from c.args.header c.args.catalogue c.as_slice-nodes.ensures c.catalogue.ensures.is b)
    c.draft_of_nodes.ensures

pub returns-clause-well_formed : goal.returns-clause-well_formed
returns-clause-well_formed g c =
    let o = c.args.opened.now.outline in
    let nodes = c.as_slice-nodes.result.now in
    let from = c.catalogue.result.now in
    IfOk-weaker c.draft_of_nodes.result (λ draft. draft ≡ whole_selection (file_of nodes from) c.args.header c.args.catalogue) _
    (λ draft is. whole-well_formed o c.args.header c.args.catalogue draft c.requires.sound
    (λ b. is ∙ whole-outlined o nodes from c.args.header c.args.catalogue c.as_slice-nodes.ensures c.catalogue.ensures.is b))
    c.draft_of_nodes.ensures

pub returns-clause-source : goal.returns-clause-source
returns-clause-source g c version short =
    let o = c.args.opened.now.outline in
    let nodes = c.as_slice-nodes.result.now in
    let from = c.catalogue.result.now in
    IfOk-weaker c.draft_of_nodes.result (λ draft. draft ≡ whole_selection (file_of nodes from) c.args.header c.args.catalogue) _
    (λ draft is. whole-source o c.args.header c.args.catalogue draft c.requires.sound c.requires.catalogue version short
    (λ b. is ∙ whole-outlined o nodes from c.args.header c.args.catalogue c.as_slice-nodes.ensures c.catalogue.ensures.is b))
    c.draft_of_nodes.ensures
