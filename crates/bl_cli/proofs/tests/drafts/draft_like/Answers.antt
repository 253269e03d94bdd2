use Rattle.std.proofs.Common.{◌∙◌}
use Rattle.bl_cli.proofs.CopiedForm.{copy_layout, copy_short, copy_catalogue, copy_width}
use Rattle.bl_cli.proofs.tests.drafts.draft_like.Goals as goal

pub whole_draft-requires-clause-catalogue : goal.whole_draft-requires-clause-catalogue
whole_draft-requires-clause-catalogue g c =
    copy_layout c.args.model.now c.in_ok-catalogue.catalogue (c.in_ok-catalogue.ensures ∙ c.catalogue.ensures.is) c.requires.model

pub returns-clause-source : goal.returns-clause-source
returns-clause-source g c =
    c.whole_draft.ensures.source c.requires.model.version
    (copy_short c.args.model.now c.in_ok-catalogue.catalogue (c.in_ok-catalogue.ensures ∙ c.catalogue.ensures.is) c.requires.model)

pub returns-clause-catalogue : goal.returns-clause-catalogue
returns-clause-catalogue g c =
    copy_catalogue c.args.model.now c.in_ok-catalogue.catalogue (c.in_ok-catalogue.ensures ∙ c.catalogue.ensures.is) c.requires.model
    c.args.file.now.outline c.whole_draft.result c.whole_draft.ensures.draft

pub returns-clause-width : goal.returns-clause-width
returns-clause-width g c =
    copy_width c.args.model.now c.in_ok-catalogue.catalogue (c.in_ok-catalogue.ensures ∙ c.catalogue.ensures.is) c.requires.model
    c.args.file.now.outline c.whole_draft.result c.whole_draft.ensures.draft
