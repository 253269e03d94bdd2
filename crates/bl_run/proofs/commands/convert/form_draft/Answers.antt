use Rattle.bl_run.proofs.CommandLaws.Conversions.{formed_draft, formed_layout, formed_short}
use Rattle.bl_run.proofs.commands.convert.form_draft.Goals as goal

pub whole_draft-requires-clause-catalogue : goal.whole_draft-requires-clause-catalogue
whole_draft-requires-clause-catalogue g c =
    formed_layout c.args.file.now.outline c.args.model.now c.args.width c.args.order c.unwrap_or.result c.in-Ok.catalogue
    c.unwrap_or.ensures c.in-Ok.ensures.made c.requires.model c.in-Ok.ensures.fits

pub returns-in-Ok-whole_draft-clause-draft : goal.returns-in-Ok-whole_draft-clause-draft
returns-in-Ok-whole_draft-clause-draft g c =
    formed_draft c.args.file.now.outline c.args.model.now c.args.width c.args.order c.unwrap_or.result c.in-Ok.catalogue
    c.unwrap_or.ensures c.in-Ok.ensures.made c.unwrap_or-2.result c.in-Ok-whole_draft.draft c.unwrap_or-2.ensures c.in-Ok-whole_draft.ensures.draft

pub returns-in-Ok-whole_draft-clause-source : goal.returns-in-Ok-whole_draft-clause-source
returns-in-Ok-whole_draft-clause-source g c =
    c.in-Ok-whole_draft.ensures.source c.requires.model.version
    (formed_short c.args.file.now.outline c.args.model.now c.args.width c.args.order c.unwrap_or.result c.in-Ok.catalogue
    c.unwrap_or.ensures c.in-Ok.ensures.made c.unwrap_or-2.result c.requires.model)
