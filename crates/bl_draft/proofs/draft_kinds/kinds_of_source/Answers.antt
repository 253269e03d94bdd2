use Rattle.std.proofs.Common.{[], ◌∷◌, sym, ap, ◌∙◌}
use Rattle.bl_format.specs.Nodes.{File}
use Rattle.bl_selection.specs.EntryKinds.{draft_kinds}
use Rattle.bl_file.proofs.ReadLemmas.{held_both}
use Rattle.bl_draft.specs.Own.{outlined}
use Rattle.bl_draft.proofs.KindsAgree.{entry_kinds-draft}
use Rattle.bl_draft.proofs.draft_kinds.kinds_of_source.Goals as goal

pub returns-in-Ok-kinds_of_entries-clause-kinds : goal.returns-in-Ok-kinds_of_entries-clause-kinds
returns-in-Ok-kinds_of_entries-clause-kinds g c =
    let o = c.args.outline.now in
    let d = c.args.draft.now in
    let source = c.requires.source in
    held_both (g.S.Shelf.told c.args.shelf.now) (g.P.Payload.file_name c.args.payload.now) _ _ _ c.in-Ok-kinds_of_entries.ensures.kinds source.stands
    (λ b are stands. are ∙ entry_kinds-draft (outlined o b) d source.draft.sources ∙ ap (λ (f : File). draft_kinds (f ∷ []) d) (sym stands.file))
