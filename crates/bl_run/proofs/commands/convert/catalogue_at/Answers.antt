use Rattle.std.proofs.Common.{ap, sym, subst, ◌∙◌, None, ◌≡◌}
use Rattle.bl_format.specs.Layout.{HasLayout}
use Rattle.bl_format.specs.Rewidth.{rewidth, rewidth_fault}
use Rattle.bl_selection.proofs.SameWidth.{rewidth-same}
use Rattle.bl_run.proofs.SameWidths.{rewidth_fault-same}
use Rattle.bl_run.proofs.commands.convert.catalogue_at.Goals as goal

pub returns-then-same_width-clause-made : goal.returns-then-same_width-clause-made
returns-then-same_width-clause-made c =
    let q = c.args.model.now in
    let has : HasLayout q.layout.catalogue q.header.width = subst (HasLayout q.layout.catalogue) c.requires.width c.requires.has_layout in
    let same = c.same_width.ensures.0 c.if-same_width.true in
    c.in_ok-copy_of.ensures ∙ c.catalogue.ensures.is ∙ sym (ap (rewidth q.layout.catalogue q.header.width) (sym same) ∙ rewidth-same q.layout.catalogue q.header.width has)

pub returns-then-same_width-clause-fits : goal.returns-then-same_width-clause-fits
returns-then-same_width-clause-fits c =
    let q = c.args.model.now in
    let has : HasLayout q.layout.catalogue q.header.width = subst (HasLayout q.layout.catalogue) c.requires.width c.requires.has_layout in
    let same = c.same_width.ensures.0 c.if-same_width.true in
    subst (λ w. rewidth_fault q.layout.catalogue q.header.width w ≡ None) same (rewidth_fault-same q.layout.catalogue q.header.width has)
