use Rattle.std.proofs.Common.{ap, ◌∙◌, length}
use Rattle.bl_format.proofs.CatalogueRead.{IsCatalogue-can_be_read}
use Rattle.bl_format.proofs.RewidthHasLayout.{rewidth-HasLayout}
use Rattle.bl_layout.proofs.NewLengthLemmas.{new_lengths-len, new_lengths-short}
use Rattle.bl_layout.proofs.new_width.rewidth.Goals as goal

pub with_lengths-requires-clause-catalogue : goal.with_lengths-requires-clause-catalogue
with_lengths-requires-clause-catalogue c = IsCatalogue-can_be_read c.args.catalogue.now c.requires.can_be_read

pub with_lengths-requires-clause-len : goal.with_lengths-requires-clause-len
with_lengths-requires-clause-len c =
    ap length (c.deref.ensures.value ∙ c.in_ok-lengths.ensures.lengths) ∙ new_lengths-len c.args.catalogue.now c.args.from c.args.to

pub with_lengths-requires-clause-short : goal.with_lengths-requires-clause-short
with_lengths-requires-clause-short c =
    rw (c.deref.ensures.value, c.in_ok-lengths.ensures.lengths) (new_lengths-short c.args.catalogue.now c.args.from c.args.to c.in_ok-lengths.ensures.passes)

pub returns-clause-has_layout : goal.returns-clause-has_layout
returns-clause-has_layout c =
    let made = c.in_ok-with_lengths.ensures c.args.from c.args.to (c.deref.ensures.value ∙ c.in_ok-lengths.ensures.lengths) in
    rw made (rewidth-HasLayout c.args.catalogue.now c.args.from c.args.to c.requires c.in_ok-lengths.ensures.passes)
