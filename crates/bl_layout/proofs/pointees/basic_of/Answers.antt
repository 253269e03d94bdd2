use Rattle.std.proofs.Common.{length, ap, ◌∙◌, arith}
use Rattle.bl_layout.specs.Sizes.{basic_in}
use Rattle.bl_layout.proofs.PointeeLemmas.{nothing_past}
use Rattle.bl_layout.proofs.CheckLemmas.{basic_in-content_of}
use Rattle.bl_layout.proofs.pointees.basic_of.Goals as goal

pub returns-then-type_number-as_slice : goal.returns-then-type_number-as_slice
returns-then-type_number-as_slice c =
    nothing_past c.args.catalogue.now c.args.type_number (omega (arith, c.if-type_number-as_slice.true, ap length c.as_slice.ensures))

pub returns : goal.returns
returns c = c.basic_in.ensures ∙ ap basic_in c.content_of.ensures ∙ basic_in-content_of c.args.catalogue.now c.args.type_number
