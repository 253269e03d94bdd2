use Rattle.std.proofs.Common.{◌∙◌, sym}
use Rattle.bl_writer.proofs.ElementPieces.{whole_elements}
use Rattle.bl_writer.proofs.elements.stay_whole.Goals as goal

pub returns : goal.returns
returns c = λ is. whole_elements c.args.elements.now (sym c.is_other.ensures ∙ c.if-is_other.false) (c.copies_whole.ensures.copies is)
