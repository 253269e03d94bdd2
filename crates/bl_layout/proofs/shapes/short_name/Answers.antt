use Rattle.bl_layout.proofs.ShapeLemmas.{entry_short}
use Rattle.bl_layout.proofs.shapes.short_name.Goals as goal

pub returns-clause-short : goal.returns-clause-short
returns-clause-short c = rw c.name_of.ensures (entry_short c.args.catalogue.now c.args.member.name_number c.requires.catalogue c.requires.fits.name_number)
