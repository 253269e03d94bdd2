use Rattle.bl_file.proofs.Given.{written_short}
use Rattle.bl_file.proofs.layout.catalogue_of.Goals as goal

pub returns-in-Ok-clause-short : goal.returns-in-Ok-clause-short
returns-in-Ok-clause-short c = written_short c.args.order c.args.bytes.now c.in-Ok.catalogue c.type_inv.bytes c.in-Ok.ensures.reads c.requires
