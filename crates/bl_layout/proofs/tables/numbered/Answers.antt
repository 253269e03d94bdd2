use Rattle.bl_layout.proofs.NumberedLemmas.{numbered_cut}
use Rattle.bl_layout.proofs.tables.numbered.Goals as goal

pub returns : goal.returns
returns g c = numbered_cut c.args.all.now c.min.result c.min.ensures
