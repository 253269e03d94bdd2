use Rattle.bl_file.proofs.Given.{layout_given}
use Rattle.bl_file.proofs.layout.layout_of.Goals as goal

pub returns-in-Err-clause-fault : goal.returns-in-Err-clause-fault
returns-in-Err-clause-fault c = layout_given c.args.catalogue c.args.width c.in-Err.refused.fault c.layout_fault.result c.in-Err.ensures.refuses (rw (← c.in-Err.ensures.given_back) c.layout_fault.ensures)
