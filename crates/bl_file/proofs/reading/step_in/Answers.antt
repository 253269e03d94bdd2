use Rattle.bl_file.proofs.Windows.{fits_below}
use Rattle.bl_file.proofs.reading.step_in.Goals as goal

pub returns-in-Ok-clause-bytes : goal.returns-in-Ok-clause-bytes
returns-in-Ok-clause-bytes c = fits_below c.args.window.now c.type_inv.window

pub returns-in-Err-clause-bytes : goal.returns-in-Err-clause-bytes
returns-in-Err-clause-bytes c = fits_below c.args.window.now c.type_inv.window
