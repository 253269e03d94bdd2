use Rattle.std.proofs.Common.{sym}
use Rattle.bl_addresses.proofs.MarkLemmas.{mark_at-marks_by}
use Rattle.bl_addresses.proofs.marks.mark_at.Goals as goal

pub returns : goal.returns
returns c =
    sym (mark_at-marks_by c.args.groups.now c.args.addresses.now c.args.ids.now c.args.n
    c.requires.addresses c.requires.ids c.requires.inside)
