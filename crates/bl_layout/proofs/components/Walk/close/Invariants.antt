use Rattle.std.proofs.Common.{length}
use Rattle.bl_layout.proofs.components.Walk.close.Given as goal

abbrev pub decreases-loop-member : goal.decreases-loop-member
decreases-loop-member l = length l.self.open.items
