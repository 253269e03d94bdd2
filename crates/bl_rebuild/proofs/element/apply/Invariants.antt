use Rattle.std.proofs.Common.{length}
use Rattle.bl_rebuild.proofs.Applications.{IsApplied}
use Rattle.bl_rebuild.proofs.element.apply.Given as goal

-- up to here all steps before are taken
abbrev pub invariant-loop-step : goal.invariant-loop-step
invariant-loop-step g l =
    IsApplied (g.I.Images.names l.images) l.from l.to l.src (length l.initial.dst) l.steps l.step-index l.done l.dst
