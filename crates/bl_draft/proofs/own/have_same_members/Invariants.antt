use Rattle.std.proofs.Common.{◌≡◌, take}
use Rattle.bl_draft.proofs.own.have_same_members.Given as goal

abbrev pub invariant-loop-k : goal.invariant-loop-k
invariant-loop-k l = take l.k l.members ≡ take l.k l.others
