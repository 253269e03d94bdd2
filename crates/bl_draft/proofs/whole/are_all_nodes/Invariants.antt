use Rattle.std.proofs.Common.{◌≡◌, take}
use Rattle.bl_draft.specs.Whole.{all_entries}
use Rattle.bl_draft.proofs.whole.are_all_nodes.Given as goal

abbrev pub invariant-loop-k : goal.invariant-loop-k
invariant-loop-k l = take l.k l.entries ≡ all_entries l.k
