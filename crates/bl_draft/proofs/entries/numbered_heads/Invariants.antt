use Rattle.std.proofs.Common.{◌≡◌, take}
use Rattle.std.specs.Prelude.{map}
use Rattle.bl_draft.specs.Numbers.{numbered_head}
use Rattle.bl_draft.proofs.entries.numbered_heads.Given as goal

abbrev pub invariant-loop-head : goal.invariant-loop-head
invariant-loop-head l = l.numbered.items ≡ map (numbered_head l.numbers) (take l.head-index l.heads)
