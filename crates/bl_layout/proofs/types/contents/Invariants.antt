use Rattle.std.proofs.Common.{take, length}
use Rattle.bl_layout.specs.BasicTypes.{AreContents}
use Rattle.bl_layout.proofs.types.contents.Given as goal

abbrev pub invariant-loop-entry : goal.invariant-loop-entry
invariant-loop-entry l = AreContents (take (length l.yielded) l.types) l.structs l.contents.items
