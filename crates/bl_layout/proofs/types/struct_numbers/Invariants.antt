use Rattle.std.proofs.Common.{take}
use Rattle.bl_layout.specs.BasicTypes.{IsStructTable}
use Rattle.bl_layout.proofs.types.struct_numbers.Given as goal

abbrev pub invariant-loop-i : goal.invariant-loop-i
invariant-loop-i l = IsStructTable l.types (take l.i l.structs) l.numbers.items
