-- What the code of an element writes, part by part. This project's own.
use Rattle.std.specs.Prelude.{ℕ, ◌-◌, List}
use Rattle.bl_num.specs.declared.number.Order.{Order}
use Rattle.bl_num.specs.declared.number.Whole.{Whole}
use Rattle.bl_num.specs.Numbers.{number_of, bytes_of, cast_of}
use Rattle.bl_format.specs.Words.{zeros}
use Rattle.bl_format.specs.Graph.{Target, Naming}
use Rattle.bl_selection.specs.Written.{address_of}
use Rattle.bl_members.specs.Leaf.{replaced_at}
use Rattle.bl_ptrarrays.specs.Pieces.{pieces_by}
use Rattle.bl_plan.specs.declared.steps.Carry.{Carry}
use Rattle.bl_plan.specs.Steps.{source_size, element_carried}

-- some bytes with zeros from one place to another
abbrev pub cleared : ℕ → ℕ → List ℕ → List ℕ
cleared from to bytes = replaced_at from (zeros (to - from)) bytes

-- a whole number cast from one type to another
abbrev pub number_cast : Whole → Whole → Order → Order → List ℕ → List ℕ
number_cast source target from to bytes =
    bytes_of to target.bytes (cast_of (number_of from source.bytes bytes) source target)

-- a pointer of n bytes as the address in the output, in m bytes
abbrev pub pointer_written : Naming Target → ℕ → ℕ → Order → Order → List ℕ → List ℕ
pointer_written names n m from to bytes = bytes_of to m (address_of (names (number_of from n bytes)))

-- some elements side by side, as they are carried over
abbrev pub run_written : Naming Target → Order → Order → Carry → ℕ → List ℕ → List ℕ
run_written names from to carry count src =
    pieces_by (element_carried names from to carry) (source_size carry) count src
