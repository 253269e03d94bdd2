-- What raw blocks are in another form, by their kind. This project's own.
use Rattle.std.specs.Prelude.{ℕ, ◌≤◌, ◌/◌, Bool, true, false, List, ◌++◌, length, drop}
use Rattle.bl_num.specs.declared.number.Order.{Order}
use Rattle.bl_num.specs.declared.number.Order.TheVariants.{Little, Big}
use Rattle.bl_num.specs.declared.number.Form.{Form}
use Rattle.bl_num.specs.Numbers.{number_of, bytes_of, pointer_bytes}
use Rattle.bl_format.specs.declared.file.Header.{Header}
use Rattle.bl_format.specs.declared.raw.RawKind.{RawKind}
use Rattle.bl_format.specs.declared.raw.RawKind.TheVariants as raw
use Rattle.bl_format.specs.Graph.{Target, Naming}
use Rattle.bl_format.specs.Nodes.{pair_length}
use Rattle.bl_selection.specs.Written.{address_of}
use Rattle.bl_ptrarrays.specs.Pieces.{pieces_by, whole_pieces_by}

-- a header of a form; what is written of raw blocks doesn't look at its version
abbrev pub header_with : Form → Header
header_with form = record { width = form.width; order = form.order; version = 250 }

-- two orders aren't the same
abbrev pub is_other : Order → Order → Bool
is_other Little Little = false
is_other Little Big = true
is_other Big Little = true
is_other Big Big = false

-- the number in n bytes, in another order
abbrev pub number_carried : ℕ → Order → Order → List ℕ → List ℕ
number_carried n from to bytes = bytes_of to n (number_of from n bytes)

-- numbers of n bytes each in another order, and what stands behind them
abbrev pub numbers_carried : ℕ → Order → Order → List ℕ → List ℕ
numbers_carried n from to bytes = whole_pieces_by (number_carried n from to) n bytes

-- two numbers of four bytes in another order, and what stands behind them
abbrev pub pair_carried : Order → Order → List ℕ → List ℕ
pair_carried from to bytes =
    number_carried 4 from to bytes ++ number_carried 4 from to (drop 4 bytes) ++ drop pair_length bytes

-- a pointer in another form: the address in the output of what it names
abbrev pub pointer_carried : Naming Target → Form → Form → List ℕ → List ℕ
pointer_carried names from to bytes =
    bytes_of to.order (pointer_bytes to.width) (address_of (names (number_of from.order (pointer_bytes from.width) bytes)))

-- all whole pointers in another form
abbrev pub pointers_carried : Naming Target → Form → Form → List ℕ → List ℕ
pointers_carried names from to bytes =
    let n = pointer_bytes from.width in
    pieces_by (pointer_carried names from to) n (length bytes / n) bytes

-- a payload of a kind and so many bytes is written in its own form as it was read: it has no pointers, and a pair
-- has its two numbers
abbrev pub IsKept : RawKind → ℕ → Type 0
IsKept raw.Bytes len = Unit {0}
IsKept (raw.Numbers n) len = Unit {0}
IsKept raw.Pointers len = ⊥
IsKept raw.Pair len = pair_length ≤ len
