-- How the elements of a leaf stand in the bytes of an element of its struct, and what a write of one leaves. This
-- project's own, over the structs of Blender's SDNA.
use Rattle.std.specs.Prelude.{◌≤◌, ◌⊎◌, ℕ, ◌+◌, ◌*◌, List, [], ◌++◌, length, take, drop}
use Rattle.bl_num.specs.declared.number.Order.{Order}
use Rattle.bl_num.specs.Numbers.{IsWholeLength, number_of, number_meant}
use Rattle.bl_format.specs.declared.layout.Kind.{Kind}
use Rattle.bl_format.specs.declared.layout.Kind.TheVariants as kinds
use Rattle.bl_format.specs.declared.layout.Leaf.{Leaf}
use Rattle.bl_format.specs.Graph.{Value, Number, Pattern, Points, Opaque, Naming}
use Rattle.bl_format.specs.Words.{part}

-- where element k of a leaf begins, in bytes from the start of its struct
abbrev pub element_place : Leaf → ℕ → ℕ
element_place x k = x.offset + k * x.size

-- the bytes of element k of a leaf, in those of a struct's element
abbrev pub bytes_of_leaf : Leaf → List ℕ → ℕ → List ℕ
bytes_of_leaf x bytes k = part bytes (element_place x k) x.size

-- the number in element k of a leaf
abbrev pub number_of_leaf : Order → Leaf → List ℕ → ℕ → ℕ
number_of_leaf order x bytes k = number_of order x.size (bytes_of_leaf x bytes k)

-- some bytes with others in place of those that stood at a place
abbrev pub replaced_at : ℕ → List ℕ → List ℕ → List ℕ
replaced_at at new bytes = take at bytes ++ (new ++ drop (at + length new) bytes)

-- all elements of a leaf lie inside so many bytes
abbrev pub FitsIn : Leaf → ℕ → Type 0
FitsIn x n = x.offset + x.size * x.count ≤ n

-- each element of a leaf is as long as a number
abbrev pub HoldsNumbers : Leaf → Type 0
HoldsNumbers x = IsWholeLength x.size

-- a leaf ends, with all its elements, where another begins or before
abbrev pub StandsBefore : Leaf → Leaf → Type 0
StandsBefore x y = x.offset + x.size * x.count ≤ y.offset

-- n bytes from one place on and m bytes from another have none in common
abbrev pub AreDisjoint : ℕ → ℕ → ℕ → ℕ → Type 0
AreDisjoint at n from m = (at + n ≤ from) ⊎ (from + m ≤ at)

-- the value that a number is as one of a kind; opaque bytes are none
abbrev pub value_of_number : {P : Type 0} → Kind → Naming P → ℕ → Value P
value_of_number (kinds.Whole whole) names v = Number (number_meant whole v)
value_of_number (kinds.Bits n) names v = Pattern v
value_of_number (kinds.Pointer depth t) names v = Points (names v)
value_of_number kinds.Opaque names v = Opaque []
