-- When values fit the leaves in which they are written, so that they are read again. This project's own.
use Rattle.std.specs.Prelude.{◌≡◌, ℕ, suc, ◌*◌, ◌^◌, ◌<◌, ◌≤◌, true, if◌then◌else◌, All, List, [], ◌∷◌, length, map, flat_map, ℤ, pos, negsuc}
use Rattle.bl_num.specs.declared.number.Whole.{Whole}
use Rattle.bl_num.specs.declared.number.Width.{Width}
use Rattle.bl_num.specs.Numbers.{pointer_bytes}
use Rattle.bl_format.specs.declared.raw.RawKind.{RawKind}
use Rattle.bl_format.specs.declared.raw.RawKind.TheVariants as raw
use Rattle.bl_format.specs.declared.layout.Kind.{Kind}
use Rattle.bl_format.specs.declared.layout.Kind.TheVariants as kinds
use Rattle.bl_format.specs.Words.{numbers_below}
use Rattle.bl_format.specs.Layout.{NamedLeaf}
use Rattle.bl_format.specs.Graph.{Target, Value, Number, Pattern, Points, Opaque, Naming, Fields, path_of, Contents, IsBytes, IsNumbers, IsPointers, IsPair}
use Rattle.bl_selection.specs.Written.{address_of}

-- a number is one that a whole number's type has: with a sign, half of its bit patterns are the negative ones
abbrev pub IsInRange : Whole → ℤ → Type 0
IsInRange whole (pos v) = (if whole.signed then 2 * v else v) < 2 ^ (8 * whole.bytes)
IsInRange whole (negsuc v) = (whole.signed ≡ true) × (2 * suc v ≤ 2 ^ (8 * whole.bytes))

-- a value takes the bytes of its place: numbers are written in as many as there are, and bytes as they are
abbrev pub FillsPlace : ℕ → Value Target → Type 0
FillsPlace size (Opaque bytes) = length bytes ≡ size
FillsPlace size value = Unit {0}

-- the address of a node or of null fits some bytes and names it
abbrev pub PointerFits : Naming Target → ℕ → Target → Type 0
PointerFits names size to = (address_of to < 256 ^ size) × (names (address_of to) ≡ to)

-- a value is one that a leaf of a kind and a size holds, where a pointer's address names what it points to
abbrev pub ValueFits : Naming Target → Kind → ℕ → Value Target → Type 0
ValueFits names (kinds.Whole whole) size (Number z) = IsInRange whole z
ValueFits names (kinds.Bits n) size (Pattern bits) = bits < 256 ^ n
ValueFits names (kinds.Pointer depth t) size (Points to) = PointerFits names size to
ValueFits names kinds.Opaque size (Opaque bytes) = length bytes ≡ size
ValueFits names kind size value = ⊥

-- an element of a leaf, by its number
abbrev pub Slot : Type 0
Slot = NamedLeaf × ℕ

-- all elements of some leaves, in order
abbrev pub slots : List NamedLeaf → List Slot
slots xs = flat_map (λ (x : NamedLeaf). map (λ k. (x, k)) (numbers_below x.count)) xs

-- some fields are, in order, a value that fits for each of some leaf elements, under its path
abbrev pub FieldsFit : Naming Target → List Slot → Fields → Type 0
FieldsFit names [] [] = Unit {0}
FieldsFit names (e ∷ es) (f ∷ fs) =
    (f.0 ≡ path_of e.0.way e.1) × ValueFits names e.0.kind e.0.size f.1 × FieldsFit names es fs
FieldsFit names _ _ = ⊥

-- ---- raw contents

-- what a raw node of a kind holds can be written and read again: patterns fit their bytes, with less than one
-- behind them, and addresses fit and name what the pointers point to
abbrev pub ContentsFit : Naming Target → Width → RawKind → Contents → Type 0
ContentsFit names w raw.Bytes (IsBytes bytes) = Unit {0}
ContentsFit names w (raw.Numbers n) (IsNumbers patterns rest) = All (λ p. p < 256 ^ n) patterns × (length rest < n)
ContentsFit names w raw.Pointers (IsPointers to) = All (PointerFits names (pointer_bytes w)) to
ContentsFit names w raw.Pair (IsPair first second rest) = (first < 256 ^ 4) × (second < 256 ^ 4)
ContentsFit names w kind contents = ⊥
