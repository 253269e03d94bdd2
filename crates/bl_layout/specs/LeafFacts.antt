-- What holds of the leaves of every struct: they stand apart, each has the bytes of its kind, and each ends at one
-- member as a whole.
use Rattle.std.specs.Prelude.{◌≡◌, ℕ, ◌+◌, ◌*◌, ◌≤◌, ◌<◌, ◌⊎◌, List, [], ◌∷◌, Some, None, option_map}
use Rattle.std.specs.List.{last_or}
use Rattle.bl_num.specs.declared.number.Width.{Width}
use Rattle.bl_num.specs.Numbers.{IsWholeLength, pointer_bytes}
use Rattle.bl_format.specs.declared.layout.Kind.{Kind}
use Rattle.bl_format.specs.declared.layout.Kind.TheVariants as kinds
use Rattle.bl_format.specs.declared.layout.Leaf.{Leaf}

-- from a place on, some leaves stand one behind another, with all their elements, and end by another place
abbrev pub AreApart : ℕ → List Leaf → ℕ → Type 0
AreApart from [] to = from ≤ to
AreApart from (x ∷ xs) to = (from ≤ x.offset) × AreApart (x.offset + x.size * x.count) xs to

-- an element of a kind may have so many bytes: a whole number its own 1, 2, 4 or 8, a float its own 4 or 8, a pointer
-- those of the width, and opaque bytes any
abbrev pub FitsKind : Width → Kind → ℕ → Type 0
FitsKind w (kinds.Whole whole) size = (size ≡ whole.bytes) × IsWholeLength size
FitsKind w (kinds.Bits n) size = (size ≡ n) × ((size ≡ 4) ⊎ (size ≡ 8))
FitsKind w (kinds.Pointer depth t) size = size ≡ pointer_bytes w
FitsKind w kinds.Opaque size = Unit {0}

-- a leaf has elements, and each has some bytes, as many as its kind may have
pub record IsSized (w : Width) (x : Leaf) : Type 0 where
  pub size : 0 < x.size
  pub count : 0 < x.count
  pub kind : FitsKind w x.kind x.size

-- the last step to a leaf is into element 0
abbrev pub EndsAtZero : Leaf → Type 0
EndsAtZero x = option_map (λ step. step.element) (last_or None x.steps) ≡ Some 0
