-- What the number that was written into a leaf means there: the value that was given, or the node of an address.
use Rattle.std.proofs.Common.{◌≡◌, ℕ, ◌*◌, ◌%◌, ◌^◌, ◌<◌, refl, ap, ◌∙◌, inl, inr}
use Rattle.std.proofs.Math.Nat.{mod-mod, mod-eq_of_lt}
use Rattle.bl_num.specs.declared.number.Whole.{Whole}
use Rattle.bl_num.specs.declared.number.Width.{Width}
use Rattle.bl_num.specs.Numbers.{IsWholeLength, low_bits_meant, number_meant}
use Rattle.bl_format.specs.declared.layout.Kind.TheVariants as kinds
use Rattle.bl_format.specs.Graph.{Target, Number, Pattern, Points, Naming}
use Rattle.bl_format.proofs.LeafKinds.{FitsKind}
use Rattle.bl_selection.specs.declared.draft.MadeTo.TheVariants as to
use Rattle.bl_selection.specs.Selection.{value_given}
use Rattle.bl_members.specs.Leaf.{value_of_number}

-- the numbers of n bytes are those of 8 n bits
bytes_as_bits : (n : ℕ) → IsWholeLength n → 256 ^ n ≡ 2 ^ (8 * n)
bytes_as_bits n is =
    elim is [
      | inl h ↦ rw h refl
      | inr later ↦ elim later [
        | inl h ↦ rw h refl
        | inr last ↦ elim last [ inl h ↦ rw h refl | inr h ↦ rw h refl ]
      ]
    ]

-- only the low bits of a number are meant
number_meant-low_bits : (whole : Whole) (v : ℕ) → number_meant whole (v % 2 ^ (8 * whole.bytes)) ≡ number_meant whole v
unfolding number_meant
number_meant-low_bits whole v =
    ap (low_bits_meant whole.signed (2 ^ (8 * whole.bytes))) (mod-mod v (2 ^ (8 * whole.bytes)))

-- a whole number is the one that was given
pub value_of_number-whole : (w : Width) (whole : Whole) (size : ℕ) (names : Naming Target) (v : ℕ)
    → FitsKind w (kinds.Whole whole) size
    → value_of_number (kinds.Whole whole) names (v % 256 ^ size) ≡ value_given (kinds.Whole whole) (to.Number v)
value_of_number-whole w whole size names v fits =
    ap (λ (m : ℕ). Number (number_meant whole (v % m))) (bytes_as_bits size fits.1 ∙ ap (λ (n : ℕ). 2 ^ (8 * n)) fits.0)
    ∙ ap Number (number_meant-low_bits whole v)

-- so is a float's pattern
pub value_of_number-bits : (w : Width) (n size : ℕ) (names : Naming Target) (v : ℕ)
    → FitsKind w (kinds.Bits n) size
    → value_of_number (kinds.Bits n) names (v % 256 ^ size) ≡ value_given (kinds.Bits n) (to.Number v)
value_of_number-bits w n size names v fits =
    let is : IsWholeLength size = elim fits.1 [ inl h ↦ inr (inr (inl h)) | inr h ↦ inr (inr (inr h)) ] in
    ap (λ (m : ℕ). Pattern (v % m)) (bytes_as_bits size is ∙ ap (λ (m : ℕ). 2 ^ (8 * m)) fits.0)

-- a pointer is what the address names, where that has no more bytes
pub value_of_number-pointer : {P : Type 0} (depth t size : ℕ) (names : Naming P) (v : ℕ) → v < 256 ^ size
    → value_of_number (kinds.Pointer depth t) names (v % 256 ^ size) ≡ Points (names v)
value_of_number-pointer depth t size names v lt = ap (λ (a : ℕ). Points (names a)) (mod-eq_of_lt lt)
