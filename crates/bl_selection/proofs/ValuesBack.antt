-- A value that fits a leaf's kind and size is read again from the bytes in which it is written.
use Rattle.std.proofs.Common.{◌≡◌, ℕ, suc, ◌-◌, ◌*◌, ◌%◌, ◌^◌, ◌≤◌, ◌<◌, Bool, true, false, cond, [], length, refl, sym, ap, ◌∙◌, arith, inl, inr, append-nil}
use Rattle.std.specs.Prelude.{ℤ, pos, negsuc}
use Rattle.std.proofs.Math.Nat.{mod-lt, mod-eq_of_lt}
use Rattle.std.proofs.lemmas.Bool.{lt-leb, le-leb}
use Rattle.std.proofs.lemmas.Nat.{pow_pos}
use Rattle.bl_num.specs.declared.number.Order.{Order}
use Rattle.bl_num.specs.declared.number.Width.{Width}
use Rattle.bl_num.specs.declared.number.Whole.{Whole}
use Rattle.bl_num.specs.Numbers.{IsWholeLength, number_of, bytes_of, number_meant, low_bits_meant, bits_of}
use Rattle.bl_num.proofs.BytesOf.{length-bytes_of, number_of-bytes_of}
use Rattle.bl_format.specs.declared.layout.Kind.{Kind}
use Rattle.bl_format.specs.declared.layout.Kind.TheVariants as kinds
use Rattle.bl_format.specs.Graph.{Target, Value, Number, Pattern, Points, Opaque, Naming, value_by}
use Rattle.bl_format.proofs.LeafKinds.{FitsKind}
use Rattle.bl_selection.specs.Written.{address_of, value_written}
use Rattle.bl_selection.specs.Fits.{IsInRange, FillsPlace, ValueFits}

-- ---- whole numbers

-- low bits that mean a number that isn't negative
low_bits-pos : (signed : Bool) (size v : ℕ) → cond signed (2 * v) v < size → low_bits_meant signed size v ≡ pos v
low_bits-pos true size v lt = rw (lt-leb size (2 * v) lt) refl
low_bits-pos false size v lt = refl

-- and those that mean a negative one
low_bits-negative : (size v : ℕ) → 2 * suc v ≤ size → low_bits_meant true size (size - 1 - v) ≡ negsuc v
low_bits-negative size v le =
    let back : size - (size - 1 - v) - 1 ≡ v = omega (arith, le) in
    rw (le-leb size (2 * (size - 1 - v)) (omega (arith, le)), back) refl

not_more : (signed : Bool) (v size : ℕ) → cond signed (2 * v) v < size → v < size
not_more true v size lt = omega (arith, lt)
not_more false v size lt = lt

-- a number in the range of a type is meant by its low bits
pub number_meant-bits_of : (whole : Whole) (z : ℤ) → IsInRange whole z → number_meant whole (bits_of whole.bytes z) ≡ z
unfolding number_meant bits_of
number_meant-bits_of whole (pos v) fits =
    let size : ℕ = 2 ^ (8 * whole.bytes) in
    let same : v % size ≡ v = mod-eq_of_lt (not_more whole.signed v size fits) in
    rw (same, same) (low_bits-pos whole.signed size v fits)
number_meant-bits_of whole (negsuc v) fits =
    let size : ℕ = 2 ^ (8 * whole.bytes) in
    let le : 2 * suc v ≤ size = fits.1 in
    let same : v % size ≡ v = mod-eq_of_lt (omega (arith, le)) in
    let low : (size - 1 - v) % size ≡ size - 1 - v = mod-eq_of_lt (omega (arith, le)) in
    rw (same, low, fits.0) (low_bits-negative size v le)

-- the low bits of a number fit as many bytes as whole numbers have
pub powers : (n : ℕ) → IsWholeLength n → 2 ^ (8 * n) ≡ 256 ^ n
powers n (inl e) = rw e refl
powers n (inr (inl e)) = rw e refl
powers n (inr (inr (inl e))) = rw e refl
powers n (inr (inr (inr e))) = rw e refl

bits_of-lt : (n : ℕ) (z : ℤ) → IsWholeLength n → bits_of n z < 256 ^ n
unfolding bits_of
bits_of-lt n (pos v) length = rw (← powers n length) (mod-lt v (pow_pos (8 * n)))
bits_of-lt n (negsuc v) length = rw (← powers n length) (omega (arith, pow_pos (8 * n)))

-- ---- the law

-- a number that fits its bytes is read again
pub number_back : (order : Order) (n v : ℕ) → v < 256 ^ n → number_of order n (bytes_of order n v) ≡ v
number_back order n v lt = ap (number_of order n) (sym (append-nil (bytes_of order n v))) ∙ number_of-bytes_of order n v [] lt

-- a value that fits fills its place
pub fits-fills : (names : Naming Target) (kind : Kind) (size : ℕ) (value : Value Target)
    → ValueFits names kind size value → FillsPlace size value
fits-fills names (kinds.Whole whole) size (Number z) fits = tt
fits-fills names (kinds.Bits n) size (Pattern bits) fits = tt
fits-fills names (kinds.Pointer depth t) size (Points to) fits = tt
fits-fills names kinds.Opaque size (Opaque bytes) fits = fits
fits-fills names _ size _ fits = absurd fits

-- a value that fits is read again
pub value_by-value_written : (names : Naming Target) (order : Order) (w : Width) (kind : Kind) (size : ℕ) (value : Value Target)
    → FitsKind w kind size → ValueFits names kind size value
    → value_by kind names order (value_written order size value) ≡ value
value_by-value_written names order w (kinds.Whole whole) size (Number z) kind fits =
    rw kind.0 (ap Number (ap (number_meant whole) (number_back order whole.bytes (bits_of whole.bytes z) (bits_of-lt whole.bytes z (rw kind.0 at kind.1))) ∙ number_meant-bits_of whole z fits))
value_by-value_written names order w (kinds.Bits n) size (Pattern bits) kind fits =
    rw kind.0 (ap Pattern (number_back order n bits fits))
value_by-value_written names order w (kinds.Pointer depth t) size (Points to) kind fits =
    rw (length-bytes_of order size (address_of to), number_back order size (address_of to) fits.0) (ap Points fits.1)
value_by-value_written names order w kinds.Opaque size (Opaque bytes) kind fits = refl
value_by-value_written names order w _ size _ kind fits = absurd fits
