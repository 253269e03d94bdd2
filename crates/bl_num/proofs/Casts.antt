-- What a cast keeps: the number meant modulo the size of the target, and under its own type the low bits.
use Rattle.std.proofs.Common.{◌≡◌, ℕ, Bool, true, false, ◌-◌, ◌*◌, ◌%◌, ◌^◌, ◌<◌, ◌&&◌, nat_le, if◌then◌else◌, refl, sym, ap, ◌∙◌, arith}
use Rattle.std.specs.Prelude.{ℤ, pos, negsuc}
use Rattle.std.specs.Int.{int_rem_euclid}
use Rattle.std.proofs.Math.Nat.{mod-eq_of_lt}
use Rattle.std.proofs.lemmas.Nat.{mod_below, pow_pos}
use Rattle.bl_num.specs.declared.number.Whole.{Whole}
use Rattle.bl_num.specs.Numbers.{number_meant, low_bits_meant, bits_of, cast_of}

-- two numbers are one modulo a size
abbrev pub IsSameModulo : ℕ → ℤ → ℤ → Type 0
IsSameModulo size a b = int_rem_euclid a (pos size) ≡ int_rem_euclid b (pos size)

-- the low bits of a number are what is left of it modulo their size
bits_of-modulo : (n : ℕ) (z : ℤ) → int_rem_euclid z (pos (2 ^ (8 * n))) ≡ pos (bits_of n z)
unfolding bits_of
bits_of-modulo n (pos v) = refl
bits_of-modulo n (negsuc v) = refl

-- a number of a size less than a power, and the one by the power below it, have the same low bits
bits_of-either : (n low : ℕ) (negative : Bool) → low < 2 ^ (8 * n)
    → bits_of n (if negative then negsuc (2 ^ (8 * n) - low - 1) else pos low) ≡ low
unfolding bits_of
bits_of-either n low false less = mod-eq_of_lt less
bits_of-either n low true less =
    let size = 2 ^ (8 * n) in
    let small : (size - low - 1) % size ≡ size - low - 1 = mod-eq_of_lt (omega (arith, less)) in
    omega (arith, less, small)

-- the number that low bits mean has these low bits
bits_of-low_bits_meant : (signed : Bool) (n low : ℕ) → low < 2 ^ (8 * n)
    → bits_of n (low_bits_meant signed (2 ^ (8 * n)) low) ≡ low
bits_of-low_bits_meant signed n low less = bits_of-either n low (signed && nat_le (2 ^ (8 * n)) (2 * low)) less

low_bits_below : (n v : ℕ) → v % 2 ^ (8 * n) < 2 ^ (8 * n)
low_bits_below n v = mod_below v (2 ^ (8 * n)) (pow_pos (8 * n))

bits_of-number_meant : (whole : Whole) (v : ℕ) → bits_of whole.bytes (number_meant whole v) ≡ v % 2 ^ (8 * whole.bytes)
unfolding number_meant
bits_of-number_meant whole v =
    bits_of-low_bits_meant whole.signed whole.bytes (v % 2 ^ (8 * whole.bytes)) (low_bits_below whole.bytes v)

-- a cast to the same type keeps the low bits
pub cast_of-same : (v : ℕ) (whole : Whole) → cast_of v whole whole ≡ v % 2 ^ (8 * whole.bytes)
unfolding cast_of
cast_of-same v whole = bits_of-number_meant whole v

bits_of-lt : (n : ℕ) (z : ℤ) → bits_of n z < 2 ^ (8 * n)
unfolding bits_of
bits_of-lt n (pos v) = low_bits_below n v
bits_of-lt n (negsuc v) = omega (arith, pow_pos (8 * n))

-- a cast has no bits beyond those of the target
pub cast_of-lt : (v : ℕ) (from to : Whole) → cast_of v from to < 2 ^ (8 * to.bytes)
unfolding cast_of
cast_of-lt v from to = bits_of-lt to.bytes (number_meant from v)

-- the number that a cast means is the old one modulo 2 to the target's bits
pub number_meant-cast_of : (v : ℕ) (from to : Whole)
    → IsSameModulo (2 ^ (8 * to.bytes)) (number_meant to (cast_of v from to)) (number_meant from v)
unfolding cast_of
number_meant-cast_of v from to =
    let bits = bits_of to.bytes (number_meant from v) in
    bits_of-modulo to.bytes (number_meant to bits)
    ∙ ap pos (bits_of-number_meant to bits ∙ mod-eq_of_lt (bits_of-lt to.bytes (number_meant from v)))
    ∙ sym (bits_of-modulo to.bytes (number_meant from v))
