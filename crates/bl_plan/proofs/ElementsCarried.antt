-- What is written of the values of a leaf's elements: zeros for zero, and else what a step writes.
use Rattle.std.proofs.Common.{◌≡◌, ℕ, zero, suc, ◌+◌, ◌-◌, ◌*◌, ◌%◌, ◌^◌, ◌≤◌, ◌<◌, All, List, ◌∷◌, ◌++◌, length, drop, take, refl, sym, ap, ◌∙◌, append_assoc, append-nil, arith, inl, inr}
use Rattle.std.specs.Prelude.{flat_map, None, pos}
use Rattle.std.proofs.Math.Nat.{zero-div, mod-eq_of_lt}
use Rattle.std.proofs.Math.Seq.{take-add}
use Rattle.std.proofs.lemmas.Nat.{pow_pos}
use Rattle.std.proofs.lemmas.List.{replicate-append-replicate, drop-drop, take_all}
use Rattle.std.specs.Int.{byte_at, bytes_high_first, bytes_low_first}
use Rattle.bl_num.specs.declared.number.Order.{Order}
use Rattle.bl_num.specs.declared.number.Order.TheVariants.{Little, Big}
use Rattle.bl_num.specs.declared.number.Whole.{Whole}
use Rattle.bl_num.specs.Numbers.{IsWholeLength, number_of, bytes_of, bits_of, number_meant, cast_of}
use Rattle.bl_num.proofs.BytesBack.{bytes_of-number_of}
use Rattle.bl_num.proofs.Casts.{cast_of-same, cast_of-lt}
use Rattle.bl_format.specs.declared.layout.Kind.{Kind}
use Rattle.bl_format.specs.declared.layout.Kind.TheVariants as kinds
use Rattle.bl_format.specs.Words.{part, zeros, numbers_below}
use Rattle.bl_selection.specs.Written.{value_written}
use Rattle.bl_selection.specs.Fate.{zero_of_kind}
use Rattle.bl_plan.proofs.LeavesWritten.{flat_map-suc}
use Rattle.bl_plan.proofs.StepsBehind.{run_by}

-- ---- zeros

byte_at-zero : (i : ℕ) → byte_at i 0 ≡ 0
byte_at-zero zero = refl
byte_at-zero (suc i) = ap (λ (n : ℕ). n % 256) (zero-div (256 ^ suc i))

low_zeros : (i n : ℕ) → bytes_low_first i n 0 ≡ zeros n
low_zeros i zero = refl
low_zeros i (suc n) = λ j. byte_at-zero i j ∷ low_zeros (suc i) n j

high_zeros : (n : ℕ) → bytes_high_first n 0 ≡ zeros n
high_zeros zero = refl
high_zeros (suc n) = λ j. byte_at-zero n j ∷ high_zeros n j

-- zero is written as zeros
pub bytes_of-zero : (order : Order) (n : ℕ) → bytes_of order n 0 ≡ zeros n
bytes_of-zero Little n = low_zeros 0 n
bytes_of-zero Big n = high_zeros n

zero_mod : (n : ℕ) → bits_of n (pos 0) ≡ 0
unfolding bits_of
zero_mod n = mod-eq_of_lt (pow_pos (8 * n))

-- and so is the zero of each kind
pub zero_written : (order : Order) (kind : Kind) (size : ℕ) → value_written order size (zero_of_kind None kind size) ≡ zeros size
zero_written order (kinds.Whole whole) size = ap (bytes_of order size) (zero_mod size) ∙ bytes_of-zero order size
zero_written order (kinds.Bits n) size = bytes_of-zero order size
zero_written order (kinds.Pointer depth t) size = bytes_of-zero order size
zero_written order kinds.Opaque size = refl

-- ---- the elements that are kept, and the others

-- functions that agree below n give the same
pub flat_map-same : (f g : ℕ → List ℕ) (n : ℕ) → ((k : ℕ) → k < n → f k ≡ g k) → flat_map f (numbers_below n) ≡ flat_map g (numbers_below n)
flat_map-same f g zero same = refl
flat_map-same f g (suc n) same =
    flat_map-suc f n
    ∙ ap (λ (t : List ℕ). flat_map f (numbers_below n) ++ t) (same n (omega arith))
    ∙ ap (λ (t : List ℕ). t ++ g n) (flat_map-same f g n (λ k lt. same k (omega (arith, lt))))
    ∙ sym (flat_map-suc g n)

-- the first m by one function, and zeros for the others
first_and_zeros : (h f : ℕ → List ℕ) (size m d : ℕ)
    → ((k : ℕ) → k < m → h k ≡ f k) → ((k : ℕ) → m ≤ k → h k ≡ zeros size)
    → flat_map h (numbers_below (m + d)) ≡ flat_map f (numbers_below m) ++ zeros (d * size)
first_and_zeros h f size m zero same none =
    let all : m + 0 ≡ m = omega arith in
    let nothing : 0 * size ≡ 0 = omega arith in
    ap (λ (n : ℕ). flat_map h (numbers_below n)) all ∙ flat_map-same h f m same
    ∙ sym (append-nil (flat_map f (numbers_below m)))
    ∙ ap (λ (n : ℕ). flat_map f (numbers_below m) ++ zeros n) (sym nothing)
first_and_zeros h f size m (suc d) same none =
    let next : m + suc d ≡ suc (m + d) = omega arith in
    let sum : d * size + size ≡ suc d * size = omega arith in
    let front : List ℕ = flat_map f (numbers_below m) in
    ap (λ (n : ℕ). flat_map h (numbers_below n)) next ∙ flat_map-suc h (m + d)
    ∙ ap (λ (t : List ℕ). flat_map h (numbers_below (m + d)) ++ t) (none (m + d) (omega arith))
    ∙ ap (λ (t : List ℕ). t ++ zeros size) (first_and_zeros h f size m d same none)
    ∙ append_assoc front (zeros (d * size)) (zeros size)
    ∙ ap (λ (t : List ℕ). front ++ t) (replicate-append-replicate {A = ℕ} (d * size) size 0 ∙ ap zeros sum)

-- the first m of n by one function, and zeros for the others
pub kept_and_zeros : (h f : ℕ → List ℕ) (size m n : ℕ) → m ≤ n
    → ((k : ℕ) → k < m → h k ≡ f k) → ((k : ℕ) → m ≤ k → h k ≡ zeros size)
    → flat_map h (numbers_below n) ≡ flat_map f (numbers_below m) ++ zeros ((n - m) * size)
kept_and_zeros h f size m n le same none =
    let sum : m + (n - m) ≡ n = omega (arith, le) in
    ap (λ (k : ℕ). flat_map h (numbers_below k)) (sym sum) ∙ first_and_zeros h f size m (n - m) same none

-- ---- bytes as they are

-- pieces of some bytes, one behind another, are these bytes
pub parts_joined : (src : List ℕ) (at size n : ℕ) → run_by (λ p. p) src at size n ≡ part src at (n * size)
parts_joined src at size zero = let none : 0 ≡ 0 * size = omega arith in ap (part src at) none
parts_joined src at size (suc n) =
    let sum : n * size + size ≡ suc n * size = omega arith in
    flat_map-suc (λ k. part src (at + k * size) size) n
    ∙ ap (λ (t : List ℕ). t ++ part src (at + n * size) size) (parts_joined src at size n)
    ∙ ap (λ (t : List ℕ). part src at (n * size) ++ take size t) (sym (drop-drop (n * size) at src))
    ∙ sym (take-add (n * size) size (drop at src)) ∙ ap (part src at) sum

-- a byte is the same in either order
pub byte_carried : (from to : Order) (p : List ℕ) → All (λ b. b < 256) p → length p ≡ 1 → bytes_of to 1 (number_of from 1 p) ≡ p
byte_carried Little Little p all long = bytes_of-number_of Little 1 p all (omega (arith, long)) ∙ take_all 1 p (omega (arith, long))
byte_carried Little Big p all long = bytes_of-number_of Little 1 p all (omega (arith, long)) ∙ take_all 1 p (omega (arith, long))
byte_carried Big Little p all long = bytes_of-number_of Big 1 p all (omega (arith, long)) ∙ take_all 1 p (omega (arith, long))
byte_carried Big Big p all long = bytes_of-number_of Big 1 p all (omega (arith, long)) ∙ take_all 1 p (omega (arith, long))

-- ---- whole numbers

pub bits_of_bytes : (n : ℕ) → IsWholeLength n → 2 ^ (8 * n) ≡ 256 ^ n
bits_of_bytes n (inl e) = rw e refl
bits_of_bytes n (inr (inl e)) = rw e refl
bits_of_bytes n (inr (inr (inl e))) = rw e refl
bits_of_bytes n (inr (inr (inr e))) = rw e refl

-- what is written of a number that was cast and read as one of the target's type is the cast
pub cast_written : (v : ℕ) (a b : Whole) → bits_of b.bytes (number_meant b (bits_of b.bytes (number_meant a v))) ≡ cast_of v a b
unfolding cast_of
cast_written v a b =
    let u : ℕ = bits_of b.bytes (number_meant a v) in
    cast_of-same u b ∙ mod-eq_of_lt (cast_of-lt v a b)

-- a cast to a type of the same length keeps the bits
pub cast_kept : (v : ℕ) (a b : Whole) → a.bytes ≡ b.bytes → v < 2 ^ (8 * a.bytes) → cast_of v a b ≡ v
unfolding cast_of
cast_kept v a b same small =
    ap (λ (n : ℕ). bits_of n (number_meant a v)) (sym same) ∙ cast_of-same v a ∙ mod-eq_of_lt small
