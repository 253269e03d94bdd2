-- The n bytes that spell the number that n bytes spell are these bytes, in either order.
use Rattle.std.proofs.Common.{◌≡◌, ℕ, zero, suc, ◌+◌, ◌*◌, ◌/◌, ◌%◌, ◌^◌, ◌<◌, ◌≤◌, List, [], ◌∷◌, length, take, All, slice_index, refl, sym, ap, ◌∙◌, arith}
use Rattle.std.proofs.Math.Nat.{div-div-eq-div-mul, div-one, mod-eq_of_lt, mul-add-div_right, mul-add-mod_self_right, mul_assoc, one-le-pow, pow-succ'}
use Rattle.std.proofs.lemmas.List.Elements.{All-head, All-tail}
use Rattle.std.proofs.lemmas.Nat.{div-mul-add}
use Rattle.std.specs.Int.{byte_at, bytes_high_first, bytes_low_first}
use Rattle.byteorder.specs.Endian.{big_from, little_from}
use Rattle.byteorder.specs.Numbers.{big_from-cons, little_from-cons, big_from-lt}
use Rattle.bl_num.specs.declared.number.Order.{Order}
use Rattle.bl_num.specs.declared.number.Order.TheVariants.{Little, Big}
use Rattle.bl_num.specs.Numbers.{number_of, bytes_of}

byte_at-pow : (k v : ℕ) → byte_at k v ≡ v / 256 ^ k % 256
byte_at-pow zero v = ap (λ (y : ℕ). y % 256) (sym (div-one v))
byte_at-pow (suc k) v = refl

power_above_zero : (n : ℕ) → zero < 256 ^ n
power_above_zero n = let h = one-le-pow n 256 (omega arith) in omega arith

byte_lt : (xs : List ℕ) → All (λ b. b < 256) xs → (k : ℕ) → slice_index xs k < 256
byte_lt [] all k = omega arith
byte_lt (x ∷ xs) all zero = All-head (λ b. b < 256) x xs all
byte_lt (x ∷ xs) all (suc k) = byte_lt xs (All-tail (λ b. b < 256) x xs all) k

both : (x y : ℕ) (xs ys : List ℕ) → x ≡ y → xs ≡ ys → x ∷ xs ≡ y ∷ ys
both x y xs ys e es = cc

-- the n low bytes are those of what is left below them
high_first-low : (n m r : ℕ) → bytes_high_first n (m * 256 ^ n + r) ≡ bytes_high_first n r
high_first-low zero m r = refl
high_first-low (suc n) m r =
    let power = 256 ^ n in
    let regroup : m * 256 ^ suc n + r ≡ m * 256 * power + r = ap (λ (q : ℕ). m * q + r) (pow-succ' 256 n) ∙ ap (λ (q : ℕ). q + r) (sym (mul_assoc m 256 power)) in
    let high : byte_at n (m * 256 * power + r) ≡ byte_at n r =
    byte_at-pow n (m * 256 * power + r) ∙ ap (λ (q : ℕ). q % 256) (mul-add-div_right (power_above_zero n) (m * 256) r) ∙ mul-add-mod_self_right m 256 (r / power) ∙ sym (byte_at-pow n r) in
    ap (bytes_high_first (suc n)) regroup ∙ both (byte_at n (m * 256 * power + r)) (byte_at n r) (bytes_high_first n (m * 256 * power + r)) (bytes_high_first n r) high (high_first-low n (m * 256) r)

high_first_back : (n : ℕ) (xs : List ℕ) → All (λ b. b < 256) xs → n ≤ length xs → bytes_high_first n (big_from 0 n xs) ≡ take n xs
high_first_back zero xs all len = refl
high_first_back (suc n) [] all len = absurd (omega arith)
high_first_back (suc n) (x ∷ xs) all len =
    let others = All-tail (λ b. b < 256) x xs all in
    let r = big_from 0 n xs in
    let number : big_from 0 (suc n) (x ∷ xs) ≡ x * 256 ^ n + r = ap (λ (q : ℕ). x * 256 ^ n + q) (big_from-cons 0 n x xs) in
    let high : byte_at n (x * 256 ^ n + r) ≡ x =
    byte_at-pow n (x * 256 ^ n + r) ∙ ap (λ (q : ℕ). q % 256) (div-mul-add x (256 ^ n) r (big_from-lt 0 n xs (byte_lt xs others))) ∙ mod-eq_of_lt (All-head (λ b. b < 256) x xs all) in
    ap (bytes_high_first (suc n)) number ∙ both (byte_at n (x * 256 ^ n + r)) x (bytes_high_first n (x * 256 ^ n + r)) (take n xs) high (high_first-low n x r ∙ high_first_back n xs others (omega arith))

-- the bytes from place i + 1 are those from place i of the number without its lowest byte
low_first-suc : (n i v : ℕ) → bytes_low_first (suc i) n v ≡ bytes_low_first i n (v / 256)
low_first-suc zero i v = refl
low_first-suc (suc n) i v =
    let low : byte_at (suc i) v ≡ byte_at i (v / 256) =
    ap (λ (q : ℕ). v / q % 256) (pow-succ' 256 i) ∙ ap (λ (q : ℕ). q % 256) (sym (div-div-eq-div-mul v 256 (256 ^ i))) ∙ sym (byte_at-pow i (v / 256)) in
    both (byte_at (suc i) v) (byte_at i (v / 256)) (bytes_low_first (suc (suc i)) n v) (bytes_low_first (suc i) n (v / 256)) low (low_first-suc n (suc i) v)

low_first_back : (n : ℕ) (xs : List ℕ) → All (λ b. b < 256) xs → n ≤ length xs → bytes_low_first 0 n (little_from 0 n xs) ≡ take n xs
low_first_back zero xs all len = refl
low_first_back (suc n) [] all len = absurd (omega arith)
low_first_back (suc n) (x ∷ xs) all len =
    let byte = All-head (λ b. b < 256) x xs all in
    let w = little_from 0 n xs in
    let number : little_from 0 (suc n) (x ∷ xs) ≡ x + 256 * w = ap (λ (q : ℕ). x + 256 * q) (little_from-cons 0 n x xs) in
    let low : byte_at 0 (x + 256 * w) ≡ x = omega (arith, byte) in
    let rest : (x + 256 * w) / 256 ≡ w = omega (arith, byte) in
    ap (bytes_low_first 0 (suc n)) number
    ∙ both (byte_at 0 (x + 256 * w)) x (bytes_low_first 1 n (x + 256 * w)) (take n xs) low
    (low_first-suc n 0 (x + 256 * w) ∙ ap (bytes_low_first 0 n) rest ∙ low_first_back n xs (All-tail (λ b. b < 256) x xs all) (omega arith))

pub bytes_of-number_of : (order : Order) (n : ℕ) (xs : List ℕ) → All (λ b. b < 256) xs → n ≤ length xs → bytes_of order n (number_of order n xs) ≡ take n xs
bytes_of-number_of Little n xs all len = low_first_back n xs all len
bytes_of-number_of Big n xs all len = high_first_back n xs all len
