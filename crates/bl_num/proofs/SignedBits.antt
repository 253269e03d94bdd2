-- Numbers with a sign by their low bits: to add the sign's bit, to keep the low bits and to take it off again
-- gives the number meant.
use Rattle.std.proofs.Common.{◌≡◌, inl, inr, ℕ, Bool, true, false, ◌+◌, ◌-◌, ◌*◌, ◌%◌, ◌^◌, if◌then◌else◌, sym, ap, ◌∙◌, arith}
use Rattle.std.specs.Prelude.{ℤ, pos, negsuc, ◌-ℤ◌}
use Rattle.std.proofs.lemmas.Int.{ints}
use Rattle.std.proofs.Math.Path.{subst}
use Rattle.bl_num.specs.Numbers.{IsWholeLength, low_bits_meant, bits_of}

-- what holds of 1, 2, 4 and 8 holds of each length of a whole number
each_length : (P : ℕ → Type 0) → P 1 → P 2 → P 4 → P 8 → (n : ℕ) → IsWholeLength n → P n
each_length P a b c d n (inl e) = subst P (sym e) a
each_length P a b c d n (inr (inl e)) = subst P (sym e) b
each_length P a b c d n (inr (inr (inl e))) = subst P (sym e) c
each_length P a b c d n (inr (inr (inr e))) = subst P (sym e) d

-- 64 bits of a number have its low bits
low-bits_of : (z : ℤ) (n : ℕ) → IsWholeLength n → bits_of 8 z % 2 ^ (8 * n) ≡ bits_of n z
unfolding bits_of
low-bits_of (pos v) = each_length (λ n. v % 2 ^ 64 % 2 ^ (8 * n) ≡ v % 2 ^ (8 * n)) (omega arith) (omega arith) (omega arith) (omega arith)
low-bits_of (negsuc v) = each_length (λ n. (2 ^ 64 - 1 - v % 2 ^ 64) % 2 ^ (8 * n) ≡ 2 ^ (8 * n) - 1 - v % 2 ^ (8 * n)) (omega arith) (omega arith) (omega arith) (omega arith)

-- the bit of the sign
abbrev sign_of : Bool → ℕ → ℕ
sign_of signed n = if signed then 2 ^ (8 * n - 1) else 0

-- the low bits with the sign's bit added
abbrev shifted_of : Bool → ℕ → ℕ → ℕ
shifted_of signed v n = (v + sign_of signed n) % 2 ^ 64 % 2 ^ (8 * n)

-- the number that the low bits mean
abbrev meant_of : Bool → ℕ → ℕ → ℤ
meant_of signed v n = low_bits_meant signed (2 ^ (8 * n)) (v % 2 ^ (8 * n))

-- the sign's bit taken off again leaves the number meant, in 64 bits
abbrev IsWrapped : Bool → ℕ → ℕ → Type 0
IsWrapped signed v n = (shifted_of signed v n + (2 ^ 64 - sign_of signed n)) % 2 ^ 64 ≡ bits_of 8 (meant_of signed v n)

wrapped : (signed : Bool) (v n : ℕ) → IsWholeLength n → IsWrapped signed v n
unfolding bits_of
wrapped false v = each_length (IsWrapped false v) (omega arith) (omega arith) (omega arith) (omega arith)
wrapped true v = each_length (IsWrapped true v) (grind arith) (grind arith) (grind arith) (grind arith)

-- and as a number with a sign
abbrev IsMeant : Bool → ℕ → ℕ → Type 0
IsMeant signed v n = pos (shifted_of signed v n) -ℤ pos (sign_of signed n) ≡ meant_of signed v n

meant : (signed : Bool) (v n : ℕ) → IsWholeLength n → IsMeant signed v n
meant false v = each_length (IsMeant false v) (grind (arith, ints)) (grind (arith, ints)) (grind (arith, ints)) (grind (arith, ints))
meant true v = each_length (IsMeant true v) (grind (arith, ints)) (grind (arith, ints)) (grind (arith, ints)) (grind (arith, ints))

-- what is shifted by the bit that is added, where that is the sign's
shifted_by : (signed : Bool) (v n sign shifted : ℕ) → sign ≡ sign_of signed n
    → shifted ≡ (v + sign) % 2 ^ 64 % 2 ^ (8 * n) → shifted ≡ shifted_of signed v n
shifted_by signed v n sign shifted e f = f ∙ ap (λ (s : ℕ). (v + s) % 2 ^ 64 % 2 ^ (8 * n)) e

pub carried_after : (signed : Bool) (v n m sign shifted : ℕ) → IsWholeLength n → IsWholeLength m
    → sign ≡ sign_of signed n → shifted ≡ (v + sign) % 2 ^ 64 % 2 ^ (8 * n)
    → (shifted + (2 ^ 64 - sign)) % 2 ^ 64 % 2 ^ (8 * m) ≡ bits_of m (meant_of signed v n)
carried_after signed v n m sign shifted from to e f =
    ap (λ (s : ℕ). (shifted + (2 ^ 64 - s)) % 2 ^ 64 % 2 ^ (8 * m)) e
    ∙ ap (λ (x : ℕ). (x + (2 ^ 64 - sign_of signed n)) % 2 ^ 64 % 2 ^ (8 * m)) (shifted_by signed v n sign shifted e f)
    ∙ ap (λ (x : ℕ). x % 2 ^ (8 * m)) (wrapped signed v n from)
    ∙ low-bits_of (meant_of signed v n) m to

pub meant_after : (signed : Bool) (v n sign shifted : ℕ) → IsWholeLength n
    → sign ≡ sign_of signed n → shifted ≡ (v + sign) % 2 ^ 64 % 2 ^ (8 * n)
    → pos shifted -ℤ pos sign ≡ meant_of signed v n
meant_after signed v n sign shifted length e f =
    ap (λ (s : ℕ). pos shifted -ℤ pos s) e
    ∙ ap (λ (x : ℕ). pos x -ℤ pos (sign_of signed n)) (shifted_by signed v n sign shifted e f)
    ∙ meant signed v n length
