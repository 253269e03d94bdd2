-- The bytes of a number in one order are those in the other turned round.
use Rattle.std.proofs.Common.{◌≡◌, ℕ, zero, suc, ◌+◌, ◌<◌, ◌≤◌, true, All, List, [], ◌∷◌, ◌++◌, length, take, reverse, refl, sym, ap, ◌∙◌, arith}
use Rattle.std.specs.Int.{byte_at, bytes_high_first, bytes_low_first}
use Rattle.std.proofs.lemmas.List.{reverse-append, reverse-reverse}
use Rattle.bl_num.specs.declared.number.Order.{Order}
use Rattle.bl_num.specs.declared.number.Order.TheVariants.{Little, Big}
use Rattle.bl_num.specs.Numbers.{number_of}
use Rattle.bl_num.proofs.BytesBack.{bytes_of-number_of}
use Rattle.bl_ptrarrays.specs.Pieces.{turned}
use Rattle.bl_ptrarrays.specs.Carried.{is_other, number_carried}

-- the last of some bytes, lowest first
low_first-last : (i k v : ℕ) → bytes_low_first i (suc k) v ≡ bytes_low_first i k v ++ byte_at (i + k) v ∷ []
low_first-last i zero v = let here : i ≡ i + 0 = omega arith in ap (λ (j : ℕ). byte_at j v ∷ []) here
low_first-last i (suc k) v =
    let far : suc i + k ≡ i + suc k = omega arith in
    ap (λ (ys : List ℕ). byte_at i v ∷ ys)
    (low_first-last (suc i) k v ∙ ap (λ (j : ℕ). bytes_low_first (suc i) k v ++ byte_at j v ∷ []) far)

high_first-turned : (n v : ℕ) → bytes_high_first n v ≡ reverse (bytes_low_first 0 n v)
high_first-turned zero v = refl
high_first-turned (suc n) v =
    let here : 0 + n ≡ n = omega arith in
    let low : List ℕ = bytes_low_first 0 n v in
    let last : bytes_low_first 0 (suc n) v ≡ low ++ byte_at n v ∷ [] =
    low_first-last 0 n v ∙ ap (λ (j : ℕ). low ++ byte_at j v ∷ []) here in
    ap (λ (ys : List ℕ). byte_at n v ∷ ys) (high_first-turned n v)
    ∙ sym (ap (λ (ys : List ℕ). reverse ys) last ∙ reverse-append low (byte_at n v ∷ []))

-- a number that is carried to the other order has its bytes turned round
pub number_carried-turned : (n : ℕ) (from to : Order) (p : List ℕ)
    → is_other from to ≡ true → All (λ b. b < 256) p → n ≤ length p → number_carried n from to p ≡ turned (take n p)
number_carried-turned n Little Little p differ all len = absurd (cc)
number_carried-turned n Little Big p differ all len =
    high_first-turned n (number_of Little n p)
    ∙ ap (λ (ys : List ℕ). reverse ys) (bytes_of-number_of Little n p all len)
number_carried-turned n Big Little p differ all len =
    let v : ℕ = number_of Big n p in
    sym (reverse-reverse (bytes_low_first 0 n v))
    ∙ ap (λ (ys : List ℕ). reverse ys) (sym (high_first-turned n v) ∙ bytes_of-number_of Big n p all len)
number_carried-turned n Big Big p differ all len = absurd (cc)

-- and one that stays in its order has its bytes
pub number_carried-same : (n : ℕ) (order : Order) (p : List ℕ)
    → All (λ b. b < 256) p → n ≤ length p → number_carried n order order p ≡ take n p
number_carried-same n order p all len = bytes_of-number_of order n p all len
