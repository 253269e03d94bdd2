-- A number that was written as bytes is read again, in either order.
use Rattle.std.proofs.Common.{◌≡◌, ℕ, zero, suc, ◌^◌, ◌<◌, List, [], ◌∷◌, ◌++◌, length, arith}
use Rattle.std.specs.Prelude.{All, slice_index}
use Rattle.std.proofs.lemmas.List.Elements.{All-head, All-tail}
use Rattle.byteorder.specs.Numbers.{big_number-reads_back, little_number-reads_back, length-bytes_low_first, length-bytes_high_first, big_from-lt, little_from-lt}
use Rattle.bl_num.specs.declared.number.Order.{Order}
use Rattle.bl_num.specs.declared.number.Order.TheVariants.{Little, Big}
use Rattle.bl_num.specs.Numbers.{number_of, bytes_of}

-- n bytes are written
pub length-bytes_of : (order : Order) (n v : ℕ) → length (bytes_of order n v) ≡ n
length-bytes_of Little n v = length-bytes_low_first 0 n v
length-bytes_of Big n v = length-bytes_high_first n v

-- a number that fits its bytes is read again, whatever follows them
pub number_of-bytes_of : (order : Order) (n v : ℕ) (rest : List ℕ)
    → v < 256 ^ n → number_of order n (bytes_of order n v ++ rest) ≡ v
number_of-bytes_of Little n v rest lt = little_number-reads_back n v rest lt
number_of-bytes_of Big n v rest lt = big_number-reads_back n v rest lt

-- each element of a list of bytes is below 256, and so is the 0 beyond its end
slice_index-lt : (xs : List ℕ) → All (λ b. b < 256) xs → (k : ℕ) → slice_index xs k < 256
slice_index-lt [] all k = omega arith
slice_index-lt (x ∷ xs) all zero = All-head (λ b. b < 256) x xs all
slice_index-lt (x ∷ xs) all (suc k) = slice_index-lt xs (All-tail (λ b. b < 256) x xs all) k

-- n bytes spell a number below 256 ^ n
pub number_of-lt : (order : Order) (n : ℕ) (xs : List ℕ)
    → All (λ b. b < 256) xs → number_of order n xs < 256 ^ n
number_of-lt Little n xs all = little_from-lt 0 n xs (slice_index-lt xs all)
number_of-lt Big n xs all = big_from-lt 0 n xs (slice_index-lt xs all)
