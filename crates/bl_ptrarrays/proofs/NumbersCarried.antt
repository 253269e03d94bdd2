-- Numbers are carried to the other order as their bytes turned round, and to their own as they are.
use Rattle.std.proofs.Common.{Fits, w8, ◌≡◌, ℕ, true, false, ◌⊎◌, inl, inr, ◌*◌, ◌/◌, ◌≤◌, ◌<◌, All, List, [], ◌++◌, length, take, drop, get_or, sym, ap, ◌∙◌, arith, append-nil, drop_of_length-le}
use Rattle.std.proofs.Math.Seq.{take-add}
use Rattle.std.proofs.Math.Nat.{div-zero}
use Rattle.std.proofs.lemmas.List.{take_all, take-take, take-append-drop, drop-take, get_or_default, length-drop, length-take-le}
use Rattle.std.proofs.lemmas.List.Elements.{All-take, All-drop}
use Rattle.bl_num.specs.declared.number.Order.{Order}
use Rattle.bl_num.specs.declared.number.Order.TheVariants.{Little, Big}
use Rattle.bl_num.specs.Numbers.{number_of, bytes_of}
use Rattle.bl_num.proofs.BytesOf.{number_of-lt, number_of-bytes_of}
use Rattle.bl_num.proofs.BytesBack.{bytes_of-number_of}
use Rattle.bl_ptrarrays.specs.Pieces.{piece, turned, pieces_by, turned_pieces}
use Rattle.bl_ptrarrays.specs.Carried.{is_other, number_carried, numbers_carried, pair_carried}
use Rattle.bl_ptrarrays.proofs.Turned.{number_carried-turned, number_carried-same}
use Rattle.bl_ptrarrays.proofs.PiecesPut.{piece_inside, length-piece, pieces_by-same, pieces_by-nothing}

-- bytes that fit eight bits are below 256
pub below_256 : (p : List ℕ) → ((i : ℕ) → Fits w8 (get_or p i 0)) → All (λ b. b < 256) p
below_256 p fits = λ k d lt. let same = get_or_default p k d 0 lt in let byte = fits k in omega (arith, same, byte)

module _ (bytes : List ℕ) (all : All (λ b. b < 256) bytes) where
  -- ---- numbers of n bytes

  piece_below : (n k : ℕ) → All (λ b. b < 256) (piece n bytes k)
  piece_below n k = All-take (λ b. b < 256) n (drop (k * n) bytes) (All-drop (λ b. b < 256) (k * n) bytes all)

  -- to the other order
  pub numbers-turned : (n : ℕ) (from to : Order) → is_other from to ≡ true → turned_pieces n bytes ≡ numbers_carried n from to bytes
  numbers-turned n from to differ =
      ap (λ (ys : List ℕ). ys ++ drop (length bytes / n * n) bytes)
      (pieces_by-same turned (number_carried n from to) n (length bytes / n) bytes (λ i lt.
      let long : length (piece n bytes i) ≡ n = length-piece n i bytes (piece_inside n i (length bytes) lt) in
      sym (number_carried-turned n from to (piece n bytes i) differ (piece_below n i) (omega (arith, long))
      ∙ ap turned (take_all n (piece n bytes i) (omega (arith, long))))))

  -- to their own
  pub numbers-same : (n : ℕ) (order : Order) → bytes ≡ numbers_carried n order order bytes
  numbers-same n order =
      let end : ℕ = length bytes / n * n in
      sym (take-append-drop end bytes)
      ∙ ap (λ (ys : List ℕ). ys ++ drop end bytes)
      (sym (pieces_by-same (number_carried n order order) (λ p. p) n (length bytes / n) bytes (λ i lt.
      let long : length (piece n bytes i) ≡ n = length-piece n i bytes (piece_inside n i (length bytes) lt) in
      number_carried-same n order (piece n bytes i) (piece_below n i) (omega (arith, long))
      ∙ take_all n (piece n bytes i) (omega (arith, long)))
      ∙ pieces_by-nothing n (length bytes / n) bytes))

  -- numbers of no bytes are none
  pub numbers-none : (from to : Order) → bytes ≡ numbers_carried 0 from to bytes
  unfolding pieces_by
  numbers-none from to =
      ap (λ (k : ℕ). pieces_by (number_carried 0 from to) 0 k bytes ++ drop (k * 0) bytes) (sym (div-zero (length bytes)))

  -- ---- two numbers

  number_of-take : (order : Order) (n : ℕ) (xs : List ℕ)
      → All (λ b. b < 256) xs → n ≤ length xs → number_of order n (take n xs) ≡ number_of order n xs
  number_of-take order n xs small len =
      let v : ℕ = number_of order n xs in
      ap (number_of order n) (sym (append-nil (take n xs)) ∙ ap (λ (ys : List ℕ). ys ++ []) (sym (bytes_of-number_of order n xs small len)))
      ∙ number_of-bytes_of order n v [] (number_of-lt order n xs small)

  -- a pair is two numbers of four bytes each
  pub numbers-pair : (from to : Order) → 8 ≤ length bytes
      → numbers_carried 4 from to (take 8 bytes) ++ drop 8 bytes ≡ pair_carried from to bytes
  unfolding pieces_by
  numbers-pair from to len =
      let f : List ℕ → List ℕ = number_carried 4 from to in
      let xs : List ℕ = take 8 bytes in
      let long : length xs ≡ 8 = length-take-le 8 bytes len in
      let first : f (piece 4 xs 0) ≡ f bytes =
      ap f (take-take 4 8 bytes (omega arith)) ∙ ap (bytes_of to 4) (number_of-take from 4 bytes all (omega (arith, len))) in
      let second : f (piece 4 xs 1) ≡ f (drop 4 bytes) =
      ap (λ (ys : List ℕ). f (take 4 ys)) (drop-take 4 4 bytes) ∙ ap f (take-take 4 4 (drop 4 bytes) (omega arith))
      ∙ ap (bytes_of to 4) (number_of-take from 4 (drop 4 bytes) (All-drop (λ b. b < 256) 4 bytes all) (omega (arith, len, length-drop 4 bytes))) in
      let none : drop 8 xs ≡ [] = drop_of_length-le xs {i = 8} (omega (arith, long)) in
      ap (λ (ys : List ℕ). ys ++ drop 8 bytes)
      (ap (λ (m : ℕ). pieces_by f 4 (m / 4) xs ++ drop (m / 4 * 4) xs) long
      ∙ ap (λ (ys : List ℕ). f (piece 4 xs 0) ++ (f (piece 4 xs 1) ++ []) ++ ys) none
      ∙ append-nil (f (piece 4 xs 0) ++ (f (piece 4 xs 1) ++ []))
      ∙ ap (λ (ys : List ℕ). f (piece 4 xs 0) ++ ys) (append-nil (f (piece 4 xs 1)))
      ∙ ap (λ (ys : List ℕ). ys ++ f (piece 4 xs 1)) first
      ∙ ap (λ (ys : List ℕ). f bytes ++ ys) second)

  -- which stays in its own order
  pub pair-same : (order : Order) → 8 ≤ length bytes → pair_carried order order bytes ≡ bytes
  pair-same order len =
      let f : List ℕ → List ℕ = number_carried 4 order order in
      ap (λ (ys : List ℕ). ys ++ f (drop 4 bytes) ++ drop 8 bytes) (number_carried-same 4 order bytes all (omega (arith, len)))
      ∙ ap (λ (ys : List ℕ). take 4 bytes ++ ys ++ drop 8 bytes)
      (number_carried-same 4 order (drop 4 bytes) (All-drop (λ b. b < 256) 4 bytes all) (omega (arith, len, length-drop 4 bytes)))
      ∙ ap (λ (ys : List ℕ). ys ++ drop 8 bytes) (sym (take-add 4 4 bytes))
      ∙ take-append-drop 8 bytes

-- ---- what is left as it is

-- numbers in the same order, or of no bytes
pub numbers-left : (n : ℕ) (from to : Order) (bytes : List ℕ)
    → All (λ b. b < 256) bytes → ((is_other from to ≡ true) × (n ≤ 0)) ⊎ (is_other from to ≡ false)
    → bytes ≡ numbers_carried n from to bytes
numbers-left n from to bytes all (inl none) =
    let zero_bytes : 0 ≡ n = omega (arith, none.1) in
    numbers-none bytes all from to ∙ ap (λ (m : ℕ). numbers_carried m from to bytes) zero_bytes
numbers-left n Little Little bytes all (inr same) = numbers-same bytes all n Little
numbers-left n Little Big bytes all (inr same) = absurd (cc)
numbers-left n Big Little bytes all (inr same) = absurd (cc)
numbers-left n Big Big bytes all (inr same) = numbers-same bytes all n Big
