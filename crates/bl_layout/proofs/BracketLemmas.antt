-- The count of the brackets of a name, read from left to right: how a running product goes on, and where it ends.
use Rattle.std.proofs.Common.{◌≡◌, ℕ, zero, suc, ◌+◌, ◌*◌, ◌≤◌, ◌<◌, true, false, List, [], ◌∷◌, length, take, drop, Option, Some, None, refl, ap, arith, inl, inr}
use Rattle.std.specs.Prelude.{All, fold, option_map}
use Rattle.std.specs.List.{prefix_len}
use Rattle.std.specs.Char.{is_ascii_digit}
use Rattle.std.proofs.lemmas.Bool.{cases_lt}
use Rattle.std.proofs.lemmas.List.{length-drop, length-take, get_or-take}
use Rattle.std.proofs.lemmas.List.Sums.{prefix_len_passes}
use Rattle.bl_format.specs.Limits.{most_elements}
use Rattle.bl_format.specs.Members.{extents, number_in}
use Rattle.bl_layout.specs.MemberNames.{bounded_count, opens_number}

-- the count of some brackets behind others of a count
abbrev pub count_from : ℕ → List ℕ → Option ℕ
count_from count text = option_map (λ ns. bounded_count (fold (λ a n. a * n) count ns)) (extents (length text) text)

-- more turns than there are bytes change nothing
extents-turns : (t u : ℕ) (bs : List ℕ) → length bs ≤ t → length bs ≤ u → extents t bs ≡ extents u bs
unfolding extents
extents-turns zero zero [] le le' = refl
extents-turns zero (suc u) [] le le' = refl
extents-turns (suc t) zero [] le le' = refl
extents-turns (suc t) (suc u) [] le le' = refl
extents-turns zero u (b ∷ bs) le le' = absurd (omega arith)
extents-turns (suc t) zero (b ∷ bs) le le' = absurd (omega arith)
extents-turns (suc t) (suc u) (b ∷ bs) le le' =
    let n = prefix_len is_ascii_digit bs in
    let same = extents-turns t u (drop (n + 1) bs) (omega (arith, length-drop (n + 1) bs)) (omega (arith, length-drop (n + 1) bs)) in
    rw same refl

-- two counts that are the same up to the limit stay so
bounded_same : (a b n : ℕ) → bounded_count a ≡ bounded_count b → bounded_count (a * n) ≡ bounded_count (b * n)
bounded_same a b zero e = omega arith
bounded_same a b (suc n) e = elim (cases_lt a (most_elements + 1)) [
  | inl lt ↦ (let s : a ≡ b = omega arith in rw s refl)
  | inr le ↦ (let le' : most_elements + 1 ≤ b = omega arith in omega arith)
]

bounded_fold : (a b : ℕ) (ns : List ℕ) → bounded_count a ≡ bounded_count b
    → bounded_count (fold (λ x n. x * n) a ns) ≡ bounded_count (fold (λ x n. x * n) b ns)
bounded_fold a b [] e = e
bounded_fold a b (n ∷ ns) e = bounded_fold (a * n) (b * n) ns (bounded_same a b n e)

bounded_again : (a : ℕ) → bounded_count a ≡ bounded_count (bounded_count a)
bounded_again a = omega arith

counts_same : (a b : ℕ) (o : Option (List ℕ)) → bounded_count a ≡ bounded_count b
    → option_map (λ ns. bounded_count (fold (λ x n. x * n) a ns)) o ≡ option_map (λ ns. bounded_count (fold (λ x n. x * n) b ns)) o
counts_same a b None e = refl
counts_same a b (Some ns) e = ap Some (bounded_fold a b ns e)

with_first : (a n : ℕ) (o : Option (List ℕ))
    → option_map (λ ns. bounded_count (fold (λ x n. x * n) a ns)) (option_map (λ ns. n ∷ ns) o) ≡ option_map (λ ns. bounded_count (fold (λ x n. x * n) (a * n) ns)) o
with_first a n None = refl
with_first a n (Some ns) = refl

-- a number in brackets multiplies the count
pub count_from-number : (a b : ℕ) (bs : List ℕ) → opens_number b bs ≡ true
    → count_from a (b ∷ bs) ≡ count_from (bounded_count (a * number_in (take (prefix_len is_ascii_digit bs) bs))) (drop (prefix_len is_ascii_digit bs + 1) bs)
unfolding extents
count_from-number a b bs e =
    let n = prefix_len is_ascii_digit bs in
    let m = number_in (take n bs) in
    let turns = extents-turns (length bs) (length (drop (n + 1) bs)) (drop (n + 1) bs) (omega (arith, length-drop (n + 1) bs)) (omega arith) in
    rw (e, turns) (rw (with_first a m (extents (length (drop (n + 1) bs)) (drop (n + 1) bs))) (counts_same (a * m) (bounded_count (a * m)) (extents (length (drop (n + 1) bs)) (drop (n + 1) bs)) (bounded_again (a * m))))

-- anything else ends it without a count
pub count_from-other : (a b : ℕ) (bs : List ℕ) → opens_number b bs ≡ false → count_from a (b ∷ bs) ≡ None
unfolding extents
count_from-other a b bs e = rw e refl

-- the digits with which a text begins are digits
pub leading_digits : (bs : List ℕ) → All (λ b. is_ascii_digit b ≡ true) (take (prefix_len is_ascii_digit bs) bs)
leading_digits bs k d lt =
    let inside : k < prefix_len is_ascii_digit bs = omega (arith, length-take (prefix_len is_ascii_digit bs) bs) in
    rw get_or-take (prefix_len_passes is_ascii_digit bs k d inside)
