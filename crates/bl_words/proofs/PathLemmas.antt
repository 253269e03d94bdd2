-- The parts of a query path: texts between dashes, and what stands behind an identifier.
use Rattle.std.proofs.Common.{◌≡◌, ℕ, zero, suc, ◌+◌, ◌<◌, Bool, true, false, List, [], ◌∷◌, length, get_or, take, drop, Option, Some, None, refl, cond, sym, ◌∙◌, arith}
use Rattle.std.specs.Prelude.{nat_le, not, ◌==◌, ◌&&◌, if◌then◌else◌, option_map}
use Rattle.std.specs.List.{list_all, prefix_len, slice_split, onto_first}
use Rattle.std.specs.Char.{is_ascii_digit}
use Rattle.std.proofs.lemmas.List.{length-drop, nil_from_length}
use Rattle.std.proofs.lemmas.List.Splits.{slice_split_none}
use Rattle.std.proofs.lemmas.List.Sums.{prefix_len_passes}
use Rattle.bl_format.specs.Members.{extents, number_in}
use Rattle.bl_commands.specs.Commands.{is_index, is_path, is_behind_dash, is_query_path}
use Rattle.bl_words.specs.Paths.{opens_number, is_bracket}

abbrev one_at_most : Option (List ℕ) → Bool
one_at_most None = false
one_at_most (Some ns) = nat_le (length ns) 1

by_extents : (rest : List ℕ) (o : Option (List ℕ)) → extents (length rest) rest ≡ o → is_index rest ≡ one_at_most o
by_extents rest None e = rw e refl
by_extents rest (Some ns) e = rw e refl

-- two numbers are too many
two_numbers : (x : Bool) (m n : ℕ) (o : Option (List ℕ))
    → one_at_most (option_map (λ ns. m ∷ ns) (if x then option_map (λ ns. n ∷ ns) o else None)) ≡ false
two_numbers false m n o = refl
two_numbers true m n None = refl
two_numbers true m n (Some ns) = grind arith

none_less : (n : ℕ) → false ≡ nat_le (suc n) 0
none_less n = grind arith

-- a number in brackets is the only one where nothing stands behind it
only_number : (m t : ℕ) (bs : List ℕ) → one_at_most (option_map (λ ns. m ∷ ns) (extents t bs)) ≡ nat_le (length bs) 0
unfolding extents
only_number m zero [] = refl
only_number m (suc t) [] = refl
only_number m zero (b ∷ bs) = none_less (length bs)
only_number m (suc t) (b ∷ bs) =
    let n = prefix_len is_ascii_digit bs in
    two_numbers (opens_number b bs n) m (number_in (take n bs)) (extents t (drop (n + 1) bs)) ∙ none_less (length bs)

by_test : (x y : Bool) (m : ℕ) (o : Option (List ℕ)) → one_at_most (option_map (λ ns. m ∷ ns) o) ≡ y
    → one_at_most (if x then option_map (λ ns. m ∷ ns) o else None) ≡ (x && y)
by_test false y m o e = refl
by_test true y m o e = e

nothing_behind : (n : ℕ) (bs : List ℕ) → nat_le (length (drop (n + 1) bs)) 0 ≡ nat_le (length bs) (n + 1)
nothing_behind n bs = rw (length-drop (n + 1) bs) (grind arith)

pub index_is_bracket : (b : ℕ) (bs : List ℕ) → is_index (b ∷ bs) ≡ is_bracket b bs
unfolding extents
index_is_bracket b bs =
    let n = prefix_len is_ascii_digit bs in
    let o = extents (length bs) (drop (n + 1) bs) in
    by_extents (b ∷ bs) _ refl
    ∙ by_test (opens_number b bs n) (nat_le (length bs) (n + 1)) (number_in (take n bs)) o
    (only_number (number_in (take n bs)) (length bs) (drop (n + 1) bs) ∙ nothing_behind n bs)

pub nothing_is_index : (text : List ℕ) → length text ≡ 0 → is_index text ≡ true
unfolding extents
nothing_is_index text e = rw (nil_from_length text e) refl

-- ---- between dashes

-- how many bytes stand before the first that passes
abbrev before : (ℕ → Bool) → List ℕ → ℕ
before p text = prefix_len (λ b. not (p b)) text

not_true : (x : Bool) → not x ≡ true → x ≡ false
not_true true e = cc
not_true false e = refl

one_part : (p : ℕ → Bool) (text : List ℕ) → before p text ≡ length text → slice_split p text ≡ text ∷ []
one_part p text e =
    slice_split_none p text (λ k d lt. not_true (p (get_or text k d)) (prefix_len_passes (λ b. not (p b)) text k d (omega (arith, e))))

by_byte : (p : ℕ → Bool) (x : Bool) (b n : ℕ) (bs : List ℕ)
    → (x ≡ false → slice_split p bs ≡ take n bs ∷ slice_split p (drop (n + 1) bs))
    → cond x ([] ∷ slice_split p bs) (onto_first b (slice_split p bs))
    ≡ take (cond (not x) (1 + n) 0) (b ∷ bs) ∷ slice_split p (drop (cond (not x) (1 + n) 0 + 1) (b ∷ bs))
by_byte p true b n bs behind = refl
by_byte p false b n bs behind =
    let e : 1 + n ≡ suc n = omega arith in
    let e' : suc n + 1 ≡ suc (n + 1) = omega arith in
    rw (behind refl, e, e') refl

first_part : (p : ℕ → Bool) (text : List ℕ) → before p text < length text
    → slice_split p text ≡ take (before p text) text ∷ slice_split p (drop (before p text + 1) text)
first_part p [] lt = absurd (omega (arith, lt))
first_part p (b ∷ bs) lt = by_byte p (p b) b (before p bs) bs (λ e. first_part p bs (shorter (p b) e lt))
  where
    shorter : (x : Bool) → x ≡ false → cond (not x) (1 + before p bs) 0 < suc (length bs) → before p bs < length bs
    shorter true e lt = cc
    shorter false e lt = omega (arith, lt)

-- a query path without a dash is a path
pub query_of_path : (text : List ℕ) → prefix_len (λ b. not (b == 45)) text ≡ length text → is_query_path text ≡ is_path text
unfolding is_query_path
query_of_path text e = rw (one_part (λ b. b == 45) text e) (true_too (is_path text))
  where
    true_too : (x : Bool) → (x && true) ≡ x
    true_too true = refl
    true_too false = refl

-- any other is a path, and paths behind dashes
query_of_paths : (text : List ℕ) (n : ℕ) → n ≡ prefix_len (λ b. not (b == 45)) text → n < length text
    → is_query_path text ≡ (is_path (take n text) && list_all is_behind_dash (slice_split (λ b. b == 45) (drop (n + 1) text)))
unfolding is_query_path
query_of_paths text n e lt = rw (e, first_part (λ b. b == 45) text (omega (arith, e, lt))) refl

pub query_goes_on : (text : List ℕ) (n : ℕ) (x : Bool) → n ≡ prefix_len (λ b. not (b == 45)) text → n < length text
    → is_path (take n text) ≡ true → x ≡ list_all is_behind_dash (slice_split (λ b. b == 45) (drop (n + 1) text)) → x ≡ is_query_path text
query_goes_on text n x e lt first behind = behind ∙ sym (rw first at (query_of_paths text n e lt))

pub query_ends : (text : List ℕ) (n : ℕ) → n ≡ prefix_len (λ b. not (b == 45)) text → n < length text
    → is_path (take n text) ≡ false → is_query_path text ≡ false
query_ends text n e lt first = rw first at (query_of_paths text n e lt)
