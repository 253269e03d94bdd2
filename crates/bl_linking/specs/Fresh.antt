-- A name that isn't used yet. That a number behind a `.` makes a name new is Blender's way; how a name is
-- cut and which number it gets are this project's own.
use Rattle.std.specs.Prelude.{ℕ, zero, suc, ◌+◌, ◌-◌, max, Bool, not, ◌&&◌, ◌==◌, nat_le, nat_lt, if◌then◌else◌, List, ◌∷◌, ◌++◌, length, take, map, replicate, unwrap_or, slice_index, decimal}
use Rattle.std.specs.List.{find, suffix_len}
use Rattle.std.specs.Char.{is_ascii_digit}
use Rattle.std.specs.Str.{byte}
use Rattle.bl_format.specs.Words.{numbers_below, is_one_of}

-- a byte within a character of several bytes in UTF-8
abbrev pub goes_on : ℕ → Bool
goes_on b = nat_le 128 b && nat_lt b 192

-- the greatest number of bytes up to m after which none goes on
abbrev pub cut_length : List ℕ → ℕ → ℕ
cut_length name zero = 0
cut_length name (suc m) = if goes_on (slice_index name (suc m)) then cut_length name m else suc m

-- a name cut to m bytes: its longest prefix of at most m bytes that no such byte follows, and at least its
-- first two bytes, which are its code
unfoldable pub cut : List ℕ → ℕ → List ℕ
cut name m = take (max 2 (cut_length name m)) name

-- the name without a last `.` and digits that lie behind the first two bytes
unfoldable pub base_of : List ℕ → List ℕ
base_of name =
    let digits = suffix_len is_ascii_digit name in
    let front = length name - digits - 1 in
    if nat_lt 0 digits && nat_le 2 front && slice_index name front == byte "." then take front name else name

-- the fewest digits of a number behind a `.`
abbrev pub suffix_digits : ℕ
suffix_digits = 3

-- `.` and a number in so many digits at least
unfoldable pub suffix_of : ℕ → List ℕ
suffix_of k = byte "." ∷ (replicate (suffix_digits - length (decimal k)) (byte "0") ++ decimal k)

-- the name with number k: its base, cut so that it fits with the suffix and a zero, and the suffix
unfoldable pub candidate : List ℕ → ℕ → ℕ → List ℕ
candidate name capacity k = cut (base_of name) (capacity - 1 - length (suffix_of k)) ++ suffix_of k

-- the least number from 1 with which the name isn't used; of one number more than there are names, one is
-- free
unfoldable pub least_free : List (List ℕ) → List ℕ → ℕ → ℕ
least_free used name capacity = unwrap_or (find is_free (map suc (numbers_below (length used + 1)))) 0
  where
    is_free : ℕ → Bool
    is_free k = not (is_one_of (candidate name capacity k) used)

-- the fresh name: the name cut to the capacity less a zero where that isn't used, and else the name with
-- the least free number
unfoldable pub fresh_name : List (List ℕ) → List ℕ → ℕ → List ℕ
fresh_name used name capacity =
    let short = cut name (capacity - 1) in
    if not (is_one_of short used) then short else candidate name capacity (least_free used name capacity)
