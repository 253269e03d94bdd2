-- An index of a path, as it is read from left to right. This project's own.
use Rattle.std.specs.Prelude.{ℕ, ◌+◌, Bool, ◌&&◌, ◌==◌, nat_le, List, length, slice_index}
use Rattle.std.specs.List.{prefix_len}
use Rattle.std.specs.Char.{is_ascii_digit}
use Rattle.std.specs.Str.{byte}
use Rattle.bl_format.specs.Members.{most_digits}

-- a byte opens the brackets round the n digits with which some text begins
abbrev pub opens_number : ℕ → List ℕ → ℕ → Bool
opens_number first text n = first == byte "[" && nat_le 1 n && nat_le n most_digits && slice_index text n == byte "]"

-- a byte and the text behind it are one number in brackets
abbrev pub is_bracket : ℕ → List ℕ → Bool
is_bracket first text =
    let n = prefix_len is_ascii_digit text in
    opens_number first text n && nat_le (length text) (n + 1)
