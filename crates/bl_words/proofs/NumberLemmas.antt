-- The number that a word spells, by one that is capped.
use Rattle.std.proofs.Common.{◌≡◌, ℕ, ◌≤◌, Bool, true, false, List, length, Some, refl, arith}
use Rattle.std.specs.Prelude.{nat_le, ◌&&◌}
use Rattle.std.specs.List.{list_all}
use Rattle.std.specs.Char.{is_ascii_digit}
use Rattle.std.proofs.lemmas.Bool.{le-leb}
use Rattle.bl_format.specs.Members.{number_in}
use Rattle.bl_commands.specs.Commands.{decimal_word}
use Rattle.bl_words.specs.Numbers.{capped_number}

all_three : (x y z : Bool) → (x && y) ≡ true → z ≡ true → (x && y && z) ≡ true
all_three true true z e e' = e'
all_three true false z e e' = cc
all_three false y z e e' = cc

pub number_found : (greatest : ℕ) (word : List ℕ) → capped_number greatest word ≤ greatest
    → (nat_le 1 (length word) && list_all is_ascii_digit word) ≡ true
    → Some (capped_number greatest word) ≡ decimal_word greatest word
unfolding decimal_word
number_found greatest word le digits =
    let within : number_in word ≤ greatest = omega (arith, le) in
    let same : capped_number greatest word ≡ number_in word = omega (arith, within) in
    let passes = all_three (nat_le 1 (length word)) (list_all is_ascii_digit word) (nat_le (number_in word) greatest) digits (le-leb (number_in word) greatest within) in
    rw (same, passes) refl
