-- What bytes spell, what low bits mean, and what a cast keeps.
use Rattle.std.proofs.Common.{◌≡◌, ℕ, [], ◌∷◌, ◌-◌, ◌^◌, pos, negsuc, Bool, true, false, refl}
use Rattle.std.specs.Prelude.{map}
use Rattle.bl_num.specs.declared.number.Order.TheVariants.{Little, Big}
use Rattle.bl_num.specs.declared.number.Whole.{Whole}
use Rattle.bl_num.specs.Numbers.{number_of, bytes_of, number_meant, bits_of, cast_of}

abbrev whole : ℕ → Bool → Whole
whole bytes signed = record { bytes = bytes; signed = signed }

spelled_lowest_first : number_of Little 4 (0x70 ∷ 0x11 ∷ 1 ∷ 0 ∷ 9 ∷ []) ≡ 70000
spelled_lowest_first = refl

spelled_highest_first : number_of Big 2 (0x70 ∷ 0x11 ∷ []) ≡ 28689
spelled_highest_first = refl

low_bytes_written : map (λ n. bytes_of Big n 70000) (1 ∷ 2 ∷ 4 ∷ [])
    ≡ (0x70 ∷ []) ∷ (0x11 ∷ 0x70 ∷ []) ∷ (0 ∷ 1 ∷ 0x11 ∷ 0x70 ∷ []) ∷ []
low_bytes_written = refl

-- the ends of a range with a sign, and bits above the low ones, which mean nothing
meant_with_a_sign : map (number_meant (whole 1 true)) (0 ∷ 127 ∷ 128 ∷ 255 ∷ 256 ∷ 384 ∷ [])
    ≡ pos 0 ∷ pos 127 ∷ negsuc 127 ∷ negsuc 0 ∷ pos 0 ∷ negsuc 127 ∷ []
unfolding number_meant
meant_with_a_sign = refl

meant_in_eight_bytes : number_meant (whole 8 true) (2 ^ 63) ≡ negsuc (2 ^ 63 - 1)
unfolding number_meant
meant_in_eight_bytes = refl

meant_without_a_sign : map (number_meant (whole 2 false)) (65535 ∷ 65536 ∷ []) ≡ pos 65535 ∷ pos 0 ∷ []
unfolding number_meant
meant_without_a_sign = refl

-- a negative number keeps its sign in a longer type, and the same bits without a sign are no negative
-- number
cast_keeps_the_sign : cast_of 0xfffe (whole 2 true) (whole 8 false) ≡ 2 ^ 64 - 2
unfolding cast_of number_meant bits_of
cast_keeps_the_sign = refl

cast_without_a_sign : cast_of 0xfffe (whole 2 false) (whole 8 true) ≡ 0xfffe
unfolding cast_of number_meant bits_of
cast_without_a_sign = refl

cast_to_a_shorter_type : cast_of 0x12345678 (whole 4 true) (whole 1 true) ≡ 0x78
unfolding cast_of number_meant bits_of
cast_to_a_shorter_type = refl
