-- A value that is carried over to a leaf fits it: so does zero, and so does what is read of a source's leaf. It needs
-- that each pointer's target fits, and that null's address names null.
use Rattle.std.proofs.Common.{◌≡◌, ℕ, ◌+◌, ◌-◌, ◌*◌, ◌%◌, ◌^◌, ◌<◌, Bool, true, false, cond, All, List, [], ◌∷◌, length, drop, Option, Some, None, refl, sym, subst, ◌∙◌, arith, eqb-true}
use Rattle.std.specs.Prelude.{◌&&◌, ◌==◌, nat_lt, nat_le, min, pos, negsuc}
use Rattle.std.specs.List.{find}
use Rattle.std.proofs.Math.Nat.{mod-lt, one-le-pow}
use Rattle.std.proofs.lemmas.Bool.{ltb-true, leb-true, leb-false}
use Rattle.std.proofs.lemmas.Nat.{pow_pos}
use Rattle.std.proofs.lemmas.List.{length-replicate}
use Rattle.std.proofs.lemmas.List.Elements.{All-head, All-tail, All-take, All-drop}
use Rattle.bl_num.specs.declared.number.Order.{Order}
use Rattle.bl_num.specs.declared.number.Width.{Width}
use Rattle.bl_num.specs.declared.number.Whole.{Whole}
use Rattle.bl_num.specs.Numbers.{pointer_bytes, number_of, number_meant, low_bits_meant, bits_of}
use Rattle.bl_num.proofs.BytesOf.{number_of-lt}
use Rattle.bl_format.specs.declared.layout.Kind.{Kind}
use Rattle.bl_format.specs.declared.layout.Kind.TheVariants as kinds
use Rattle.bl_format.specs.Layout.{NamedLeaf}
use Rattle.bl_format.specs.Graph.{Target, Value, Naming, leaf_bytes, leaf_value, value_by}
use Rattle.bl_format.proofs.LeafKinds.{FitsKind}
use Rattle.bl_selection.specs.Fate.{kept_count, is_char, same_type, source_leaf, zero_of_kind, zero_of, converted_value, value_from, carried_value, ways_meet}
use Rattle.bl_selection.specs.Fits.{IsInRange, PointerFits, ValueFits}

-- ---- whole numbers

-- low bits of a type with a sign mean a number in its range
low_bits_in_range : (signed : Bool) (bytes low : ℕ) → low < 2 ^ (8 * bytes)
    → IsInRange (record { bytes = bytes; signed = signed }) (low_bits_meant signed (2 ^ (8 * bytes)) low)
low_bits_in_range false bytes low lt = lt
low_bits_in_range true bytes low lt = by_half (nat_le (2 ^ (8 * bytes)) (2 * low)) refl
  where
    by_half : (b : Bool) → nat_le (2 ^ (8 * bytes)) (2 * low) ≡ b
        → IsInRange (record { bytes = bytes; signed = true }) (cond b (negsuc (2 ^ (8 * bytes) - low - 1)) (pos low))
    by_half true is = (refl, omega (arith, lt, leb-true (2 ^ (8 * bytes)) (2 * low) is))
    by_half false is = leb-false (2 ^ (8 * bytes)) (2 * low) is

-- any number, read as a whole number of a type, is in its range
pub number_meant-in_range : (whole : Whole) (v : ℕ) → IsInRange whole (number_meant whole v)
unfolding number_meant
number_meant-in_range whole v =
    low_bits_in_range whole.signed whole.bytes (v % 2 ^ (8 * whole.bytes)) (mod-lt v (pow_pos (8 * whole.bytes)))

-- ---- zero

pub power_above_zero : (n : ℕ) → 0 < 256 ^ n
power_above_zero n = let h = one-le-pow n 256 (omega arith) in omega arith

-- zero fits, where address 0 names null
pub zero-fits : (names : Naming Target) (kind : Kind) (size : ℕ) → names 0 ≡ None → ValueFits names kind size (zero_of_kind None kind size)
zero-fits names (kinds.Whole whole) size null = nothing whole.signed
  where
    nothing : (signed : Bool) → cond signed (2 * 0) 0 < 2 ^ (8 * whole.bytes)
    nothing true = pow_pos (8 * whole.bytes)
    nothing false = pow_pos (8 * whole.bytes)
zero-fits names (kinds.Bits n) size null = power_above_zero n
zero-fits names (kinds.Pointer depth t) size null = (power_above_zero size, null)
zero-fits names kinds.Opaque size null = length-replicate size 0

-- ---- what is read

-- the bytes of some leaf elements are there, as many as the leaf says
pub record IsSource (w : Width) (bytes : List ℕ) (x : NamedLeaf) : Type 0 where
  pub kind : FitsKind w x.kind x.size
  pub whole : (k : ℕ) → k < x.count → length (leaf_bytes x bytes k) ≡ x.size

-- where pointers point to fits the output
abbrev pub TargetsFit : Naming Target → Width → Naming Target → Type 0
TargetsFit names w from = (address : ℕ) → PointerFits names (pointer_bytes w) (from address)

-- the second of two tests that both pass
pub both_true : (a b : Bool) → (a && b) ≡ true → b ≡ true
both_true true b e = e
both_true false b e = absurd (cc)

-- an element that is kept is one of the source's
pub kept_below : (x y : NamedLeaf) (k : ℕ) → k < kept_count x y → k < x.count
kept_below x y k = go (is_char x && is_char y && nat_lt y.count x.count) (λ e. ltb-true y.count x.count (both_true (is_char x && is_char y) (nat_lt y.count x.count) e))
  where
    go : (b : Bool) → (b ≡ true → y.count < x.count) → k < cond b (y.count - 1) (min x.count y.count) → k < x.count
    go true less lt = omega (arith, lt, less refl)
    go false less lt = omega (arith, lt)

-- what holds of each element holds of the one that is found
pub found-holds : {X : Type 0} (P : X → Type 0) (test : X → Bool) (xs : List X) (x : X) → All P xs → find test xs ≡ Some x → P x
found-holds P test [] x all e = absurd (cc)
found-holds {X} P test (y ∷ xs) x all e = go (test y) e (found-holds P test xs x (All-tail P y xs all))
  where
    go : (b : Bool) → cond b (Some y) (find test xs) ≡ Some x → (find test xs ≡ Some x → P x) → P x
    go true e later = let same : y ≡ x = cc in subst P same (All-head P y xs all)
    go false e later = later e

module _ (names from : Naming Target) (order : Order) (v w : Width) (null : names 0 ≡ None) (targets : TargetsFit names w from) where
  -- what is read of a source's leaf, as a target's leaf has it, fits that
  converted-fits : (alike : Bool) (kind : Kind) (size : ℕ) (other_kind : Kind) (other_size : ℕ) (bytes : List ℕ)
      → (alike ≡ true → size ≡ other_size) → FitsKind v kind size → FitsKind w other_kind other_size
      → All (λ b. b < 256) bytes → length bytes ≡ size
      → ValueFits names other_kind other_size (converted_value alike (zero_of_kind None other_kind other_size) kind other_kind (value_by kind from order bytes))
  converted-fits alike (kinds.Pointer a s) size (kinds.Pointer b t) other_size bytes same fits others all long =
      rw others (targets (number_of order (length bytes) bytes))
  converted-fits alike (kinds.Whole a) size (kinds.Whole b) other_size bytes same fits others all long =
      number_meant-in_range b (bits_of b.bytes (number_meant a (number_of order a.bytes bytes)))
  converted-fits true (kinds.Bits a) size (kinds.Bits b) other_size bytes same fits others all long =
      let equal : a ≡ b = sym fits.0 ∙ same refl ∙ others.0 in
      rw (← equal) (number_of-lt order a bytes all)
  converted-fits false (kinds.Bits a) size (kinds.Bits b) other_size bytes same fits others all long =
      zero-fits names (kinds.Bits b) other_size null
  converted-fits true kinds.Opaque size kinds.Opaque other_size bytes same fits others all long = long ∙ same refl
  converted-fits false kinds.Opaque size kinds.Opaque other_size bytes same fits others all long =
      zero-fits names kinds.Opaque other_size null
  converted-fits alike _ size other_kind other_size bytes same fits others all long = zero-fits names other_kind other_size null

  value_from-fits : (bytes : List ℕ) (y : NamedLeaf) (k : ℕ) (o : Option NamedLeaf)
      → All (λ b. b < 256) bytes → ((x : NamedLeaf) → o ≡ Some x → IsSource v bytes x) → FitsKind w y.kind y.size
      → ValueFits names y.kind y.size (value_from None from order bytes o y k)
  unfolding leaf_value
  value_from-fits bytes y k None all source fits = zero-fits names y.kind y.size null
  value_from-fits bytes y k (Some x) all source fits = by_count (nat_lt k (kept_count x y)) refl
    where
      read : Value Target
      read = converted_value (same_type x y && x.size == y.size) (zero_of None y) x.kind y.kind (value_by x.kind from order (leaf_bytes x bytes k))

      by_count : (b : Bool) → nat_lt k (kept_count x y) ≡ b → ValueFits names y.kind y.size (cond b read (zero_of None y))
      by_count false is = zero-fits names y.kind y.size null
      by_count true is =
          let own : IsSource v bytes x = source x refl in
          converted-fits (same_type x y && x.size == y.size) x.kind x.size y.kind y.size (leaf_bytes x bytes k)
          (λ alike. eqb-true x.size y.size (both_true (same_type x y) (x.size == y.size) alike)) own.kind fits
          (All-take (λ b. b < 256) x.size (drop (x.offset + k * x.size) bytes) (All-drop (λ b. b < 256) (x.offset + k * x.size) bytes all))
          (own.whole k (kept_below x y k (ltb-true k (kept_count x y) is)))

  -- a value that is carried over from some leaves fits the leaf to which it is carried
  pub carried_value-fits : (xs : List NamedLeaf) (bytes : List ℕ) (y : NamedLeaf) (k : ℕ)
      → All (λ b. b < 256) bytes → All (IsSource v bytes) xs → FitsKind w y.kind y.size
      → ValueFits names y.kind y.size (carried_value None from order xs bytes y k)
  unfolding carried_value
  carried_value-fits xs bytes y k all sources fits =
      value_from-fits bytes y k (source_leaf xs y) all (λ x is. found-holds (IsSource v bytes) (λ (x : NamedLeaf). ways_meet x.way y.way) xs x sources is) fits
