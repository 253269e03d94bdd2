-- The key of a member's name is what the name begins with.
use Rattle.std.proofs.Common.{◌≡◌, ℕ, zero, suc, ◌+◌, ◌≤◌, Bool, true, false, List, [], ◌∷◌, length, take, drop, Option, Some, None, refl, ap, arith}
use Rattle.std.specs.Prelude.{◌==◌, ◌&&◌, codes, nat_le, nat_lt, slice_index, option_map, unwrap_or, if◌then◌else◌}
use Rattle.std.specs.List.{prefix_len}
use Rattle.std.specs.Str.{byte, bytes_eq}
use Rattle.std.proofs.lemmas.List.{length-take}
use Rattle.std.proofs.Math.Seq.{take-length}
use Rattle.bl_format.specs.Limits.{most_elements}
use Rattle.bl_format.specs.Members.{MemberName, member_name, other_name, within_count, plain_name, plain_parts, function_name, function_parts, extents, is_word_byte}
use Rattle.bl_layout.specs.MemberNames.{name_parts}

-- a name begins with a key
abbrev BeginsWith : List ℕ → List ℕ → Type 0
BeginsWith name key = take (length key) name ≡ key

-- what a name says has such a key, where it is what some form gives
abbrev SaysKey : List ℕ → Option MemberName → Type 0
SaysKey name o = BeginsWith name (unwrap_or (within_count o) (other_name name)).key

take_taken : (n : ℕ) (xs : List ℕ) → BeginsWith xs (take n xs)
take_taken zero xs = refl
take_taken (suc n) [] = refl
take_taken (suc n) (x ∷ xs) = ap (λ (ys : List ℕ). x ∷ ys) (take_taken n xs)

counted_key : (name : List ℕ) (m : MemberName) → BeginsWith name m.key → SaysKey name (Some m)
counted_key name m is = go (nat_le m.count most_elements)
  where
    go : (b : Bool) → BeginsWith name (unwrap_or (if b then Some m else None) (other_name name)).key
    go true = is
    go false = refl

plain_key : (name : List ℕ) → SaysKey name (plain_name name)
plain_key name = go (n == 0) (extents (length (drop (stars + n) name)) (drop (stars + n) name))
  where
    stars : ℕ
    stars = prefix_len (λ b. b == byte "*") name

    n : ℕ
    n = prefix_len is_word_byte (drop stars name)

    go : (b : Bool) (o : Option (List ℕ)) → SaysKey name (if b then None else option_map (plain_parts name stars n) o)
    go true o = refl
    go false None = refl
    go false (Some ns) = counted_key name (plain_parts name stars n ns) (take_taken (stars + n) name)

function_key : (name : List ℕ) → SaysKey name (function_name name)
function_key name = go (bytes_eq (take 2 name) (codes "(*") && nat_lt 0 n && slice_index name (n + 2) == byte ")")
  where
    n : ℕ
    n = prefix_len is_word_byte (drop 2 name)

    go : (b : Bool) → SaysKey name (if b then Some (function_parts name n) else None)
    go true = counted_key name (function_parts name n) (take-length name)
    go false = refl

-- the key of what a name says is what the name begins with
pub key_begins : (name : List ℕ) → take (length (name_parts name).key) name ≡ (name_parts name).key
unfolding member_name
key_begins name = go (slice_index name 0 == byte "(") (function_name name) (plain_name name) (function_key name) (plain_key name)
  where
    go : (b : Bool) (f p : Option MemberName) → SaysKey name f → SaysKey name p → SaysKey name (if b then f else p)
    go true f p of_f of_p = of_f
    go false f p of_f of_p = of_p

-- so it is no longer than the name
pub key_inside : (name : List ℕ) → length (name_parts name).key ≤ length name
key_inside name = omega (arith, ap length (key_begins name), length-take (length (name_parts name).key) name)
