-- Numbers that stand for the identifiers of names.
use denote.Ref.{Bor}
use Rattle.std.specs.Prelude.{◌≡◌, ◌==◌, ◌<◌, ℕ, Bool, if◌then◌else◌, map, List, [], length, slice_index, Option, Some}
use Rattle.std.specs.BTreeMap.{BTreeMap, get_by}
use Rattle.std.specs.Cmp.Lexicographic.{slice_cmp}
use Rattle.std.specs.Ordering.{nat_cmp}
use Rattle.std.specs.List.{slice_index_or}
use Rattle.std.specs.Str.{bytes_eq}
use Rattle.bl_format.specs.Words.{contains, numbers_below}
use Rattle.bl_format.specs.declared.catalogue.MemberEntry.{MemberEntry}
use Rattle.bl_layout.specs.First.{IsFirst}
use Rattle.bl_layout.specs.MemberNames.{name_parts}

-- the identifier of the name of a number
abbrev pub identifier_of : List (List ℕ) → ℕ → List ℕ
identifier_of names n = (name_parts (slice_index_or names n [])).identifier

-- by the number of a name, a number that it shares with the names of the same identifier alone
pub record AreIdentifierNumbers (names : List (List ℕ)) (numbers : List ℕ) : Type 0 where
  pub len : length numbers ≡ length names
  pub inside : (n : ℕ) → n < length names → slice_index numbers n < length names
  pub same : (n m : ℕ) → n < length names → m < length names
      → (slice_index numbers n == slice_index numbers m) ≡ bytes_eq (identifier_of names n) (identifier_of names m)

-- the number by which an identifier is known
abbrev pub known_number : BTreeMap (Bor (List ℕ)) ℕ → List ℕ → Option ℕ
known_number known identifier = get_by (λ k. slice_cmp nat_cmp identifier k.now) known

-- an identifier is known by this number, and all others are known as before
abbrev pub Learns : BTreeMap (Bor (List ℕ)) ℕ → BTreeMap (Bor (List ℕ)) ℕ → List ℕ → ℕ → Type 0
Learns old new identifier number =
    (q : List ℕ) → known_number new q ≡ (if bytes_eq identifier q then Some number else known_number old q)

-- the number of the identifier of member k
abbrev pub number_of_member : List ℕ → List MemberEntry → ℕ → ℕ
number_of_member numbers members k =
    slice_index numbers (slice_index_or members k (record { type_number = 0; name_number = length numbers })).name_number

-- whether the identifier of member k stood before
abbrev pub stood_before : List ℕ → List MemberEntry → ℕ → Bool
stood_before numbers members k =
    contains (map (number_of_member numbers members) (numbers_below k)) (number_of_member numbers members k)

-- the first member whose identifier stood before, or how many members there are
abbrev pub IsFirstDuplicate : List ℕ → List MemberEntry → ℕ → Type 0
IsFirstDuplicate numbers members n = IsFirst (stood_before numbers members) (length members) n
