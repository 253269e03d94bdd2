-- Tables of numbers by names: of a catalogue's structs, and of a struct's members by their keys.
use denote.Ref.{Bor}
use Rattle.std.specs.Prelude.{◌≡◌, ℕ, if◌then◌else◌, List, Option, Some, None}
use Rattle.std.specs.BTreeMap.{BTreeMap, get_by}
use Rattle.std.specs.Cmp.Lexicographic.{slice_cmp}
use Rattle.std.specs.Option.{option_or}
use Rattle.std.specs.Ordering.{nat_cmp}
use Rattle.std.specs.Str.{bytes_eq}
use Rattle.bl_format.specs.declared.catalogue.Catalogue.{Catalogue}
use Rattle.bl_format.specs.Layout.{struct_named}
use Rattle.bl_selection.specs.Fate.{member_of_key}

-- the number that a map has for a name
abbrev pub number_for : BTreeMap (Bor (List ℕ)) ℕ → List ℕ → Option ℕ
number_for known name = get_by (λ k. slice_cmp nat_cmp name k.now) known

-- a map has the number of each struct by its name, and nothing else
abbrev pub HasStructs : Catalogue → BTreeMap (Bor (List ℕ)) ℕ → Type 0
HasStructs c known = (name : List ℕ) → number_for known name ≡ struct_named c name

-- a map has the number of each member of struct s by its key, and nothing else
abbrev pub HasMembers : Catalogue → ℕ → BTreeMap (Bor (List ℕ)) ℕ → Type 0
HasMembers c s known = (key : List ℕ) → number_for known key ≡ member_of_key c s key

-- a name gets a number unless it had one, and all others keep theirs
abbrev pub Learns : BTreeMap (Bor (List ℕ)) ℕ → BTreeMap (Bor (List ℕ)) ℕ → List ℕ → ℕ → Type 0
Learns old new name number =
    (q : List ℕ) → number_for new q ≡ option_or (number_for old q) (if bytes_eq name q then Some number else None)
