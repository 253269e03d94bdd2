-- The structs that stand in each struct by value.
use Rattle.std.specs.Prelude.{◌≡◌, ◌≤◌, ◌<◌, ℕ, slice_index, Bool, true, false, List, [], ◌∷◌, length, map, filter_map}
use Rattle.std.specs.List.{slice_index_or}
use Rattle.bl_format.specs.Words.{contains, numbers_reached}
use Rattle.std.specs.declared.vec.Vec.{Vec}
use Rattle.std.specs.declared.alloc.Global.{Global}
use Rattle.bl_format.specs.declared.catalogue.Catalogue.{Catalogue}
use Rattle.bl_format.specs.declared.catalogue.MemberEntry.{MemberEntry}
use Rattle.bl_layout.specs.Sizes.{inner_of}

-- the structs that some members are by value
abbrev pub inner_among : Catalogue → List MemberEntry → List ℕ
inner_among c members = filter_map (inner_of c) members

-- of each struct, the structs that stand in it
abbrev pub AreInnerStructs : Catalogue → List (Vec ℕ Global) → Type 0
AreInnerStructs c inner = map (λ v. v.items) inner ≡ map (λ s. inner_among c s.members) c.structs

-- the lists of a list of `Vec`s
abbrev pub links_of : List (Vec ℕ Global) → List (List ℕ)
links_of inner = map (λ v. v.items) inner

-- x has a link to y
abbrev pub leads : List (List ℕ) → ℕ → ℕ → Bool
leads links x y = contains (slice_index_or links x []) y

-- a chain of links goes from x to y
abbrev pub reaches : List (List ℕ) → ℕ → ℕ → Bool
reaches links x y = contains (numbers_reached (leads links) (length links) (length links) (x ∷ [])) y

-- all links go to numbers of the list
abbrev pub StaysInside : List (List ℕ) → Type 0
StaysInside links = (x y : ℕ) → leads links x y ≡ true → y < length links

-- a number is marked
abbrev pub is_marked : List Bool → ℕ → Bool
is_marked marks x = slice_index_or marks x false

-- no chain of links goes from a marked number to s: s isn't marked, and links from marked numbers go to
-- marked ones
pub record KeepsApart (links : List (List ℕ)) (marks : List Bool) (s : ℕ) : Type 0 where
  pub closed : (x y : ℕ) → is_marked marks x ≡ true → leads links x y ≡ true → is_marked marks y ≡ true
  pub apart : is_marked marks s ≡ false

-- a rank for each number; no link goes to a higher rank
pub record AreRanks (links : List (List ℕ)) (ranks : List ℕ) : Type 0 where
  pub len : length ranks ≡ length links
  pub falls : (x y : ℕ) → leads links x y ≡ true → slice_index ranks y ≤ slice_index ranks x
