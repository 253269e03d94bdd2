-- How many leaves members and structs have.
use Rattle.std.specs.Prelude.{◌≡◌, ◌<◌, ◌^◌, ◌*◌, ◌==◌, ℕ, if◌then◌else◌, List, length, map, sum, All, slice_index, Option, Some, None}
use Rattle.bl_num.specs.declared.number.Width.{Width}
use Rattle.bl_format.specs.declared.catalogue.Catalogue.{Catalogue}
use Rattle.bl_format.specs.declared.catalogue.MemberEntry.{MemberEntry}
use Rattle.bl_format.specs.Layout.{struct_numbers, named_leaves, nesting}
use Rattle.bl_layout.specs.Sizes.{size_of, parts_of, inner_of}

-- how many leaves a struct has
abbrev pub leaf_count : Catalogue → Width → ℕ → ℕ
leaf_count c w s = length (named_leaves c w s)

-- how many leaves each struct has
abbrev pub leaf_counts_in : Catalogue → Width → List ℕ
leaf_counts_in c w = map (leaf_count c w) (struct_numbers c)

-- the leaves of n elements of a struct by value, or the one of a member that isn't one
abbrev pub count_by : (ℕ → ℕ) → ℕ → Option ℕ → ℕ
count_by counts n (Some t) = n * counts t
count_by counts n None = 1

-- how many leaves a member has, by how many each struct has; one of size 0 has none
abbrev pub count_of_member : (ℕ → ℕ) → Catalogue → Width → MemberEntry → ℕ
count_of_member counts c w m =
    if size_of c w m == 0 then 0 else count_by counts (parts_of c m).count (inner_of c m)

-- how many leaves some members have together
abbrev pub count_of_members : (ℕ → ℕ) → Catalogue → Width → List MemberEntry → ℕ
count_of_members counts c w members = sum (map (count_of_member counts c w) members)

-- the counts are those of all structs nested less deep than some depth, and of those before some number that
-- are nested just so deep; any others are small
pub record AreCounts (c : Catalogue) (w : Width) (depth reached : ℕ) (counts : List ℕ) : Type 0 where
  pub len : length counts ≡ length c.structs
  pub small : All (λ n. n < 2 ^ 16) counts
  pub inner : (s : ℕ) → s < length c.structs → nesting c s < depth → slice_index counts s ≡ leaf_count c w s
  pub before : (s : ℕ) → s < length c.structs → s < reached → nesting c s ≡ depth
      → slice_index counts s ≡ leaf_count c w s
