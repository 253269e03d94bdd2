-- The leaves of a struct by the numbers on the way to them, as they are built: of each member in order, by the
-- leaves of the structs that stand in it.
use Rattle.std.specs.Prelude.{◌≡◌, ℕ, ◌+◌, ◌*◌, ◌<◌, ◌==◌, if◌then◌else◌, List, [], ◌∷◌, length, map, flat_map, Option, Some, None}
use Rattle.std.specs.List.{slice_index_or}
use Rattle.std.specs.declared.vec.Vec.{Vec}
use Rattle.std.specs.declared.alloc.Global.{Global}
use Rattle.bl_num.specs.declared.number.Width.{Width}
use Rattle.bl_format.specs.declared.catalogue.Catalogue.{Catalogue}
use Rattle.bl_format.specs.declared.catalogue.MemberEntry.{MemberEntry}
use Rattle.bl_format.specs.declared.layout.Kind.{Kind}
use Rattle.bl_format.specs.declared.layout.Kind.TheVariants as kinds
use Rattle.bl_format.specs.declared.layout.PathStep.{PathStep}
use Rattle.bl_format.specs.declared.layout.Leaf.{Leaf}
use Rattle.bl_format.specs.Words.{numbers_below}
use Rattle.bl_format.specs.Layout.{type_entry, member_entry, member_count, content_of, kind_of_content, kind_of, member_offset, inner_struct, nesting, leaves_of}
use Rattle.bl_layout.specs.Sizes.{parts_of, element_size_of}
use Rattle.bl_layout.specs.declared.leaves.Part.{Part}

-- a leaf of an inner struct as a leaf of the outer one: in a member, behind one step more, and so many bytes
-- further on
abbrev pub leaf_behind_on : ℕ → PathStep → ℕ → Leaf → Leaf
leaf_behind_on member step by x = record x { member = member; steps = step ∷ x.steps; offset = by + x.offset }

-- the step into element e of a member
abbrev pub step_into : Part → ℕ → PathStep
step_into p e = record { name_number = p.name_number; element = e }

-- the leaves of element e of a member that is a struct with some leaves
abbrev pub element_leaves : Part → List Leaf → ℕ → List Leaf
element_leaves p inside e = map (leaf_behind_on p.member (step_into p e) (p.offset + e * p.size)) inside

-- the leaves of the first n elements of a member that is a struct with some leaves
abbrev pub leaves_of_elements : Part → List Leaf → ℕ → List Leaf
leaves_of_elements p inside n = flat_map (element_leaves p inside) (numbers_below n)

-- the one leaf of a member that isn't a struct by value
abbrev pub leaf_of_part : Part → Kind → Leaf
leaf_of_part p kind = record {
  member = p.member;
  steps = step_into p 0 ∷ [];
  kind = kind;
  offset = p.offset;
  size = p.size;
  count = p.count;
}

-- the part that a member is, by its number, its entry and its place
abbrev pub part_at : Catalogue → Width → ℕ → MemberEntry → ℕ → Part
part_at c w k m at = record {
  member = k;
  name_number = m.name_number;
  offset = at;
  size = element_size_of c w m;
  count = (parts_of c m).count;
}

-- the part that member k of struct s is
abbrev pub part_of : Catalogue → Width → ℕ → ℕ → Part
part_of c w s k = part_at c w k (member_entry c s k) (member_offset c w s k)

-- what the leaf of a member holds, by its entry
abbrev pub kind_at : Catalogue → MemberEntry → Kind
kind_at c m =
    if (parts_of c m).pointer
    then kinds.Pointer (parts_of c m).depth m.type_number
    else kind_of_content (content_of c m.type_number) (type_entry c m.type_number).length

-- the leaves of a member by the struct that it is by value: of each element, or its own one
abbrev pub leaf_list_by : (ℕ → List Leaf) → Catalogue → Width → ℕ → ℕ → Option ℕ → List Leaf
leaf_list_by inside c w s k (Some t) = leaves_of_elements (part_of c w s k) (inside t) (part_of c w s k).count
leaf_list_by inside c w s k None = leaf_of_part (part_of c w s k) (kind_of c s k) ∷ []

-- the leaves of a member, by those of each struct; a member of size 0 has none
unfoldable pub member_leaf_list : (ℕ → List Leaf) → Catalogue → Width → ℕ → ℕ → List Leaf
member_leaf_list inside c w s k =
    if (part_of c w s k).size * (part_of c w s k).count == 0
    then []
    else leaf_list_by inside c w s k (inner_struct c s k)

-- the leaves in a list of `Vec`s
abbrev pub lists_of : List (Vec Leaf Global) → List (List Leaf)
lists_of table = map (λ v. v.items) table

-- the leaves of each struct that is nested less than n deep stand in a table
pub record StandBelow (c : Catalogue) (w : Width) (n : ℕ) (table : List (List Leaf)) : Type 0 where
  pub len : length table ≡ length c.structs
  pub stand : (s : ℕ) → s < length c.structs → nesting c s < n → slice_index_or table s [] ≡ leaves_of c w s

-- the leaves of each struct in a member of struct s stand in a table
abbrev pub InnerStand : Catalogue → Width → ℕ → List (List Leaf) → Type 0
InnerStand c w s table =
    (k t : ℕ) → k < member_count c s → inner_struct c s k ≡ Some t → slice_index_or table t [] ≡ leaves_of c w t
