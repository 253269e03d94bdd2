-- Which leaf of a struct's namesake under another catalogue each leaf meets, by its number. Members meet by key, so
-- it is found member by member: where the leaves of the one with the key begin, and which of those inside are met.
use denote.Ref.{Bor}
use Rattle.std.specs.Prelude.{◌≡◌, ℕ, ◌+◌, ◌*◌, Bool, nat_lt, is_none, if◌then◌else◌, List, length, map, Option, Some, None, option_map, get_or}
use Rattle.std.specs.BTreeMap.{BTreeMap}
use Rattle.std.specs.Option.{option_and_then}
use Rattle.std.specs.Str.{bytes_eq}
use Rattle.bl_num.specs.declared.number.Width.{Width}
use Rattle.bl_format.specs.declared.catalogue.Catalogue.{Catalogue}
use Rattle.bl_format.specs.Words.{first_place}
use Rattle.bl_format.specs.Layout.{NamedLeaf, no_leaf, first_member, named_leaves, name_of, inner_struct, struct_name}
use Rattle.bl_selection.specs.Fate.{ways_meet}
use Rattle.bl_plan.specs.Names.{number_for}
use Rattle.bl_plan.specs.declared.source_members.SourceMember.{SourceMember}
use Rattle.bl_plan.specs.declared.source_members.SourceElements.{SourceElements}

-- the number of the source leaf on the same way, which the target leaf meets
abbrev pub source_place : List NamedLeaf → NamedLeaf → Option ℕ
source_place xs y = first_place (λ (x : NamedLeaf). ways_meet x.way y.way) xs

-- ---- a member of the source

-- the outermost member of a leaf has a key
abbrev pub has_key : Catalogue → ℕ → List ℕ → NamedLeaf → Bool
has_key c s key x = bytes_eq (name_of c s (first_member x.way)).key key

-- the number of the first leaf of the member of a key
abbrev pub first_leaf : Catalogue → Width → ℕ → List ℕ → Option ℕ
first_leaf c w s key = first_place (has_key c s key) (named_leaves c w s)

-- the outermost member of the leaf of a number
abbrev pub member_of_leaf : Catalogue → Width → ℕ → ℕ → ℕ
member_of_leaf c w s place = first_member (get_or (named_leaves c w s) place no_leaf).way

-- the member that begins with the leaf of a number
abbrev pub member_from : Catalogue → Width → ℕ → ℕ → SourceMember
member_from c w s place = record {
  first = place;
  count = (name_of c s (member_of_leaf c w s place)).count;
  inner = inner_struct c s (member_of_leaf c w s place);
}

-- the member of a key, if one with leaves has it
unfoldable pub source_member : Catalogue → Width → ℕ → List ℕ → Option SourceMember
source_member c w s key = option_map (member_from c w s) (first_leaf c w s key)

-- ---- what is met

-- the one leaf of a member that is no struct by value
abbrev pub own_leaf_of : SourceMember → Option ℕ
own_leaf_of x = if is_none x.inner then Some x.first else None

-- a member's elements, where it is by value the struct of a name
abbrev pub elements_by : Catalogue → Width → List ℕ → SourceMember → ℕ → Option SourceElements
elements_by c w name x s =
    if bytes_eq (struct_name c s) name
    then Some (record { s = s; first = x.first; leaves = length (named_leaves c w s); count = x.count })
    else None

-- the same, where it is a struct by value at all
abbrev pub elements_of : Catalogue → Width → List ℕ → SourceMember → Option SourceElements
elements_of c w name x = option_and_then (elements_by c w name x) x.inner

-- the number of the leaf in element e that is number p of each element's leaves, if the source has that element
abbrev pub leaf_in : SourceElements → ℕ → ℕ → Option ℕ
leaf_in x e p = if nat_lt e x.count then Some (x.first + e * x.leaves + p) else None

-- the leaves that those of element e meet, by those that they meet inside the struct
abbrev pub element_places : SourceElements → List (Option ℕ) → ℕ → List (Option ℕ)
element_places x found e = map (option_and_then (leaf_in x e)) found

-- ---- the table of first leaves

-- leaves by the keys of the members that begin with them
abbrev pub FirstLeaves : Type 0
FirstLeaves = BTreeMap (Bor (List ℕ)) ℕ

-- a table has the first leaf of each member of a struct by its key, and nothing else
abbrev pub HasFirstLeaves : Catalogue → Width → ℕ → FirstLeaves → Type 0
HasFirstLeaves c w s table = (key : List ℕ) → number_for table key ≡ first_leaf c w s key
