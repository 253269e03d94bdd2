-- What addresses name in the groups of nodes that have a raw node. Views are kept of raw nodes alone, and none of
-- these is an ID, so no other names are wanted for kinds.
use Rattle.std.specs.Prelude.{◌≡◌, refl, ℕ, ◌==◌, ◌&&◌, Bool, true, false, List, if◌then◌else◌, length, slice_get, get_or, Option, None}
use Rattle.std.specs.List.{list_any}
use Rattle.bl_format.specs.declared.file.Head.{Head}
use Rattle.bl_format.specs.Words.{numbers_below}
use Rattle.bl_format.specs.Nodes.{Mark}
use Rattle.bl_addresses.specs.Marks.{target_in_group}
use Rattle.bl_file.specs.Seen.{Namings, mark_group}
use Rattle.bl_file.specs.Views.{is_raw}

-- node k is a raw one of a group
abbrev pub is_raw_of : List Mark → List Head → ℕ → ℕ → Bool
is_raw_of marks nodes group k = is_raw nodes k && mark_group (slice_get marks k) == group

-- a group has a raw node among the first n
abbrev pub has_raw_below : List Mark → List Head → ℕ → ℕ → Bool
has_raw_below marks nodes group n = list_any (is_raw_of marks nodes group) (numbers_below n)

-- a group has a raw node
abbrev pub has_raw : List Mark → List Head → ℕ → Bool
has_raw marks nodes group = has_raw_below marks nodes group (length nodes)

-- what an address names in a group alone, unless that has no raw node
abbrev pub name_in_group : Bool → List Mark → ℕ → ℕ → Option ℕ
name_in_group raw marks group address = if raw then target_in_group marks group address else None

-- what addresses name from nodes in their own groups alone, by which groups have a raw node
abbrev pub group_names : List Bool → List Mark → Namings
group_names raw_groups marks k address =
    let group = mark_group (slice_get marks k) in
    name_in_group (get_or raw_groups group false) marks group address

name_in_group-null : (raw : Bool) (marks : List Mark) (group : ℕ) → name_in_group raw marks group 0 ≡ None
unfolding target_in_group
name_in_group-null true marks group = refl
name_in_group-null false marks group = refl

-- the address 0 names nothing
pub group_names-null : (raw_groups : List Bool) (marks : List Mark) (k : ℕ) → group_names raw_groups marks k 0 ≡ None
group_names-null raw_groups marks k =
    let group = mark_group (slice_get marks k) in
    name_in_group-null (get_or raw_groups group false) marks group
