-- What addresses are compared with in nodes.
use Rattle.std.specs.Prelude.{ℕ, Bool, true, false, ◌==◌, ◌&&◌, ◌||◌, nat_lt, nat_le, if◌then◌else◌, List, [], ◌∷◌, slice_index_or, Option, None}
use Rattle.bl_format.specs.Nodes as nodes
use Rattle.bl_format.specs.Words.{last_place}
use Rattle.bl_addresses.specs.declared.marks.Mark.{Mark}
use Rattle.bl_addresses.specs.declared.marks.Place.{Place}
use Rattle.bl_addresses.specs.declared.marks.Row.{Row}
use Rattle.bl_addresses.specs.declared.marks.Scope.{Scope}
use Rattle.bl_addresses.specs.declared.marks.Scope.TheVariants.{Group, File}

-- the marks of nodes, by their groups, their addresses and whether they are IDs
unfoldable pub marks_by : List ℕ → List ℕ → List Bool → List nodes.Mark
marks_by (group ∷ groups) (address ∷ addresses) (is_an_id ∷ ids) =
    record { group = group; address = address; is_an_id = is_an_id } ∷ marks_by groups addresses ids
marks_by _ _ _ = []

-- the node that an address names among those of a group alone, or null: 0 is null, else it is the last node of the group
-- with that address
unfoldable pub target_in_group : List nodes.Mark → ℕ → ℕ → Option ℕ
target_in_group marks group address =
    if address == 0 then None else last_place (λ n. n.group == group && n.address == address) marks

-- a mark as contracts see it
abbrev pub mark_of : Mark → nodes.Mark
mark_of m = record { group = m.group; address = m.address; is_an_id = m.is_an_id }

-- the mark of a node, or a blank one
abbrev pub mark_at : List nodes.Mark → ℕ → nodes.Mark
mark_at marks n = slice_index_or marks n (record { group = 0; address = 0; is_an_id = false })

-- a node is looked up in a scope: any in its group, an ID in the file
abbrev pub is_member : Scope → nodes.Mark → Bool
is_member Group m = true
is_member File m = m.is_an_id

-- where a node is found in a scope: in its group, or in the file, at its address
abbrev pub place_in : Scope → nodes.Mark → Place
place_in Group m = record { part = m.group; address = m.address }
place_in File m = record { part = 0; address = m.address }

-- a node where it is looked up in a scope, by its mark and its number
abbrev pub row_of : Scope → nodes.Mark → ℕ → Row
row_of scope m n =
    record { address = (place_in scope m).address; part = (place_in scope m).part; node = n }

-- where the node of a row is found
abbrev pub place_of : Row → Place
place_of r = record { part = r.part; address = r.address }

-- a place is no later than a bound
abbrev pub is_up_to : Place → Place → Bool
is_up_to bound p = nat_lt p.part bound.part || (p.part == bound.part && nat_le p.address bound.address)

-- a place is the bound
abbrev pub is_at : Place → Place → Bool
is_at bound p = p.part == bound.part && p.address == bound.address

-- a node is found in a scope at a place
abbrev pub is_found : Scope → Place → nodes.Mark → Bool
is_found scope place m = is_member scope m && is_at place (place_in scope m)
