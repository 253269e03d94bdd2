-- In which order the nodes of a scope are kept.
use Rattle.std.specs.Prelude.{◌≡◌, ℕ, ◌<◌, ◌≤◌, true, false, List, length, All, Contains}
use Rattle.std.specs.Ordering.{nat_cmp, ordering_then}
use Rattle.std.specs.List.{AllWithin}
use Rattle.std.specs.List.Sorted.{IsSortedByKey}
use Rattle.std.specs.declared.cmp.Ordering.{Ordering}
use Rattle.bl_format.specs.Nodes.{Mark}
use Rattle.bl_addresses.specs.declared.marks.Place.{Place}
use Rattle.bl_addresses.specs.declared.marks.Row.{Row}
use Rattle.bl_addresses.specs.declared.marks.Scope.{Scope}
use Rattle.bl_addresses.specs.Marks.{mark_at, is_member, is_up_to, place_in, place_of, row_of}

-- a node of the file is looked up in the scope
abbrev pub IsMember : Scope → List Mark → ℕ → Type 0
IsMember scope marks n = (n < length marks) × (is_member scope (mark_at marks n) ≡ true)

-- a row is that of a node that is looked up in the scope
abbrev pub IsRow : Scope → List Mark → Row → Type 0
IsRow scope marks r = IsMember scope marks r.node × (place_of r ≡ place_in scope (mark_at marks r.node))

-- the rows are those of all nodes that are looked up in the scope
pub record AreMembers (scope : Scope) (marks : List Mark) (rows : List Row) : Type 0 where
  pub inside : All (IsRow scope marks) rows
  pub whole : (n : ℕ) → IsMember scope marks n → Contains rows (row_of scope (mark_at marks n) n)

-- by what a row is sorted: its part, its address and its number
abbrev pub key : Row → ℕ × ℕ × ℕ
key r = (r.part, r.address, r.node)

-- the order of such keys
abbrev pub key_cmp : ℕ × ℕ × ℕ → ℕ × ℕ × ℕ → Ordering
key_cmp x y = ordering_then (ordering_then (nat_cmp x.0 y.0) (nat_cmp x.1 y.1)) (nat_cmp x.2 y.2)

-- rows are sorted by their keys
abbrev pub AreSorted : List Row → Type 0
AreSorted rows = IsSortedByKey key key_cmp rows

-- the rows are those of the scope's nodes, and sorted
pub record IsOrder (scope : Scope) (marks : List Mark) (rows : List Row) : Type 0 where
  pub members : AreMembers scope marks rows
  pub sorted : AreSorted rows

-- the rows up to a place end in a span: all before the span are up to the place, and none behind it are
pub record EndsWithin (rows : List Row) (from to : ℕ) (place : Place) : Type 0 where
  pub rises : from ≤ to
  pub inside : to ≤ length rows
  pub before : AllWithin (λ r. is_up_to place (place_of r) ≡ true) rows 0 from
  pub behind : AllWithin (λ r. is_up_to place (place_of r) ≡ false) rows to (length rows)
