-- What a table's parts are.
use Rattle.std.specs.Prelude.{ℕ, suc, Bool, false, ◌==◌, ◌||◌, if◌then◌else◌, List, [], ◌∷◌}
use Rattle.bl_format.specs.Nodes.{Mark}
use Rattle.bl_addresses.specs.declared.marks.Row.{Row}
use Rattle.bl_addresses.specs.declared.marks.Scope.TheVariants.{Group, File}
use Rattle.bl_addresses.specs.Order.{IsOrder}

-- the address that the first row of a node has, or 0
unfoldable pub address_in : List Row → ℕ → ℕ
address_in [] n = 0
address_in (r ∷ rows) n = if r.node == n then r.address else address_in rows n

-- a node has a row
unfoldable pub has_row : List Row → ℕ → Bool
has_row [] n = false
has_row (r ∷ rows) n = r.node == n || has_row rows n

-- the marks of the nodes from node i on, by their groups, by the rows of all nodes and by those of the IDs
unfoldable pub marks_from : ℕ → List ℕ → List Row → List Row → List Mark
marks_from i [] nodes ids = []
marks_from i (group ∷ groups) nodes ids =
    record { group = group; address = address_in nodes i; is_an_id = has_row ids i }
    ∷ marks_from (suc i) groups nodes ids

-- the marks of all nodes
abbrev pub marks_in : List ℕ → List Row → List Row → List Mark
marks_in groups nodes ids = marks_from 0 groups nodes ids

-- the nodes stand in the order of their groups, and the IDs in that of their addresses
pub record IsTable (marks : List Mark) (nodes ids : List Row) : Type 0 where
  pub nodes_sorted : IsOrder Group marks nodes
  pub ids_sorted : IsOrder File marks ids
