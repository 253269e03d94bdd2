-- How deep numbers stand in one another along links.
use Rattle.std.specs.Prelude.{nat_lt, if◌then◌else◌, Option, Some, None, ℕ, suc, max, List, map, fold, slice_index}
use Rattle.bl_format.specs.Limits.{deepest_nesting}
use Rattle.bl_format.specs.declared.layout.LayoutFault.{LayoutFault}
use Rattle.bl_format.specs.declared.layout.LayoutFault.TheVariants.{TooDeep}
use Rattle.bl_format.specs.declared.catalogue.Catalogue.{Catalogue}
use Rattle.bl_format.specs.Layout.{nesting, struct_numbers}

-- one more than the deepest of some numbers
abbrev pub deeper_by_one : List ℕ → List ℕ → ℕ
deeper_by_one nestings row = suc (fold max 0 (map (slice_index nestings) row))

-- of each row, one more than the deepest of its numbers
abbrev pub next_nestings : List (List ℕ) → List ℕ → List ℕ
next_nestings links nestings = map (deeper_by_one nestings) links

-- the nestings of all structs
abbrev pub nestings_in : Catalogue → List ℕ
nestings_in c = map (nesting c) (struct_numbers c)

-- the fault of a struct of some nesting
abbrev pub fault_of_nesting : ℕ → Option LayoutFault
fault_of_nesting n = if nat_lt deepest_nesting n then Some (TooDeep n) else None
