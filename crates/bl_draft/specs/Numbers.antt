-- The numbers under one catalogue of the structs of another, which meet by their names.
use Rattle.std.specs.Prelude.{ℕ, Bool, not, ◌||◌, ◌==◌, List, map, slice_index_or}
use Rattle.bl_format.specs.declared.file.Head.{Head}
use Rattle.bl_format.specs.declared.catalogue.Catalogue.{Catalogue}
use Rattle.bl_format.specs.Layout.{struct_numbers}
use Rattle.bl_selection.specs.Selection.{index_under}

-- for each struct of another catalogue the number in catalogue c of its namesake, and 0 where there is none
abbrev pub numbers_under : Catalogue → Catalogue → List ℕ
numbers_under c from = map (index_under c from) (struct_numbers from)

-- the number of a struct by such a list
abbrev pub number_at : List ℕ → ℕ → ℕ
number_at numbers s = slice_index_or numbers s 0

-- an index is that of raw data or of a struct that has a number
abbrev pub is_shared : List ℕ → ℕ → Bool
is_shared numbers index = index == 0 || not (number_at numbers index == 0)

-- a head with the number that its struct has there
abbrev pub numbered_head : List ℕ → Head → Head
numbered_head numbers x = record x { index = number_at numbers x.index }
