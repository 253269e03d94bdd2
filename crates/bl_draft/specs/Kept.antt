-- Which nodes are kept, by flags, and the entries that stand for them.
use Rattle.std.specs.Prelude.{◌≡◌, ◌⊎◌, ◌<◌, ℕ, Bool, false, List, [], length, map, filter, slice_index_or}
use Rattle.bl_format.specs.declared.file.Head.{Head}
use Rattle.bl_format.specs.declared.catalogue.Catalogue.{Catalogue}
use Rattle.bl_format.specs.Words.{numbers_below}
use Rattle.bl_format.specs.Nodes.{File}
use Rattle.bl_selection.specs.declared.draft.Entry.{Entry}
use Rattle.bl_selection.specs.declared.draft.Entry.TheVariants as entries
use Rattle.bl_selection.specs.Selection.{no_file}

-- a node is raw, or of a struct of the catalogue
abbrev pub HasIndex : Catalogue → Head → Type 0
HasIndex c x = (x.index ≡ 0) ⊎ (x.index < length c.structs)

-- a file of these nodes and this catalogue, of which nothing else is said
abbrev pub file_of : List Head → Catalogue → File
file_of nodes c = record { header = no_file.header; catalogue = c; nodes = nodes; bytes = [] }

-- the flag of a node
abbrev pub flag_at : List Bool → ℕ → Bool
flag_at flags k = slice_index_or flags k false

-- an entry for each of n nodes that is kept
abbrev pub entries_by : (ℕ → Bool) → ℕ → List Entry
entries_by kept n = map (entries.Source 0) (filter kept (numbers_below n))
