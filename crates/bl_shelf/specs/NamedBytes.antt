-- The files of a shelf in memory.
use Rattle.std.specs.Prelude.{ℕ, List, map}
use Rattle.std.specs.FinMap.{from_entries}
use Rattle.bl_shelf.specs.Told.{Held, Staged}
use Rattle.bl_shelf.specs.declared.named_bytes.NamedBytes.{NamedBytes}

-- a file's name and bytes
abbrev pub entry_of : NamedBytes → List ℕ × List ℕ
entry_of f = (f.name.items, f.bytes.items)

-- the file as it is staged
abbrev pub staged_of : NamedBytes → Staged
staged_of f = record { name = f.name.items; bytes = f.bytes.items }

-- of two files of one name the first counts
abbrev pub held_in : List NamedBytes → Held
held_in files = from_entries (map entry_of files)
