-- How an output is staged: what of a text is staged and what is held back, and the room that is left.
use Rattle.std.specs.Prelude.{◌≡◌, ℕ, ◌+◌, ◌-◌, ◌≤◌, List, ◌++◌, length, take, codes, Option, Some, option_map, IsSomeAnd}
use Rattle.bl_format.specs.declared.file.Header.{Header}
use Rattle.bl_format.specs.Words.{zeros}
use Rattle.bl_format.specs.Blocks.{head_size}
use Rattle.bl_shelf.specs.Told.{Told, push_in}
use Rattle.bl_shelf.specs.declared.shelf.Shelf.{Ghosts}
use Rattle.bl_writer.specs.declared.buffer.OutBuffer.{OutBuffer}

-- ---- what is staged

-- behind what was held back comes a text; once what is held back now is pushed, just these bytes more are staged
pub record Adds (told : Option Told) (pending text : List ℕ) (told' : Option Told) (pending' : List ℕ) : Type 0 where
  pub staged : option_map (push_in pending') told' ≡ option_map (push_in (pending ++ text)) told

-- the same of a text of so many bytes
pub record AddsOf (told : Option Told) (pending text : List ℕ) (n : ℕ) (told' : Option Told) (pending' : List ℕ) : Type 0 where
  pub adds : Adds told pending text told' pending'
  pub length : length text ≡ n

-- there is room for what is held back and so many bytes more
abbrev pub HasRoom : Option ℕ → ℕ → ℕ → Type 0
HasRoom room filled n = IsSomeAnd room (λ left. filled + n ≤ left)

-- so many bytes more take as much of the room, of which what is held back is counted as taken
pub record Takes (room : Option ℕ) (filled n : ℕ) (room' : Option ℕ) (filled' : ℕ) : Type 0 where
  pub left : (rest : ℕ) → room ≡ Some (filled + n + rest) → room' ≡ Some (filled' + rest)

-- what is held back
abbrev pub pending : OutBuffer → List ℕ
pending b = take b.filled b.bytes.items

-- bytes can be added: what is held back stands in the buffer, the longest piece fits it, and there is room
pub record CanAdd {S : Type 0} (g : Ghosts S) (s : S) (b : OutBuffer) (longest n : ℕ) : Type 0 where
  pub filled : b.filled ≤ length b.bytes.items
  pub fits : longest ≤ length b.bytes.items
  pub room : HasRoom (g.room s) b.filled n

-- so many bytes were added
pub record HasAdded {S : Type 0} (g : Ghosts S) (s s' : S) (b b' : OutBuffer) (n : ℕ) : Type 0 where
  pub filled : b'.filled ≤ length b'.bytes.items
  pub long : length b'.bytes.items ≡ length b.bytes.items
  pub room : Takes (g.room s) b.filled n (g.room s') b'.filled

-- the same files, and these bytes staged under a name
abbrev pub staged_as : List ℕ → List ℕ → Told → Told
staged_as name bytes t = record { held = t.held; staged = Some (record { name = name; bytes = bytes }) }

-- ---- the whole output

-- the end of a file: `ENDB` and zeros, as long as a head
abbrev pub end_written : Header → List ℕ
end_written h = codes "ENDB" ++ zeros (head_size h - 4)
