-- What a call that pushes or stages says of a shelf, and of a payload that is read through it. This project's own.
use Rattle.std.specs.Prelude.{◌≡◌, ◌⊎◌, ◌≤◌, ℕ, List, None, Some, Result, Ok, Err, ⊤}
use Rattle.bl_shelf.specs.Calls.{Holds, IsQuiet}
use Rattle.bl_shelf.specs.Causes.{Rose}
use Rattle.bl_shelf.specs.History.{with_stage}
use Rattle.bl_shelf.specs.Told.{held_of}
use Rattle.bl_shelf.specs.declared.shelf.Shelf.{Ghosts as ShelfGhosts}
use Rattle.bl_file.specs.declared.payload.Payload.{Ghosts}
use Rattle.bl_file.specs.Calls.{IsOpen}
use Rattle.bl_writer.specs.declared.fault.WriteFault.{WriteFault}
use Rattle.bl_writer.specs.declared.fault.WriteFault.TheVariants as faults

-- ---- what stays

-- what is held is as before, nothing was staged anew, no commit took effect, and no count fell
pub record Pushes {S : Type 0} (g : ShelfGhosts S) (s s' : S) : Type 0 where
  pub held : held_of (g.told s') ≡ held_of (g.told s)
  pub history : g.history s' ≡ g.history s
  pub faults : g.faults s ≤ g.faults s'
  pub misses : g.misses s ≤ g.misses s'

-- the same, and the payload is as before, and what it keeps of its file is so
pub record PushesFrom {S P : Type 0} (g : ShelfGhosts S) (h : Ghosts P) (s s' : S) (p p' : P) : Type 0 where
  pub shelf : Pushes g s s'
  pub name : h.file_name p' ≡ h.file_name p
  pub size : h.file_size p' ≡ h.file_size p
  pub held : IsOpen g h s' p'

-- what is held is as before, and the payload, and what it keeps of its file is so; something may be staged
pub record HoldsFrom {S P : Type 0} (g : ShelfGhosts S) (h : Ghosts P) (s s' : S) (p p' : P) : Type 0 where
  pub shelf : Holds g s s'
  pub name : h.file_name p' ≡ h.file_name p
  pub size : h.file_size p' ≡ h.file_size p
  pub held : IsOpen g h s' p'

-- ---- what is staged

-- a file is staged under a name, whole: no room is left
pub record IsStagedAs {S : Type 0} (g : ShelfGhosts S) (name : List ℕ) (s s' : S) : Type 0 where
  pub room : g.room s' ≡ Some 0
  pub history : g.history s' ≡ with_stage name (g.history s)

-- nothing is staged, and nothing was under another name
pub record IsUnstaged {S : Type 0} (g : ShelfGhosts S) (name : List ℕ) (s s' : S) : Type 0 where
  pub room : g.room s' ≡ None
  pub history : (g.history s' ≡ g.history s) ⊎ (g.history s' ≡ with_stage name (g.history s))

-- what an answer says is staged
abbrev pub Stages : {S T F : Type 0} → ShelfGhosts S → List ℕ → S → S → Result T F → Type 0
Stages g name s s' (Ok _) = IsStagedAs g name s s'
Stages g name s s' (Err _) = IsUnstaged g name s s'

-- a fault comes of the outside, and not of the draft
abbrev pub IsOfOutside : WriteFault → Type 0
IsOfOutside faults.Absent = ⊤
IsOfOutside faults.Device = ⊤
IsOfOutside faults.NoMemory = ⊤
IsOfOutside _ = ⊥

-- a refusal for what a draft is comes before anything is staged: no file was begun
abbrev pub RefusesFirst : {S T : Type 0} → ShelfGhosts S → S → S → Result T WriteFault → Type 0
RefusesFirst g s s' (Ok _) = ⊤
RefusesFirst g s s' (Err fault) = IsOfOutside fault ⊎ (g.history s' ≡ g.history s)

-- ---- whom a fault blames

-- the count that a fault blames has risen; that a source is gone comes only of a shelf that doesn't tell
abbrev pub IsBlamed : {S : Type 0} → ShelfGhosts S → S → S → WriteFault → Type 0
IsBlamed g s s' faults.Absent = (g.told s ≡ None) × Rose (g.misses s) (g.misses s')
IsBlamed g s s' faults.Device = Rose (g.faults s) (g.faults s')
IsBlamed g s s' _ = ⊤

-- after Ok no count of the shelf has risen, and after a fault the one that it blames has
abbrev pub CountsWrites : {S T : Type 0} → ShelfGhosts S → S → S → Result T WriteFault → Type 0
CountsWrites g s s' (Ok _) = IsQuiet g s s'
CountsWrites g s s' (Err fault) = IsBlamed g s s' fault
