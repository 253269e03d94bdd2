-- What a call that reads leaves of a shelf and of a payload, and whom it blames. This project's own.
use Rattle.std.specs.Prelude.{◌≡◌, ℕ, List, None, Result, Ok, Err, ⊤}
use Rattle.bl_shelf.specs.Calls.{Keeps, IsQuiet}
use Rattle.bl_shelf.specs.Causes.{Rose}
use Rattle.bl_shelf.specs.declared.shelf.Shelf.{Ghosts}
use Rattle.bl_shelf.specs.declared.shelf.ShelfFault.{ShelfFault}
use Rattle.bl_shelf.specs.declared.shelf.ShelfFault.TheVariants.{Absent, Failed, NoMemory}
use Rattle.bl_file.specs.Held.{IsHeldAnd}

-- the count that a fault of a read blames has risen; that the file is gone comes only of a shelf that doesn't tell
abbrev pub IsBlamed : {S : Type 0} → Ghosts S → S → S → ShelfFault → Type 0
IsBlamed g s s' Absent = (g.told s ≡ None) × Rose (g.misses s) (g.misses s')
IsBlamed g s s' Failed = Rose (g.faults s) (g.faults s')
IsBlamed g s s' NoMemory = ⊤

-- after Ok no count of the shelf has risen, and after a fault the one that it blames has
abbrev pub CountsReads : {S T : Type 0} → Ghosts S → S → S → Result T ShelfFault → Type 0
CountsReads g s s' (Ok _) = IsQuiet g s s'
CountsReads g s s' (Err fault) = IsBlamed g s s' fault

-- the shelf and the payload are as before, and what the payload keeps of its file is so
pub record StaysAs {S P : Type 0} (g : Ghosts S) (name_of : P → List ℕ) (size_of : P → ℕ) (agrees_of : P → List ℕ → Type 0) (s s' : S) (p p' : P) : Type 0 where
  pub shelf : Keeps g s s'
  pub name : name_of p' ≡ name_of p
  pub size : size_of p' ≡ size_of p
  pub held : IsHeldAnd (g.told s') (name_of p') (agrees_of p')
