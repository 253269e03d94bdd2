-- The words of Frames, Held and Reading at bounds `S: Shelf` and `P: Payload`. This project's own.
use Rattle.std.specs.Prelude.{ℕ, List, Result, Ok, Err}
use Rattle.bl_shelf.specs.Calls.{IsQuiet}
use Rattle.bl_shelf.specs.declared.shelf.Shelf.{Ghosts as ShelfGhosts}
use Rattle.bl_file.specs.declared.fault.OpenFault.{OpenFault}
use Rattle.bl_file.specs.declared.payload.Payload.{Ghosts}
use Rattle.bl_file.specs.Frames.{StaysAs}
use Rattle.bl_file.specs.Held.{IsHeldAnd}
use Rattle.bl_file.specs.Outlines.{BlamesRisen}
use Rattle.bl_file.specs.Reading.{IsFaultOf}

-- the shelf and the payload are as before, and what the payload keeps of its file is so
abbrev pub Stays : {S P : Type 0} → ShelfGhosts S → Ghosts P → S → S → P → P → Type 0
Stays g h = StaysAs g h.file_name h.file_size h.agrees

-- the bytes of the payload's file are such, where the shelf tells them
abbrev pub Tells : {S P : Type 0} → ShelfGhosts S → Ghosts P → S → P → (List ℕ → Type 0) → Type 0
Tells g h s p = IsHeldAnd (g.told s) (h.file_name p)

-- the payload's file is held, and what the payload keeps of it is so
abbrev pub IsOpen : {S P : Type 0} → ShelfGhosts S → Ghosts P → S → P → Type 0
IsOpen g h s p = Tells g h s p (h.agrees p)

-- a fault is such of the bytes of the payload's file
abbrev pub FailsFor : {S P : Type 0} → ShelfGhosts S → Ghosts P → S → P → (OpenFault → List ℕ → Type 0) → OpenFault → Type 0
FailsFor g h s p = IsFaultOf (g.told s) (h.file_name p)

-- after Ok no count of the shelf has risen, and after a fault the one that it blames has
abbrev pub Blames : {S T : Type 0} → ShelfGhosts S → S → S → Result T OpenFault → Type 0
Blames g s s' (Ok _) = IsQuiet g s s'
Blames g s s' (Err fault) = BlamesRisen fault (g.faults s) (g.faults s') (g.misses s) (g.misses s')
