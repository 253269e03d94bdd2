-- The words of Frames and Causes at a bound `S: Shelf`. This project's own.
use Rattle.std.specs.Prelude.{◌≡◌, Result}
use Rattle.bl_shelf.specs.Causes.{HasCause}
use Rattle.bl_shelf.specs.Frames.{KeepsAs, HoldsAs}
use Rattle.bl_shelf.specs.declared.shelf.Shelf.{Ghosts}
use Rattle.bl_shelf.specs.declared.shelf.ShelfFault.{ShelfFault}

-- the shelf is as before, and none of its counts fell
abbrev pub Keeps : {S : Type 0} → Ghosts S → S → S → Type 0
Keeps g = KeepsAs g.told g.room g.history g.faults g.misses

-- what is held is as before, no commit took effect, and no count fell; something may be staged
abbrev pub Holds : {S : Type 0} → Ghosts S → S → S → Type 0
Holds g = HoldsAs g.told g.history g.faults g.misses

-- no count of the shelf has risen
abbrev pub IsQuiet : {S : Type 0} → Ghosts S → S → S → Type 0
IsQuiet g s s' = (g.faults s' ≡ g.faults s) × (g.misses s' ≡ g.misses s)

-- what an answer says of the shelf's counts
abbrev pub Counts : {S T : Type 0} → Ghosts S → S → S → Result T ShelfFault → Type 0
Counts g s s' = HasCause (g.faults s) (g.faults s') (g.misses s) (g.misses s')
