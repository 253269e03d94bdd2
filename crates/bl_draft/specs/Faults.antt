-- Why a draft's kinds can't be told. This project's own.
use Rattle.std.specs.Prelude.{◌≡◌, [], ◌∷◌, Some, None, Result, Ok, Err, ⊤}
use Rattle.bl_selection.specs.declared.draft.Draft.{Draft}
use Rattle.bl_selection.specs.Selection.{selection_clash}
use Rattle.bl_shelf.specs.Calls.{IsQuiet}
use Rattle.bl_shelf.specs.Causes.{Rose}
use Rattle.bl_shelf.specs.declared.shelf.Shelf.{Ghosts}
use Rattle.bl_shelf.specs.declared.shelf.ShelfFault.{ShelfFault}
use Rattle.bl_shelf.specs.declared.shelf.ShelfFault.TheVariants as shelf
use Rattle.bl_plan.specs.declared.plans.PlanFault.{PlanFault}
use Rattle.bl_plan.specs.declared.plans.PlanFault.TheVariants as plans
use Rattle.bl_file.specs.declared.outline.Outline.{Outline}
use Rattle.bl_draft.specs.declared.fault.DraftFault.{DraftFault}
use Rattle.bl_draft.specs.declared.fault.DraftFault.TheVariants as faults
use Rattle.bl_draft.specs.Own.{outlined}
use Rattle.bl_draft.specs.Structs.{HasNoClash}

-- a shelf's fault as that of a draft
abbrev pub fault_of_shelf : ShelfFault → DraftFault
fault_of_shelf shelf.Absent = faults.Absent
fault_of_shelf shelf.Failed = faults.Device
fault_of_shelf shelf.NoMemory = faults.NoMemory

-- a fault of plans as that of a draft
abbrev pub fault_of_plan : PlanFault → DraftFault
fault_of_plan (plans.FloatCast t member) = faults.FloatCast t member
fault_of_plan plans.NoMemory = faults.NoMemory

-- an answer to a draft of an opened file tells the first float that would become another number, where there is one; where
-- a fault of the outside came first, it says nothing of floats
abbrev pub TellsClash : {T : Type 0} → Outline → Draft → Result T DraftFault → Type 0
TellsClash o d (Ok _) = HasNoClash o d
TellsClash o d (Err (faults.FloatCast t member)) = selection_clash (outlined o [] ∷ []) d ≡ Some (t, member)
TellsClash o d (Err _) = ⊤

-- the count that a fault blames has risen; that a source is gone comes only of a shelf that doesn't tell
abbrev pub IsBlamed : {S : Type 0} → Ghosts S → S → S → DraftFault → Type 0
IsBlamed g s s' faults.Absent = (g.told s ≡ None) × Rose (g.misses s) (g.misses s')
IsBlamed g s s' faults.Device = Rose (g.faults s) (g.faults s')
IsBlamed g s s' _ = ⊤

-- after Ok no count of the shelf has risen, and after a fault the one that it blames has
abbrev pub CountsKinds : {S T : Type 0} → Ghosts S → S → S → Result T DraftFault → Type 0
CountsKinds g s s' (Ok _) = IsQuiet g s s'
CountsKinds g s s' (Err fault) = IsBlamed g s s' fault
