-- Why a draft isn't rendered.
use Rattle.std.specs.Prelude.{◌≡◌, ◌<◌, ◌≤◌, [], ◌∷◌, length, Option, Some, None, Result, Ok, Err, ⊤}
use Rattle.bl_format.specs.Limits.{most_output_nodes}
use Rattle.bl_selection.specs.declared.draft.Draft.{Draft}
use Rattle.bl_selection.specs.OutputSizes.{OutputFault, LongPayload, LongOutput, output_fault}
use Rattle.bl_selection.specs.Selection.{selection_clash}
use Rattle.bl_shelf.specs.declared.shelf.Shelf.{Ghosts as ShelfGhosts}
use Rattle.bl_shelf.specs.declared.shelf.ShelfFault.{ShelfFault}
use Rattle.bl_shelf.specs.declared.shelf.ShelfFault.TheVariants as shelf
use Rattle.bl_plan.specs.declared.plans.PlanFault.{PlanFault}
use Rattle.bl_plan.specs.declared.plans.PlanFault.TheVariants as plans
use Rattle.bl_file.specs.declared.outline.Outline.{Outline}
use Rattle.bl_file.specs.declared.payload.Payload.{Ghosts}
use Rattle.bl_file.specs.Calls.{Tells}
use Rattle.bl_file.specs.Opening.{file_in}
use Rattle.bl_draft.specs.Own.{outlined}
use Rattle.bl_draft.specs.Structs.{HasNoClash}
use Rattle.bl_writer.specs.declared.fault.WriteFault.{WriteFault}
use Rattle.bl_writer.specs.declared.fault.WriteFault.TheVariants as faults

-- a shelf's fault as that of a draft that isn't rendered
abbrev pub fault_of_shelf : ShelfFault → WriteFault
fault_of_shelf shelf.Absent = faults.Absent
fault_of_shelf shelf.Failed = faults.Device
fault_of_shelf shelf.NoMemory = faults.NoMemory

-- a fault of plans as that of a draft that isn't rendered
abbrev pub fault_of_plan : PlanFault → WriteFault
fault_of_plan (plans.FloatCast t member) = faults.FloatCast t member
fault_of_plan plans.NoMemory = faults.NoMemory

-- a fault is one that a draft of an opened file has by itself: a float that would become another number, or, where there
-- is none, too many nodes; or memory ended
abbrev pub IsDraftFault : Outline → Draft → WriteFault → Type 0
IsDraftFault o d (faults.FloatCast t member) = selection_clash (outlined o [] ∷ []) d ≡ Some (t, member)
IsDraftFault o d (faults.TooManyBlocks n) = HasNoClash o d × (n ≡ length d.entries) × (most_output_nodes < n)
IsDraftFault o d faults.NoMemory = ⊤
IsDraftFault o d _ = ⊥

-- the first limit that the output of a draft of an opened file passes, where the shelf tells the file
abbrev pub HasOutputFault : {S P : Type 0} → ShelfGhosts S → Ghosts P → S → P → Draft → Option OutputFault → Type 0
HasOutputFault g h s p d fault = Tells g h s p (λ b. output_fault (file_in b ∷ []) d ≡ fault)

-- a draft of an opened file is refused with a fault: a float that would become another number, or, where there is none, a
-- limit; or a file isn't there, a device failed or memory ended
abbrev pub IsRefusal : {S P : Type 0} → ShelfGhosts S → Ghosts P → S → Draft → Outline → P → WriteFault → Type 0
IsRefusal g h s d o p (faults.FloatCast t member) = selection_clash (outlined o [] ∷ []) d ≡ Some (t, member)
IsRefusal g h s d o p (faults.TooManyBlocks n) = HasNoClash o d × (n ≡ length d.entries) × (most_output_nodes < n)
IsRefusal g h s d o p (faults.BlockTooLong n) = HasNoClash o d × HasOutputFault g h s p d (Some (LongPayload n))
IsRefusal g h s d o p (faults.FileTooLarge n) = HasNoClash o d × HasOutputFault g h s p d (Some (LongOutput n))
IsRefusal g h s d o p faults.Absent = ⊤
IsRefusal g h s d o p faults.Device = ⊤
IsRefusal g h s d o p faults.NoMemory = ⊤

-- an answer to a draft of an opened file: what is rendered turns no float into another number and keeps the limits
abbrev pub KeepsLimits : {S P T : Type 0} → ShelfGhosts S → Ghosts P → S → Draft → Outline → P → Result T WriteFault → Type 0
KeepsLimits g h s d o p (Ok _) =
    HasNoClash o d × (length d.entries ≤ most_output_nodes) × HasOutputFault g h s p d None
KeepsLimits g h s d o p (Err fault) = IsRefusal g h s d o p fault
