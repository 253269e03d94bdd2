-- The inputs of a command: their checks, each fault of opening one as an ending, when they can be read, and why one is
-- refused. This project's own.
use Rattle.std.specs.Prelude.{◌≡◌, ◌⊎◌, ◌≤◌, ◌<◌, ⊤, ℕ, ◌+◌, List, [], ◌∷◌, length, Option, Some, None, option_map, unwrap_or}
use Rattle.std.specs.FinMap.{get}
use Rattle.bl_format.specs.Limits.{most_blocks, most_input_bytes}
use Rattle.bl_format.specs.Nodes.{File, Accepted}
use Rattle.bl_commands.specs.declared.ending.Ending.{Ending}
use Rattle.bl_commands.specs.declared.ending.Ending.TheVariants as endings
use Rattle.bl_commands.specs.declared.ending.FileFault.TheVariants as faults
use Rattle.bl_commands.specs.declared.ending.Quantity.TheVariants.{InputBytes}
use Rattle.bl_commands.specs.Texts.{head_ending, block_ending, sdna_ending, layout_ending}
use Rattle.bl_shelf.specs.Told.{Held}
use Rattle.bl_file.specs.declared.fault.OpenFault.{OpenFault}
use Rattle.bl_file.specs.declared.fault.OpenFault.TheVariants as opens
use Rattle.bl_file.specs.Opening.{open_fault}
use Rattle.bl_file.specs.Refusals.{HasOpenFault}

-- how a fault of a file ends a run, with the file's shelf name
abbrev pub open_ending : List ℕ → OpenFault → Ending
open_ending file opens.NoMemory = endings.NoMemory
open_ending file opens.Absent = endings.Absent file
open_ending file opens.Device = endings.Device
open_ending file (opens.TooLarge sum) = endings.PastLimit InputBytes sum
open_ending file (opens.Head fault) = head_ending file fault
open_ending file (opens.Block fault) = block_ending file fault
open_ending file opens.NoCatalogue = endings.BadFile file faults.NoCatalogue
open_ending file (opens.TwoCatalogues at) = endings.BadFile file (faults.TwoCatalogues at)
open_ending file (opens.Sdna fault) = sdna_ending file fault
open_ending file (opens.Layout fault owner member) = layout_ending file owner member fault
open_ending file (opens.BadStruct at) = endings.BadFile file (faults.BadStruct at)
open_ending file (opens.ShortBlock at) = endings.BadFile file (faults.ShortBlock at)

-- the bytes under a name, and none where it isn't held
abbrev pub bytes_held : Held → List ℕ → List ℕ
bytes_held held name = unwrap_or (get held name) []

-- how the first fault of the file under a name ends a run that opened so many bytes before
abbrev pub opening_check : ℕ → Held → List ℕ → Option Ending
opening_check used held input = option_map (open_ending input) (open_fault used (get held input))

-- the checks of a command with one input
abbrev pub input_checks : Held → List ℕ → List (Option Ending)
input_checks held input = opening_check 0 held input ∷ []

-- the checks of a command with two inputs: the first is opened, and then the other
abbrev pub two_input_checks : Held → List ℕ → List ℕ → List (Option Ending)
two_input_checks held input other =
    opening_check 0 held input ∷ opening_check (length (bytes_held held input)) held other ∷ []

-- an ending is that of the first check, unless memory or a device gave it
abbrev pub IsChecked : Option Ending → Ending → Type 0
IsChecked first endings.NoMemory = ⊤
IsChecked first endings.Device = ⊤
IsChecked first ending = first ≡ Some ending

-- ---- when they can be read

-- the bytes are accepted as this file; with the catalogue's it has no more blocks than the limit
pub record IsAcceptedFile (b : List ℕ) (f : File) : Type 0 where
  pub accepted : Accepted b f
  pub few : length f.nodes < most_blocks

-- the bytes under a name are held, and accepted as this file
pub record IsHeldAs (held : Held) (name : List ℕ) (f : File) : Type 0 where
  pub b : List ℕ
  pub is_held : get held name ≡ Some b
  pub accepted : IsAcceptedFile b f

-- the input is held, no longer than the limit, and accepted
pub record IsReadable (held : Held) (input : List ℕ) : Type 0 where
  pub b : List ℕ
  pub file : File
  pub is_held : get held input ≡ Some b
  pub small : length b ≤ most_input_bytes
  pub accepted : IsAcceptedFile b file

-- two inputs can be read, and are together no longer than the limit
pub record AreReadable (held : Held) (input other : List ℕ) : Type 0 where
  pub first : IsReadable held input
  pub second : IsReadable held other
  pub small : length first.b + length second.b ≤ most_input_bytes

-- ---- why one is refused; where bytes have several faults the checks decide which is told

-- the file is held, and its bytes have a fault, behind so many that were opened before, which gives the ending
pub record IsHeldWithFault (used : ℕ) (held : Held) (file : List ℕ) (ending : Ending) : Type 0 where
  pub b : List ℕ
  pub is_held : get held file ≡ Some b
  pub fault : OpenFault
  pub has : HasOpenFault used b fault
  pub gives : ending ≡ open_ending file fault

-- the file isn't held, or is held and has a fault
abbrev pub HasInputCause : ℕ → Held → List ℕ → Ending → Type 0
HasInputCause used held file ending =
    ((get held file ≡ None) × (ending ≡ endings.Absent file)) ⊎ IsHeldWithFault used held file ending
