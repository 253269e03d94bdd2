-- How a fault of a file that is opened decides its check.
use Rattle.std.proofs.Common.{◌≡◌, ◌⊎◌, inl, inr, List, ℕ, Option, Some, None, refl, sym, subst}
use Rattle.std.specs.Prelude.{⊤, IfSome, option_map}
use Rattle.bl_format.specs.declared.file.HeadFault.TheVariants as head
use Rattle.bl_format.specs.declared.file.BlockFault.TheVariants as block
use Rattle.bl_format.specs.declared.catalogue.SdnaFault.TheVariants as sdna
use Rattle.bl_format.specs.declared.layout.LayoutFault.TheVariants as layout
use Rattle.bl_commands.specs.declared.ending.Ending.{Ending}
use Rattle.bl_commands.specs.declared.ending.Ending.TheVariants as endings
use Rattle.bl_commands.specs.Checks.{first_ending}
use Rattle.bl_shelf.specs.Calls.{Keeps}
use Rattle.bl_shelf.specs.Told.{Told, bytes_under}
use Rattle.bl_shelf.specs.declared.shelf.Shelf.{Ghosts}
use Rattle.bl_file.specs.declared.fault.OpenFault.{OpenFault}
use Rattle.bl_file.specs.declared.fault.OpenFault.TheVariants as opens
use Rattle.bl_file.specs.Opening.{open_fault}
use Rattle.bl_file.specs.Outlines as files
use Rattle.bl_run.specs.Blame.{BlamesRisen, IsNotUsage, MayMiss}
use Rattle.bl_run.specs.Input.{IsChecked, open_ending, opening_check, input_checks}
use Rattle.bl_run.specs.Opened.{IsUnopened}

-- ---- the ending of a fault

-- the fault that an ending may tell of: a file that isn't there, or a device; the sink and the words give none
abbrev pub IsOfFault : List ℕ → OpenFault → Ending → Type 0
IsOfFault file fault endings.NoCommand = ⊥
IsOfFault file fault endings.NoMemory = ⊤
IsOfFault file fault (endings.Absent name) = (name ≡ file) × (fault ≡ opens.Absent)
IsOfFault file fault endings.Device = fault ≡ opens.Device
IsOfFault file fault (endings.BadFile name why) = ⊤
IsOfFault file fault (endings.Missing lack) = ⊤
IsOfFault file fault (endings.FloatCast owner member) = ⊤
IsOfFault file fault (endings.PastLimit quantity count) = ⊤
IsOfFault file fault endings.Sink = ⊥

pub of_fault : (file : List ℕ) (fault : OpenFault) → IsOfFault file fault (open_ending file fault)
of_fault file opens.NoMemory = tt
of_fault file opens.Absent = (refl, refl)
of_fault file opens.Device = refl
of_fault file (opens.TooLarge n) = tt
of_fault file (opens.Head head.Compressed) = tt
of_fault file (opens.Head head.BadMagic) = tt
of_fault file (opens.Head (head.BadMark n)) = tt
of_fault file (opens.Head (head.BadVersion n)) = tt
of_fault file (opens.Block (block.Truncated n)) = tt
of_fault file (opens.Block (block.NegativeLength n)) = tt
of_fault file (opens.Block (block.NegativeIndex n)) = tt
of_fault file (opens.Block (block.NegativeCount n)) = tt
of_fault file (opens.Block (block.TooManyBlocks n)) = tt
of_fault file (opens.Block block.NoMemory) = tt
of_fault file opens.NoCatalogue = tt
of_fault file (opens.TwoCatalogues n) = tt
of_fault file (opens.Sdna (sdna.BadTag n)) = tt
of_fault file (opens.Sdna (sdna.CutShort n)) = tt
of_fault file (opens.Sdna (sdna.BadIndex n)) = tt
of_fault file (opens.Sdna (sdna.TwoTypes n)) = tt
of_fault file (opens.Sdna (sdna.TwoStructs n)) = tt
of_fault file (opens.Sdna sdna.NoMemory) = tt
of_fault file (opens.Layout (layout.BadName s k) owner member) = tt
of_fault file (opens.Layout (layout.BasicLength s k) owner member) = tt
of_fault file (opens.Layout (layout.Overrun s k) owner member) = tt
of_fault file (opens.Layout (layout.Cyclic s k) owner member) = tt
of_fault file (opens.Layout (layout.DuplicateMember s k) owner member) = tt
of_fault file (opens.Layout (layout.TooDeep n) owner member) = tt
of_fault file (opens.Layout (layout.TooManyLeaves n) owner member) = tt
of_fault file (opens.Layout (layout.TooLong n) owner member) = tt
of_fault file (opens.Layout layout.NoMemory owner member) = tt
of_fault file (opens.BadStruct n) = tt
of_fault file (opens.ShortBlock n) = tt

-- the words didn't give it
not_usage : (file : List ℕ) (fault : OpenFault) (e : Ending) → IsOfFault file fault e → IsNotUsage e
not_usage file fault endings.NoCommand is = is
not_usage file fault endings.NoMemory is = tt
not_usage file fault (endings.Absent name) is = tt
not_usage file fault endings.Device is = tt
not_usage file fault (endings.BadFile name why) is = tt
not_usage file fault (endings.Missing lack) is = tt
not_usage file fault (endings.FloatCast owner member) is = tt
not_usage file fault (endings.PastLimit quantity count) is = tt
not_usage file fault endings.Sink is = absurd is

-- a file that it says isn't held is this one
misses : (file : List ℕ) (fault : OpenFault) (e : Ending) → IsOfFault file fault e → MayMiss (λ name. name ≡ file) e
misses file fault endings.NoCommand is = absurd is
misses file fault endings.NoMemory is = tt
misses file fault (endings.Absent name) is = is.0
misses file fault endings.Device is = tt
misses file fault (endings.BadFile name why) is = tt
misses file fault (endings.Missing lack) is = tt
misses file fault (endings.FloatCast owner member) is = tt
misses file fault (endings.PastLimit quantity count) is = tt
misses file fault endings.Sink is = absurd is

-- the count that it blames is the one that the fault blames
blames : (file : List ℕ) (fault : OpenFault) (e : Ending) (f f' m m' : ℕ) → IsOfFault file fault e → files.BlamesRisen fault f f' m m' → BlamesRisen e m m' f f' 0 0
blames file fault endings.NoCommand f f' m m' is risen = absurd is
blames file fault endings.NoMemory f f' m m' is risen = tt
blames file fault (endings.Absent name) f f' m m' is risen = subst (λ (x : OpenFault). files.BlamesRisen x f f' m m') is.1 risen
blames file fault endings.Device f f' m m' is risen = subst (λ (x : OpenFault). files.BlamesRisen x f f' m m') is risen
blames file fault (endings.BadFile name why) f f' m m' is risen = tt
blames file fault (endings.Missing lack) f f' m m' is risen = tt
blames file fault (endings.FloatCast owner member) f f' m m' is risen = tt
blames file fault (endings.PastLimit quantity count) f f' m m' is risen = tt
blames file fault endings.Sink f f' m m' is risen = absurd is

-- ---- the first fault gives the ending of the check

checked_itself : (e : Ending) → IsChecked (Some e) e
checked_itself endings.NoCommand = refl
checked_itself endings.NoMemory = tt
checked_itself (endings.Absent file) = refl
checked_itself endings.Device = tt
checked_itself (endings.BadFile file fault) = refl
checked_itself (endings.Missing lack) = refl
checked_itself (endings.FloatCast owner member) = refl
checked_itself (endings.PastLimit quantity count) = refl
checked_itself endings.Sink = refl

first_told : (o : Option OpenFault) (file : List ℕ) (fault : OpenFault) → o ≡ Some fault → IsChecked (option_map (open_ending file) o) (open_ending file fault)
first_told o file fault is = rw is (checked_itself (open_ending file fault))

first_checked : (o : Option OpenFault) (file : List ℕ) (fault : OpenFault) → files.IsFirst o fault → IsChecked (option_map (open_ending file) o) (open_ending file fault)
first_checked o file opens.NoMemory is = tt
first_checked o file opens.Device is = tt
first_checked o file opens.Absent is = first_told o file opens.Absent is
first_checked o file (opens.TooLarge n) is = first_told o file (opens.TooLarge n) is
first_checked o file (opens.Head fault) is = first_told o file (opens.Head fault) is
first_checked o file (opens.Block fault) is = first_told o file (opens.Block fault) is
first_checked o file opens.NoCatalogue is = first_told o file opens.NoCatalogue is
first_checked o file (opens.TwoCatalogues n) is = first_told o file (opens.TwoCatalogues n) is
first_checked o file (opens.Sdna fault) is = first_told o file (opens.Sdna fault) is
first_checked o file (opens.Layout fault owner member) is = first_told o file (opens.Layout fault owner member) is
first_checked o file (opens.BadStruct n) is = first_told o file (opens.BadStruct n) is
first_checked o file (opens.ShortBlock n) is = first_told o file (opens.ShortBlock n) is

-- ---- a fault and the ending that tells of it, unless memory is wanted for that

abbrev Tells : List ℕ → OpenFault → Ending → Type 0
Tells file fault e = (e ≡ open_ending file fault) ⊎ (e ≡ endings.NoMemory)

told_of_fault : (file : List ℕ) (fault : OpenFault) (e : Ending) → Tells file fault e → IsOfFault file fault e
told_of_fault file fault e (inl is) = subst (IsOfFault file fault) (sym is) (of_fault file fault)
told_of_fault file fault e (inr none) = subst (IsOfFault file fault) (sym none) tt

pub told_not_usage : (file : List ℕ) (fault : OpenFault) (e : Ending) → Tells file fault e → IsNotUsage e
told_not_usage file fault e tells = not_usage file fault e (told_of_fault file fault e tells)

told_checked : (o : Option OpenFault) (file : List ℕ) (fault : OpenFault) (e : Ending) → Tells file fault e → files.IsFirst o fault → IsChecked (option_map (open_ending file) o) e
told_checked o file fault e (inl is) first = subst (IsChecked (option_map (open_ending file) o)) (sym is) (first_checked o file fault first)
told_checked o file fault e (inr none) first = subst (IsChecked (option_map (open_ending file) o)) (sym none) tt

opening_checked : (told : Option Told) (used : ℕ) (file : List ℕ) (fault : OpenFault) (e : Ending) → Tells file fault e
    → IfSome told (λ t. files.IsFirst (open_fault used (bytes_under file t)) fault) → IfSome told (λ t. IsChecked (opening_check used t.held file) e)
opening_checked None used file fault e tells first = tt
opening_checked (Some t) used file fault e tells first = told_checked (open_fault used (bytes_under file t)) file fault e tells first

-- the file isn't opened
pub unopened : {S : Type 0} (g : Ghosts S) (used : ℕ) (file : List ℕ) (fault : OpenFault) (e : Ending) (s s' : S) → Tells file fault e → Keeps g s s'
    → files.BlamesRisen fault (g.faults s) (g.faults s') (g.misses s) (g.misses s')
    → IfSome (g.told s) (λ t. files.IsFirst (open_fault used (bytes_under file t)) fault) → IsUnopened g used file s s' e
unopened g used file fault e s s' tells keeps risen first = record {
  blamed = record {
    misses = keeps.misses;
    faults = keeps.faults;
    blamed = blames file fault e _ _ _ _ (told_of_fault file fault e tells) risen;
  };
  missed = misses file fault e (told_of_fault file fault e tells);
  checked = opening_checked (g.told s) used file fault e tells first;
}

-- where no fault stands, the checks pass
pub input_passes : (told : Option Told) (file : List ℕ) → IfSome told (λ t. open_fault 0 (bytes_under file t) ≡ None) → IfSome told (λ t. first_ending (input_checks t.held file) ≡ None)
input_passes None file passes = tt
input_passes (Some t) file passes = rw passes refl
