-- What the clauses of a run say: of its status, its files and its lines. This project's own.
use Rattle.std.specs.Prelude.{◌≡◌, ◌≢◌, ◌⊎◌, ℕ, ◌≤◌, ◌==◌, if◌then◌else◌, List, [], ◌++◌, length, take, Option, Some, None, Result, Ok, Err, IsOkAnd}
use Rattle.bl_commands.specs.declared.ending.Ending.{Ending}
use Rattle.bl_commands.specs.declared.ending.Ending.TheVariants.{NoMemory, Absent, Device}
use Rattle.bl_commands.specs.declared.command.Command.{Command}
use Rattle.bl_commands.specs.Texts.{Text, status_of, fault_line}
use Rattle.bl_shelf.specs.Causes.{Rose}
use Rattle.bl_shelf.specs.Calls.{IsQuiet}
use Rattle.bl_shelf.specs.History.{History}
use Rattle.bl_shelf.specs.Told.{Held}
use Rattle.bl_shelf.specs.Written.{Grows, GrowsByPrefix}
use Rattle.bl_shelf.specs.declared.shelf.Shelf.{Ghosts}
use Rattle.bl_shelf.specs.declared.sink.Sink.{Ghosts as SinkGhosts}
use Rattle.bl_run.specs.Meaning.{Effect, Meaning, files_with_effect}
use Rattle.bl_run.specs.Obeying.{own_text, with_files}

-- ---- the status

-- 0, or 2 to 10; 2 comes only where the words spell no command that this program has, and then nothing else but 3
pub record IsStatus (command : Option Command) (status : ℕ) : Type 0 where
  pub bounds : (status ≡ 0) ⊎ ((2 ≤ status) × (status ≤ 10))
  pub usage : status ≡ 2 → command ≡ None
  pub unspelled : command ≡ None → (status ≡ 2) ⊎ (status ≡ 3)

-- The status is that of the outcome, unless memory or a device ended the run, or the sink failed an effect. Where the
-- outcome is an ending and the sink fails its line, the status stays.
abbrev pub IsStatusOf : Result Effect Ending → ℕ → Type 0
IsStatusOf (Ok effect) status = (status ≡ 0) ⊎ (status ≡ 3) ⊎ (status ≡ 5) ⊎ (status ≡ 10)
IsStatusOf (Err ending) status = (status ≡ status_of ending) ⊎ (status ≡ 3) ⊎ (status ≡ 5)

-- whom a status blames, of any shelf and sink: after 0 no count of faults has risen
pub record IsBlamedFor {S O : Type 0} (g : Ghosts S) (h : SinkGhosts O) (s s' : S) (o o' : O) (status : ℕ) : Type 0 where
  pub quiet : status ≡ 0 → IsQuiet g s s' × (h.faults o' ≡ h.faults o)
  pub absent : status ≡ 4 → Rose (g.misses s) (g.misses s')
  pub device : status ≡ 5 → Rose (g.faults s) (g.faults s')
  pub sink : status ≡ 10 → Rose (h.faults o) (h.faults o')

-- ---- what is left

-- after another status than 0 the files are as before; or, after 3 or 5 and where the shelf's faults rose, they have
-- the effect, since the commit itself failed
abbrev pub LeavesFiles : Result Effect Ending → ℕ → Held → Option Held → ℕ → ℕ → Type 0
LeavesFiles outcome status held held' faults faults' =
    (held' ≡ Some held)
    ⊎ (((status ≡ 3) ⊎ (status ≡ 5)) × Rose faults faults'
    × IsOkAnd outcome (λ effect. held' ≡ Some (files_with_effect held effect)))

-- after 0 just the command's files were staged and committed; after another status some of them may have been staged,
-- and none committed but as above
abbrev pub Writes : List (List ℕ) → ℕ → History → History → ℕ → ℕ → Type 0
Writes names status history history' faults faults' =
    ((status ≡ 0) × (history' ≡ with_files names history))
    ⊎ ((status ≢ 0) × ((n : ℕ) × (history' ≡ record { staged = history.staged ++ take n names; commits = history.commits })))
    ⊎ (((status ≡ 3) ⊎ (status ≡ 5)) × Rose faults faults' × (history' ≡ with_files names history))

-- ---- lines

-- the line that tells of an outcome, where it is an ending
abbrev pub outcome_line : Result Effect Ending → Text
outcome_line (Ok effect) = []
outcome_line (Err ending) = fault_line ending

-- the line that tells what ended a run, by its status; of a sink that failed nothing is told
abbrev pub ending_line : Result Effect Ending → ℕ → Text
ending_line outcome status =
    if status == 3 then fault_line NoMemory else
    if status == 5 then fault_line Device else
    outcome_line outcome

-- A part of the effect's own text is put, and then the line that tells what ended the run. That is cut only
-- where memory is wanted or the sink's faults rose.
pub record PutsLines (outcome : Result Effect Ending) (status puts puts' : ℕ) (written written' : Option Text) : Type 0 where
  pub own : ℕ
  pub told : ℕ
  pub lines : Grows written (take own (own_text outcome) ++ take told (ending_line outcome status)) written'
  pub whole : (status ≡ 3) ⊎ (Rose puts puts' ⊎ (length (ending_line outcome status) ≤ told))

-- after 4 the last line says of a file that the command may miss that it isn't there; it is cut only where the sink's
-- faults rose
pub record TellsAbsent (m : Meaning) (puts puts' : ℕ) (written written' : Option Text) : Type 0 where
  pub file : List ℕ
  pub missed : m.may_miss file
  pub own : Text
  pub told : ℕ
  pub line : Grows written (own ++ take told (fault_line (Absent file))) written'
  pub whole : Rose puts puts' ⊎ (length (fault_line (Absent file)) ≤ told)

-- ---- how a run ends

-- the line of an ending is put; cut only where the sink's faults rose
pub record PutsEnding (ending : Ending) (puts puts' : ℕ) (written written' : Option Text) : Type 0 where
  pub part : GrowsByPrefix written (fault_line ending) written'
  pub whole : Rose puts puts' ⊎ Grows written (fault_line ending) written'

-- an ending's status is answered and its line put; or memory is wanted, and nothing put
abbrev pub Reports : Ending → ℕ → ℕ → ℕ → Option Text → Option Text → Type 0
Reports ending status puts puts' written written' =
    ((status ≡ status_of ending) × PutsEnding ending puts puts' written written') ⊎ ((status ≡ 3) × (written' ≡ written))

-- a run that is done answers 0 and puts nothing more; any other reports its ending
abbrev pub Concludes : {T : Type 0} → Result T Ending → ℕ → ℕ → ℕ → Option Text → Option Text → Type 0
Concludes (Ok _) status puts puts' written written' = (status ≡ 0) × (puts' ≡ puts) × (written' ≡ written)
Concludes (Err ending) status puts puts' written written' = Reports ending status puts puts' written written'
