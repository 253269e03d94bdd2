-- Whom an ending blames, and what it may be: by the counts of the shelf and the sink, and by the command. This project's own.
use Rattle.std.specs.Prelude.{◌≡◌, ◌⊎◌, ⊤, ℕ, ◌≤◌, List, Option, Some, None, Result, Err, IsOk, IfErr}
use Rattle.bl_commands.specs.declared.ending.Ending.{Ending}
use Rattle.bl_commands.specs.declared.ending.Ending.TheVariants.{NoCommand, NoMemory, Absent, Device, Sink}
use Rattle.bl_commands.specs.declared.command.Command.{Command}
use Rattle.bl_shelf.specs.Causes.{Rose}
use Rattle.bl_shelf.specs.declared.shelf.Shelf.{Ghosts}
use Rattle.bl_shelf.specs.declared.sink.Sink.{Ghosts as SinkGhosts}
use Rattle.bl_run.specs.Meaning.{Effect}

-- the count that an ending blames has risen: of misses, of the shelf's faults, of the sink's
abbrev pub BlamesRisen : Ending → ℕ → ℕ → ℕ → ℕ → ℕ → ℕ → Type 0
BlamesRisen (Absent file) misses misses' faults faults' puts puts' = Rose misses misses'
BlamesRisen Device misses misses' faults faults' puts puts' = Rose faults faults'
BlamesRisen Sink misses misses' faults faults' puts puts' = Rose puts puts'
BlamesRisen _ misses misses' faults faults' puts puts' = ⊤

-- no count of a shelf has fallen, and that which an ending blames has risen; it doesn't blame a sink
pub record IsShelfBlamed {S : Type 0} (g : Ghosts S) (s s' : S) (ending : Ending) : Type 0 where
  pub misses : g.misses s ≤ g.misses s'
  pub faults : g.faults s ≤ g.faults s'
  pub blamed : BlamesRisen ending (g.misses s) (g.misses s') (g.faults s) (g.faults s') 0 0

-- no count has fallen, and that which an ending blames has risen
pub record IsBlamed {S O : Type 0} (g : Ghosts S) (h : SinkGhosts O) (s s' : S) (o o' : O) (ending : Ending) : Type 0 where
  pub misses : g.misses s ≤ g.misses s'
  pub faults : g.faults s ≤ g.faults s'
  pub puts : h.faults o ≤ h.faults o'
  pub blamed : BlamesRisen ending (g.misses s) (g.misses s') (g.faults s) (g.faults s') (h.faults o) (h.faults o')

-- an ending is the outcome's, unless memory or a device gave it; the sink gives one only where there is an effect
abbrev pub IsEndingOf : Result Effect Ending → Ending → Type 0
IsEndingOf outcome NoMemory = ⊤
IsEndingOf outcome Device = ⊤
IsEndingOf outcome Sink = IsOk outcome
IsEndingOf outcome ending = outcome ≡ Err ending

-- a file that an ending says isn't there is one that may be missing
abbrev pub MayMiss : (List ℕ → Type 0) → Ending → Type 0
MayMiss may_miss (Absent file) = may_miss file
MayMiss may_miss _ = ⊤

-- memory or the sink gave the ending
abbrev pub IsOfPut : Ending → Type 0
IsOfPut NoMemory = ⊤
IsOfPut Sink = ⊤
IsOfPut _ = ⊥

-- memory, a device or the sink gave the ending
abbrev pub IsOfOutside : Ending → Type 0
IsOfOutside NoMemory = ⊤
IsOfOutside Device = ⊤
IsOfOutside Sink = ⊤
IsOfOutside _ = ⊥

-- the words didn't give the ending
abbrev pub IsNotUsage : Ending → Type 0
IsNotUsage NoCommand = ⊥
IsNotUsage _ = ⊤

-- words that spell no command end so, unless memory is wanted; others don't
abbrev pub IsUsage : {T : Type 0} → Option Command → Result T Ending → Type 0
IsUsage None result = (result ≡ Err NoCommand) ⊎ (result ≡ Err NoMemory)
IsUsage (Some command) result = IfErr result IsNotUsage
