-- What a command's function promises of its meaning, in one word over the shelf and the sink. This project's own.
use Rattle.std.specs.Prelude.{◌≡◌, ◌⊎◌, ℕ, List, [], ◌∷◌, ◌++◌, take, Option, Some, None, Result, Ok, Err, IfSome, IsOkAnd}
use Rattle.bl_commands.specs.declared.ending.Ending.{Ending}
use Rattle.bl_commands.specs.declared.ending.Ending.TheVariants.{Device}
use Rattle.bl_commands.specs.Texts.{Text}
use Rattle.bl_shelf.specs.Calls.{IsQuiet}
use Rattle.bl_shelf.specs.History.{History, with_stage, with_commit}
use Rattle.bl_shelf.specs.Told.{Held, held_of}
use Rattle.bl_shelf.specs.Written.{Grows, GrowsByPrefix}
use Rattle.bl_shelf.specs.declared.shelf.Shelf.{Ghosts}
use Rattle.bl_shelf.specs.declared.sink.Sink.{Ghosts as SinkGhosts}
use Rattle.bl_run.specs.Blame.{IsBlamed, IsEndingOf, MayMiss}
use Rattle.bl_run.specs.Meaning.{Effect, Meaning, IsDone, files_with_effect}

-- ---- the history of a shelf

-- each of the files was staged and committed, one after another
abbrev pub with_files : List (List ℕ) → History → History
with_files [] history = history
with_files (name ∷ names) history = with_files names (with_commit (with_stage name history))

-- some of the files were staged, from the first on, and no commit took effect; or, where a device failed the last
-- commit, all took effect
abbrev pub IsHistoryLeft : List (List ℕ) → Ending → History → History → Type 0
IsHistoryLeft names ending history history' =
    ((n : ℕ) × (history' ≡ record { staged = history.staged ++ take n names; commits = history.commits }))
    ⊎ ((ending ≡ Device) × (history' ≡ with_files names history))

-- ---- what is left of an outcome that isn't done

-- the text that the outcome's effect puts
abbrev pub own_text : Result Effect Ending → Text
own_text (Ok effect) = effect.text
own_text (Err ending) = []

-- the files are as before; or, where a device failed the commit, they have the effect
abbrev pub IsLeft : Result Effect Ending → Held → Option Held → Ending → Type 0
IsLeft outcome held held' ending =
    (held' ≡ Some held)
    ⊎ ((ending ≡ Device) × IsOkAnd outcome (λ effect. held' ≡ Some (files_with_effect held effect)))

-- an ending is that of the outcome, the files are left, and a part of the effect's text is put
pub record IsEnded (outcome : Result Effect Ending) (held : Held) (held' : Option Held) (written written' : Option Text) (ending : Ending) : Type 0 where
  pub checked : IsEndingOf outcome ending
  pub left : IsLeft outcome held held' ending
  pub part : GrowsByPrefix written (own_text outcome) written'

-- ---- a command's function

-- the command is done: its files and no others were staged and committed, no count of faults rose, and where the shelf
-- tells, its outcome is done
pub record Does {S O : Type 0} (g : Ghosts S) (h : SinkGhosts O) (m : Meaning) (s s' : S) (o o' : O) : Type 0 where
  pub room : g.room s' ≡ None
  pub history : g.history s' ≡ with_files m.writes (g.history s)
  pub quiet : IsQuiet g s s'
  pub puts : h.faults o' ≡ h.faults o
  pub done : IfSome (g.told s) (λ t. m.reads_bytes t.held × IsDone (m.outcome t.held) t.held (held_of (g.told s')) (h.written o) (h.written o'))

-- the command ends so: no other files than its own were staged, the ending blames whom it names, and where the shelf
-- tells, it is that of the outcome
pub record Ends {S O : Type 0} (g : Ghosts S) (h : SinkGhosts O) (m : Meaning) (s s' : S) (o o' : O) (ending : Ending) : Type 0 where
  pub room : g.room s' ≡ None
  pub history : IsHistoryLeft m.writes ending (g.history s) (g.history s')
  pub blamed : IsBlamed g h s s' o o' ending
  pub missed : MayMiss m.may_miss ending
  pub put : (own : Text) × Grows (h.written o) own (h.written o')
  pub ended : IfSome (g.told s) (λ t. IsEnded (m.outcome t.held) t.held (held_of (g.told s')) (h.written o) (h.written o') ending)

-- the command is done, or ends
abbrev pub Obeys : {S O T : Type 0} → Ghosts S → SinkGhosts O → Meaning → S → S → O → O → Result T Ending → Type 0
Obeys g h m s s' o o' (Ok _) = Does g h m s s' o o'
Obeys g h m s s' o o' (Err ending) = Ends g h m s s' o o' ending
