-- An output that is staged before it is committed, and what a commit makes of it. This project's own.
use Rattle.std.specs.Prelude.{◌≡◌, ◌⊎◌, ℕ, List, Option, Some, None, option_map, Result, Ok, Err, IfSome, IsSome}
use Rattle.bl_commands.specs.declared.ending.Ending.{Ending}
use Rattle.bl_commands.specs.declared.ending.Ending.TheVariants.{Device}
use Rattle.bl_commands.specs.Texts.{Text}
use Rattle.bl_shelf.specs.Calls.{IsQuiet}
use Rattle.bl_shelf.specs.History.{with_stage, with_commit}
use Rattle.bl_shelf.specs.Told.{Told, held_of, abandon_in, commit_in}
use Rattle.bl_shelf.specs.Written.{Grows, GrowsByPrefix}
use Rattle.bl_shelf.specs.declared.shelf.Shelf.{Ghosts}
use Rattle.bl_shelf.specs.declared.sink.Sink.{Ghosts as SinkGhosts}
use Rattle.bl_run.specs.Blame.{IsShelfBlamed, IsBlamed, IsEndingOf, IsOfOutside, MayMiss}
use Rattle.bl_run.specs.Meaning.{Meaning}

-- the file and the text of a command's outcome are these, and the file is staged
pub record IsStaged (m : Meaning) (t : Told) (name : List ℕ) (line : Text) (told' : Option Told) : Type 0 where
  pub bytes : List ℕ
  pub read : m.reads_bytes t.held
  pub known : m.outcome t.held ≡ Ok (record { file = Some (record { name = name; bytes = bytes }); text = line })
  pub staged : told' ≡ Some (record { held = t.held; staged = Some (record { name = name; bytes = bytes }) })

-- the file that a command writes under a name is staged, and this is its line
pub record IsReady {S : Type 0} (g : Ghosts S) (m : Meaning) (name : List ℕ) (s s' : S) (line : Text) : Type 0 where
  pub room : IsSome (g.room s')
  pub history : g.history s' ≡ with_stage name (g.history s)
  pub quiet : IsQuiet g s s'
  pub told : IfSome (g.told s) (λ t. IsStaged m t name line (g.told s'))

-- nothing is staged, though the file may have been
pub record IsUnready {S : Type 0} (g : Ghosts S) (m : Meaning) (name : List ℕ) (s s' : S) (ending : Ending) : Type 0 where
  pub room : g.room s' ≡ None
  pub history : (g.history s' ≡ g.history s) ⊎ (g.history s' ≡ with_stage name (g.history s))
  pub held : held_of (g.told s') ≡ held_of (g.told s)
  pub blamed : IsShelfBlamed g s s' ending
  pub missed : MayMiss m.may_miss ending
  pub checked : IfSome (g.told s) (λ t. IsEndingOf (m.outcome t.held) ending)

-- the line is put, and what was staged is held
pub record IsCommitDone {S O : Type 0} (g : Ghosts S) (h : SinkGhosts O) (line : Text) (s s' : S) (o o' : O) : Type 0 where
  pub room : g.room s' ≡ None
  pub told : g.told s' ≡ option_map commit_in (g.told s)
  pub history : g.history s' ≡ with_commit (g.history s)
  pub quiet : IsQuiet g s s'
  pub line_put : Grows (h.written o) line (h.written o')
  pub puts : h.faults o' ≡ h.faults o

-- a part of the line is put, and what was staged is forgotten; or, where a device failed the commit, it is held
pub record IsCommitFailed {S O : Type 0} (g : Ghosts S) (h : SinkGhosts O) (line : Text) (s s' : S) (o o' : O) (ending : Ending) : Type 0 where
  pub room : g.room s' ≡ None
  pub left : ((g.told s' ≡ option_map abandon_in (g.told s)) × (g.history s' ≡ g.history s))
      ⊎ ((ending ≡ Device) × (g.told s' ≡ option_map commit_in (g.told s)) × (g.history s' ≡ with_commit (g.history s)))
  pub part : GrowsByPrefix (h.written o) line (h.written o')
  pub blamed : IsBlamed g h s s' o o' ending
  pub outside : IsOfOutside ending

-- what is staged is committed behind its line, or why it isn't
abbrev pub Commits : {S O T : Type 0} → Ghosts S → SinkGhosts O → Text → S → S → O → O → Result T Ending → Type 0
Commits g h line s s' o o' (Ok _) = IsCommitDone g h line s s' o o'
Commits g h line s s' o o' (Err ending) = IsCommitFailed g h line s s' o o' ending
