-- A command as one value: which files it writes and may miss, what it does, what that accomplishes, when it can be done,
-- and why it refuses; all by what is held. This project's own.
use Rattle.std.specs.Prelude.{◌≡◌, ⊤, ℕ, List, [], ◌∷◌, Option, Some, None, Result, Ok, Err, IsOk, IfOk, IfErr, IsOkAnd}
use Rattle.bl_commands.specs.declared.ending.Ending.{Ending}
use Rattle.bl_commands.specs.declared.ending.Ending.TheVariants.{NoCommand, Absent, Device, Sink}
use Rattle.bl_commands.specs.Texts.{Text}
use Rattle.bl_shelf.specs.Told.{Held, Staged, files_with}
use Rattle.bl_shelf.specs.Written.{Grows}

-- what a command does: it holds a file, if it makes one, and puts a text
pub record Effect : Type 0 where
  pub file : Option Staged
  pub text : Text

-- the files with that of the effect among them
abbrev pub files_with_effect : Held → Effect → Held
files_with_effect held effect = files_with held effect.file

-- the names of the files that an effect holds
abbrev pub names_of_files : Option Staged → List (List ℕ)
names_of_files None = []
names_of_files (Some file) = file.name ∷ []

-- an effect, unless a check gives an ending
abbrev pub unless_ending : Option Ending → Effect → Result Effect Ending
unless_ending (Some ending) effect = Err ending
unless_ending None effect = Ok effect

-- the outcome is an effect, the files have it, and its text is put
abbrev pub IsDone : Result Effect Ending → Held → Option Held → Option Text → Option Text → Type 0
IsDone outcome held held' written written' =
    IsOkAnd outcome (λ effect. (held' ≡ Some (files_with_effect held effect)) × Grows written effect.text written')

-- the meaning of a command
pub record Meaning : Type 1 where
  -- the names of the files that it writes
  pub writes : List (List ℕ)
  -- which file it may find missing
  pub may_miss : List ℕ → Type 0
  -- the first check that gives an ending, or the effect
  pub outcome : Held → Result Effect Ending
  -- the files that it reads hold bytes, as all files do
  pub reads_bytes : Held → Type 0
  -- what the effect is, in terms of the format: by the files and the written text before and after
  pub accomplishes : Held → Option Held → Option Text → Option Text → Type 0
  -- the command finds what it needs
  pub can_be_done : Held → Type 0
  -- the files give the cause of an ending
  pub has_cause : Held → Ending → Type 0

-- an ending that an outcome may be: no device or sink gave it; a file that it says isn't there may be missing
abbrev pub IsOwnEnding : (List ℕ → Type 0) → Ending → Type 0
IsOwnEnding may_miss (Absent file) = may_miss file
IsOwnEnding may_miss Device = ⊥
IsOwnEnding may_miss Sink = ⊥
IsOwnEnding may_miss _ = ⊤

-- what a run needs of a meaning: its endings are the command's own and have their cause; what can be done has an effect;
-- that accomplishes what the command is for; it holds the files that the command writes
pub record IsLawful (m : Meaning) : Type 0 where
  pub own : (held : Held) → IfErr (m.outcome held) (IsOwnEnding m.may_miss)
  pub caused : (held : Held) → IfErr (m.outcome held) (m.has_cause held)
  pub able : (held : Held) → m.can_be_done held → IsOk (m.outcome held)
  pub accomplished : (held : Held) (held' : Option Held) (written written' : Option Text)
      → m.reads_bytes held → IsDone (m.outcome held) held held' written written' → m.accomplishes held held' written written'
  pub written : (held : Held) → IfOk (m.outcome held) (λ effect. names_of_files effect.file ≡ m.writes)

-- the meaning of words that spell no command: it is never done, and no file is looked at
abbrev pub no_meaning : Meaning
no_meaning = record {
  writes = [];
  may_miss = λ file. ⊥;
  outcome = λ held. Err NoCommand;
  reads_bytes = λ held. ⊤;
  accomplishes = λ held held' written written'. ⊥;
  can_be_done = λ held. ⊥;
  has_cause = λ held ending. ending ≡ NoCommand;
}
