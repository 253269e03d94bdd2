-- The command `fates IN CAT`: what becomes of each member of the structs of CAT's catalogue, by those of IN's, as text.
-- This project's own.
use Rattle.std.specs.Prelude.{◌≡◌, ◌⊎◌, ⊤, ℕ, List, [], length, Option, Some, None, Result}
use Rattle.bl_format.specs.Nodes.{File}
use Rattle.bl_commands.specs.declared.ending.Ending.{Ending}
use Rattle.bl_commands.specs.Texts.{Text}
use Rattle.bl_commands.specs.Checks.{first_ending}
use Rattle.bl_answers.specs.Fates.{fates_text}
use Rattle.bl_shelf.specs.Told.{Held}
use Rattle.bl_shelf.specs.Written.{Grows}
use Rattle.bl_file.specs.Opening.{file_in}
use Rattle.bl_run.specs.Input.{bytes_held, two_input_checks, AreReadable, IsHeldAs, HasInputCause}
use Rattle.bl_run.specs.Meaning.{Effect, Meaning, unless_ending}

-- the text of what becomes of the members of one file's structs, by those of another
abbrev pub fates_of : File → File → Text
fates_of from to = fates_text from.catalogue from.header.width to.catalogue to.header.width

-- the effect on the bytes of both inputs: the fates are printed
abbrev pub fates_effect : List ℕ → List ℕ → Effect
fates_effect b c = record { file = None; text = fates_of (file_in b) (file_in c) }

-- the first check of the inputs that gives an ending, or the effect
unfoldable pub fates_outcome : Held → List ℕ → List ℕ → Result Effect Ending
fates_outcome held input cat =
    unless_ending (first_ending (two_input_checks held input cat)) (fates_effect (bytes_held held input) (bytes_held held cat))

-- both inputs are held and accepted, the fates are printed, and what is held is as before
pub record AreFatesPrinted (held : Held) (held' : Option Held) (written written' : Option Text) (input cat : List ℕ) : Type 0 where
  pub from : File
  pub to : File
  pub source : IsHeldAs held input from
  pub target : IsHeldAs held cat to
  pub printed : Grows written (fates_of from to) written'
  pub kept : held' ≡ Some held

-- the meaning of the command with the words IN and CAT
unfoldable pub fates_meaning : List ℕ → List ℕ → Meaning
fates_meaning input cat = record {
  writes = [];
  may_miss = λ file. (file ≡ input) ⊎ (file ≡ cat);
  outcome = λ held. fates_outcome held input cat;
  reads_bytes = λ held. ⊤;
  accomplishes = λ held held' written written'. AreFatesPrinted held held' written written' input cat;
  can_be_done = λ held. AreReadable held input cat;
  has_cause = λ held ending.
      HasInputCause 0 held input ending ⊎ HasInputCause (length (bytes_held held input)) held cat ending;
}
