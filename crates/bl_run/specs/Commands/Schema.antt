-- The command `schema IN`: the header of IN and the structs of its catalogue as text. This project's own.
use Rattle.std.specs.Prelude.{◌≡◌, ⊤, ℕ, List, [], Option, Some, None, Result}
use Rattle.std.specs.FinMap.{get}
use Rattle.bl_format.specs.Nodes.{File}
use Rattle.bl_commands.specs.declared.ending.Ending.{Ending}
use Rattle.bl_commands.specs.Texts.{Text}
use Rattle.bl_commands.specs.Checks.{first_ending}
use Rattle.bl_answers.specs.Schema.{schema_text}
use Rattle.bl_shelf.specs.Told.{Held}
use Rattle.bl_shelf.specs.Written.{Grows}
use Rattle.bl_file.specs.Opening.{header_in, catalogue_in}
use Rattle.bl_run.specs.Input.{bytes_held, input_checks, IsAcceptedFile, IsReadable, HasInputCause}
use Rattle.bl_run.specs.Meaning.{Effect, Meaning, unless_ending}

-- the effect on the input's bytes: the header and the catalogue's structs are printed
abbrev pub schema_effect : List ℕ → Effect
schema_effect b = record { file = None; text = schema_text (header_in b) (catalogue_in b) }

-- the first check of the input that gives an ending, or the effect
unfoldable pub schema_outcome : Held → List ℕ → Result Effect Ending
schema_outcome held input =
    unless_ending (first_ending (input_checks held input)) (schema_effect (bytes_held held input))

-- the input is held and accepted, its header and catalogue are printed, and what is held is as before
pub record IsPrinted (held : Held) (held' : Option Held) (written written' : Option Text) (input : List ℕ) : Type 0 where
  pub old : List ℕ
  pub file : File
  pub input_held : get held input ≡ Some old
  pub accepted : IsAcceptedFile old file
  pub printed : Grows written (schema_text file.header file.catalogue) written'
  pub kept : held' ≡ Some held

-- the meaning of the command with the word IN
unfoldable pub schema_meaning : List ℕ → Meaning
schema_meaning input = record {
  writes = [];
  may_miss = λ file. file ≡ input;
  outcome = λ held. schema_outcome held input;
  reads_bytes = λ held. ⊤;
  accomplishes = λ held held' written written'. IsPrinted held held' written written' input;
  can_be_done = λ held. IsReadable held input;
  has_cause = λ held ending. HasInputCause 0 held input ending;
}
