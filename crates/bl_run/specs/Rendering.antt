-- What a command does that writes the output of a draft, and how a fault of an output that isn't rendered ends a run. This
-- project's own.
use Rattle.std.specs.Prelude.{◌≡◌, ℕ, List, [], ◌∷◌, length, Some, IfSome}
use Rattle.bl_format.specs.declared.catalogue.Catalogue.{Catalogue}
use Rattle.bl_format.specs.Nodes.{File}
use Rattle.bl_selection.specs.declared.draft.Draft.{Draft}
use Rattle.bl_commands.specs.declared.ending.Ending.{Ending}
use Rattle.bl_commands.specs.declared.ending.Ending.TheVariants as endings
use Rattle.bl_commands.specs.declared.ending.Quantity.TheVariants.{OutputBlocks, BlockBytes, FileBytes}
use Rattle.bl_commands.specs.Texts.{summary_line}
use Rattle.bl_answers.specs.Writing.{float_cast_ending, writing_refusal}
use Rattle.bl_shelf.specs.Told.{Held}
use Rattle.bl_shelf.specs.declared.shelf.Shelf.{Ghosts}
use Rattle.bl_file.specs.Opening.{file_in}
use Rattle.bl_writer.specs.declared.fault.WriteFault.{WriteFault}
use Rattle.bl_writer.specs.declared.fault.WriteFault.TheVariants as faults
use Rattle.bl_writer.specs.Outputs.{selection_form}
use Rattle.bl_run.specs.Input.{bytes_held}
use Rattle.bl_run.specs.Meaning.{Effect, Meaning, unless_ending}

-- what is written of a draft of some files' nodes, under a name, and the line that tells of it
abbrev pub draft_effect : List File → Draft → List ℕ → Effect
draft_effect files d name = record {
  file = Some (record { name = name; bytes = selection_form files d });
  text = summary_line (length d.entries) (length (selection_form files d));
}

-- what a command reads are bytes, and it writes a draft of a file's nodes under a name, unless that is refused
pub record IsDraftWritten (m : Meaning) (held : Held) (f : File) (d : Draft) (name : List ℕ) : Type 0 where
  pub read : m.reads_bytes held
  pub known : m.outcome held ≡ unless_ending (writing_refusal (f ∷ []) d) (draft_effect (f ∷ []) d name)

-- a command that reads a file writes a draft of its nodes under a name, where the shelf tells
pub record WritesDraft {S : Type 0} (g : Ghosts S) (m : Meaning) (input name : List ℕ) (s : S) (d : Draft) : Type 0 where
  pub missed : m.may_miss input
  pub told : IfSome (g.told s) (λ t. IsDraftWritten m t.held (file_in (bytes_held t.held input)) d name)

-- how a fault of an output ends a run, by its catalogue and the name of the file that is read
abbrev pub write_ending : Catalogue → List ℕ → WriteFault → Ending
write_ending c file (faults.FloatCast t member) = float_cast_ending c (t, member)
write_ending c file (faults.TooManyBlocks n) = endings.PastLimit OutputBlocks n
write_ending c file (faults.BlockTooLong n) = endings.PastLimit BlockBytes n
write_ending c file (faults.FileTooLarge n) = endings.PastLimit FileBytes n
write_ending c file faults.Absent = endings.Absent file
write_ending c file faults.Device = endings.Device
write_ending c file faults.NoMemory = endings.NoMemory
