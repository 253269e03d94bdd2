-- The commands that this program has: which these are, the meaning of each, and of a run's words. A new command has a line
-- in each of the two tables. This project's own.
pub mod Convert
pub mod Fates
pub mod Schema
use Rattle.std.specs.Prelude.{Bool, true, false, not, ◌||◌, List, map, String, Option, Some, None, is_some, option_and_then}
use Rattle.std.specs.String.{string_bytes}
use Rattle.std.specs.declared.alloc.Global.{Global}
use Rattle.bl_commands.specs.declared.command.Command.{Command}
use Rattle.bl_commands.specs.declared.command.Command.TheVariants as commands
use Rattle.bl_commands.specs.declared.command.ConvertOptions.{ConvertOptions}
use Rattle.bl_commands.specs.Commands.{command_of, when}
use Rattle.bl_run.specs.Meaning.{Meaning, no_meaning}
use Rattle.bl_run.specs.Commands.Convert.{convert_meaning}
use Rattle.bl_run.specs.Commands.Fates.{fates_meaning}
use Rattle.bl_run.specs.Commands.Schema.{schema_meaning}

-- convert is given no option but `--like`, `--width` and `--order`
abbrev pub has_form_alone : ConvertOptions → Bool
has_form_alone o = not (is_some o.head || is_some o.renames)

-- this program has the command
abbrev pub is_built : Command → Bool
is_built (commands.Convert input out options) = has_form_alone options
is_built (commands.Schema input) = true
is_built (commands.Fates input cat renames) = not (is_some renames)
is_built _ = false

-- a command, where this program has it
abbrev pub built : Command → Option Command
built command = when (is_built command) command

-- the meaning of a command that this program has
abbrev pub meaning_of : Option Command → Meaning
meaning_of (Some (commands.Convert input out options)) = convert_meaning input out options.like options.width options.order
meaning_of (Some (commands.Schema input)) = schema_meaning input
meaning_of (Some (commands.Fates input cat renames)) = fates_meaning input cat
meaning_of _ = no_meaning

-- the command that the words of a run spell, where this program has it
abbrev pub command_in : List (String Global) → Option Command
command_in words = option_and_then built (command_of (map string_bytes words))

-- what the words of a run mean
abbrev pub meaning_in : List (String Global) → Meaning
meaning_in words = meaning_of (command_in words)
