-- What any words mean is lawful.
pub mod Conversions
pub mod Convert
pub mod Fates
pub mod Schema
use Rattle.std.proofs.Common.{Option, Some, None, refl}
use Rattle.bl_commands.specs.declared.command.Command.{Command}
use Rattle.bl_commands.specs.declared.command.Command.TheVariants as commands
use Rattle.bl_run.specs.Commands.{meaning_of}
use Rattle.bl_run.specs.Meaning.{IsLawful, no_meaning}
use Rattle.bl_run.proofs.CommandLaws.Convert.{convert_lawful}
use Rattle.bl_run.proofs.CommandLaws.Fates.{fates_lawful}
use Rattle.bl_run.proofs.CommandLaws.Schema.{schema_lawful}

none_lawful : IsLawful no_meaning
none_lawful = record {
  own = λ held. tt;
  caused = λ held. refl;
  able = λ held can. absurd can;
  accomplished = λ held held' w w' bytes done. absurd done;
  written = λ held. tt;
}

pub all_lawful : (command : Option Command) → IsLawful (meaning_of command)
all_lawful None = none_lawful
all_lawful (Some (commands.Convert input out options)) = convert_lawful input out options.like options.width options.order
all_lawful (Some (commands.Append into lib out names)) = none_lawful
all_lawful (Some (commands.Link into lib out names)) = none_lawful
all_lawful (Some (commands.Resolve input out)) = none_lawful
all_lawful (Some (commands.Recount input out)) = none_lawful
all_lawful (Some (commands.Make seed n out)) = none_lawful
all_lawful (Some (commands.Schema input)) = schema_lawful input
all_lawful (Some (commands.Fates input cat renames)) = fates_lawful input cat
all_lawful (Some (commands.List input)) = none_lawful
all_lawful (Some (commands.Query input name path)) = none_lawful
all_lawful (Some (commands.Dump input kind)) = none_lawful
all_lawful (Some (commands.Edit input script out)) = none_lawful
all_lawful (Some (commands.Purge input out keepers)) = none_lawful
all_lawful (Some (commands.Unused input keepers)) = none_lawful
all_lawful (Some (commands.Split input out lib names)) = none_lawful
