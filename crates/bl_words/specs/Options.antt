-- Which options a command has. This project's own.
use Rattle.std.specs.Prelude.{List}
use Rattle.bl_commands.specs.Commands.{Switch, convert_switches, fates_switches}
use Rattle.bl_words.specs.declared.options.Taker.{Taker}
use Rattle.bl_words.specs.declared.options.Taker.TheVariants.{Convert, Fates}

-- the options of a command that has some
abbrev pub switches_of : Taker → List Switch
switches_of Convert = convert_switches
switches_of Fates = fates_switches
