use Rattle.std.proofs.Common.{◌≡◌}
use Rattle.std.specs.Prelude.{map}
use Rattle.std.specs.String.{string_bytes}
use Rattle.bl_commands.specs.Commands.{keepers_of}
use Rattle.bl_words.proofs.KeeperLemmas.{keepers_from}
use Rattle.bl_words.proofs.words.keepers_of.Given as goal

abbrev pub invariant-loop-word : goal.invariant-loop-word
invariant-loop-word l = keepers_from l.keepers.items l.words l.word-index ≡ keepers_of (map string_bytes l.words)
