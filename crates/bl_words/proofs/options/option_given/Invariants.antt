use Rattle.std.proofs.Common.{◌≡◌, length}
use Rattle.std.specs.Prelude.{map}
use Rattle.std.specs.String.{string_bytes}
use Rattle.bl_commands.specs.Commands.{option_given}
use Rattle.bl_words.proofs.options.option_given.Given as goal

abbrev pub invariant-loop-first : goal.invariant-loop-first
invariant-loop-first l =
    option_given l.fn.name (map string_bytes l.rest) ≡ option_given l.fn.name (map string_bytes l.fn.words)

abbrev pub decreases-loop-first : goal.decreases-loop-first
decreases-loop-first l = length l.rest
