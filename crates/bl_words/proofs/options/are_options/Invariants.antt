use Rattle.std.proofs.Common.{◌≡◌, length}
use Rattle.std.specs.Prelude.{map}
use Rattle.std.specs.String.{string_bytes}
use Rattle.bl_commands.specs.Commands.{are_options}
use Rattle.bl_words.specs.Options.{switches_of}
use Rattle.bl_words.proofs.options.are_options.Given as goal

abbrev pub invariant-loop-name : goal.invariant-loop-name
invariant-loop-name l =
    are_options (switches_of l.fn.taker) (map string_bytes l.rest)
    ≡ are_options (switches_of l.fn.taker) (map string_bytes l.fn.words)

abbrev pub decreases-loop-name : goal.decreases-loop-name
decreases-loop-name l = length l.rest
