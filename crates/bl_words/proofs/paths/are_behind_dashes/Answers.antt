use Rattle.std.proofs.Common.{rules, tests}
use Rattle.std.specs.Prelude.{◌==◌}
use Rattle.std.proofs.lemmas.Iterator.Splits.{YieldsList-from_slice_split}
use Rattle.std.proofs.lemmas.Iterator.Search.{all_from_yields_List}
use Rattle.bl_commands.specs.Commands.{is_behind_dash}
use Rattle.bl_words.proofs.paths.are_behind_dashes.Goals as goal

pub returns : goal.returns
returns c =
    all_from_yields_List is_behind_dash _ _ _ c.all.ensures.ran
    (YieldsList-from_slice_split _ (λ b. b == 45) c.args.text.now c.split.ensures.rest c.split.ensures.done c.split.ensures.closure (λ x r q k. search (rules, tests)))
    (λ x b q k. search rules)
