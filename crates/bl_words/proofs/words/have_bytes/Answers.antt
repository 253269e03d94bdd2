use Rattle.std.proofs.Common.{◌∙◌, sym, rules, string_bytes}
use Rattle.std.proofs.lemmas.Iterator.{YieldsList-from_slice}
use Rattle.std.proofs.lemmas.Iterator.Search.{all_from_yields_List}
use Rattle.std.proofs.lemmas.List.Folds.{list_all-map}
use Rattle.bl_commands.specs.Commands.{is_name_word}
use Rattle.bl_words.proofs.words.have_bytes.Goals as goal

pub returns : goal.returns
returns c =
    all_from_yields_List (λ w. is_name_word (string_bytes w)) _ _ _ c.all.ensures.ran
    (YieldsList-from_slice c.args.words.now cc) (λ x b q k. search rules)
    ∙ sym (list_all-map is_name_word string_bytes c.args.words.now)
