-- Too few words for three files spell nothing.
use Rattle.std.proofs.Common.{◌≡◌, ◌<◌, List, [], ◌∷◌, length, None, refl, arith}
use Rattle.std.specs.Prelude.{map, String}
use Rattle.std.specs.String.{string_bytes}
use Rattle.std.specs.declared.alloc.Global.{Global}
use Rattle.bl_commands.specs.declared.command.Command.{Command}
use Rattle.bl_commands.specs.Commands.{Word, merge_words, split_words}

pub few_to_merge : (command : Word → Word → Word → List Word → Command) (words : List (String Global))
    → length words < 3 → merge_words command (map string_bytes words) ≡ None
few_to_merge command [] few = refl
few_to_merge command (a ∷ []) few = refl
few_to_merge command (a ∷ b ∷ []) few = refl
few_to_merge command (a ∷ b ∷ c ∷ words) few = absurd (omega (arith, few))

pub few_to_split : (words : List (String Global)) → length words < 3 → split_words (map string_bytes words) ≡ None
few_to_split [] few = refl
few_to_split (a ∷ []) few = refl
few_to_split (a ∷ b ∷ []) few = refl
few_to_split (a ∷ b ∷ c ∷ words) few = absurd (omega (arith, few))
