-- Bytes that are put one after another.
use Rattle.std.proofs.Common.{◌≡◌, List, ℕ, [], ◌++◌, Option, Some, None, length, ap, sym, subst, ◌∙◌, append_assoc, option_map, arith}
use Rattle.std.proofs.lemmas.List.{append-nil, take_all}
use Rattle.bl_commands.specs.Texts.{Text}
use Rattle.bl_shelf.specs.Written.{Grows, GrowsByPrefix}

-- one text behind another
pub grown_twice : (a b : List ℕ) (w w1 w2 : Option Text) → Grows w a w1 → Grows w1 b w2 → Grows w (a ++ b) w2
grown_twice a b None w1 w2 first second = second ∙ ap (option_map (λ (x : List ℕ). x ++ b)) first
grown_twice a b (Some w) w1 w2 first second = second ∙ ap (option_map (λ (x : List ℕ). x ++ b)) first ∙ ap Some (append_assoc w a b)

-- nothing is put
pub same_grown : (w w' : Option Text) → w' ≡ w → Grows w [] w'
same_grown None w' same = same
same_grown (Some w) w' same = same ∙ ap Some (sym (append-nil w))

-- what is put whole is put up to its end
pub whole_put : (text : Text) (w w' : Option Text) → Grows w text w' → GrowsByPrefix w text w'
whole_put text w w' grows = (length text, subst (λ (x : Text). Grows w x w') (sym (take_all (length text) text (omega arith))) grows)
