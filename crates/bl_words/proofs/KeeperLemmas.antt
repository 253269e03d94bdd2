-- The keepers of words, one word after another.
use Rattle.std.proofs.Common.{◌≡◌, ℕ, ◌+◌, ◌≤◌, ◌<◌, List, [], ◌∷◌, ◌++◌, length, get_or, drop, Option, Some, None, refl, ap, ◌∙◌, sym, append_assoc}
use Rattle.std.specs.Prelude.{map, option_map, option_and_then, String}
use Rattle.std.specs.String.{string_bytes}
use Rattle.std.specs.declared.alloc.Global.{Global}
use Rattle.std.proofs.lemmas.List.{drop_all, drop_more, append-nil}
use Rattle.bl_commands.specs.declared.keeper.Keeper.{Keeper}
use Rattle.bl_commands.specs.Commands.{keeper_word, keepers_of}

-- some keepers, and behind them those of words from a place on
abbrev pub keepers_from : List Keeper → List (String Global) → ℕ → Option (List Keeper)
keepers_from done words k = option_map (λ ks. done ++ ks) (keepers_of (map string_bytes (drop k words)))

at_place : (words : List (String Global)) (k : ℕ) (w : String Global) → k < length words → w ≡ get_or words k w
    → drop k words ≡ w ∷ drop (k + 1) words
at_place words k w lt is = drop_more words k w lt ∙ ap (λ x. x ∷ drop (k + 1) words) (sym is)

after_one : (done : List Keeper) (keeper : Keeper) (o : Option (List Keeper))
    → option_map (λ ks. done ++ ks) (option_map (λ ks. keeper ∷ ks) o) ≡ option_map (λ ks. (done ++ keeper ∷ []) ++ ks) o
after_one done keeper None = refl
after_one done keeper (Some ks) = ap Some (sym (append_assoc done (keeper ∷ []) ks))

by_word : (done : List Keeper) (keeper : Keeper) (o : Option Keeper) (rest : Option (List Keeper)) → o ≡ Some keeper
    → option_map (λ ks. done ++ ks) (option_and_then (λ k. option_map (λ ks. k ∷ ks) rest) o) ≡ option_map (λ ks. (done ++ keeper ∷ []) ++ ks) rest
by_word done keeper o rest is = rw is (after_one done keeper rest)

pub keepers_next : (words : List (String Global)) (k : ℕ) (w : String Global) (done : List Keeper) (keeper : Keeper)
    → k < length words → w ≡ get_or words k w → keeper_word (string_bytes w) ≡ Some keeper
    → keepers_from done words k ≡ keepers_from (done ++ keeper ∷ []) words (k + 1)
unfolding keepers_of
keepers_next words k w done keeper lt is says =
    rw (at_place words k w lt is) (by_word done keeper (keeper_word (string_bytes w)) (keepers_of (map string_bytes (drop (k + 1) words))) says)

pub keepers_none : (words : List (String Global)) (k : ℕ) (w : String Global) (done : List Keeper)
    → k < length words → w ≡ get_or words k w → keeper_word (string_bytes w) ≡ None → keepers_from done words k ≡ None
unfolding keepers_of
keepers_none words k w done lt is says = rw (at_place words k w lt is, says) refl

pub keepers_all : (words : List (String Global)) (k : ℕ) (done : List Keeper) → length words ≤ k → keepers_from done words k ≡ Some done
unfolding keepers_of
keepers_all words k done le = rw (drop_all k words le) (ap Some (append-nil done))

pub keepers_start : (words : List (String Global)) → keepers_from [] words 0 ≡ keepers_of (map string_bytes words)
keepers_start words = by_option (keepers_of (map string_bytes words))
  where
    by_option : (o : Option (List Keeper)) → option_map (λ ks. [] ++ ks) o ≡ o
    by_option None = refl
    by_option (Some ks) = refl
