-- What a shelf was asked to change, which also a shelf says that doesn't tell its files. This project's own.
use Rattle.std.specs.Prelude.{◌≡◌, ◌⊎◌, ℕ, List, [], ◌∷◌, ◌++◌, Option, option_map}
use Rattle.bl_shelf.specs.Told.{Told, commit_in, abandon_in}
use Rattle.bl_shelf.specs.Causes.{next_count}

-- the names under which files were staged, the first one first, and how many commits took effect
pub record History : Type 0 where
  pub staged : List (List ℕ)
  pub commits : ℕ

-- nothing was staged yet
abbrev pub no_history : History
no_history = record { staged = []; commits = 0 }

-- a file was staged under one name more
abbrev pub with_stage : List ℕ → History → History
with_stage name h = record { staged = h.staged ++ (name ∷ []); commits = h.commits }

-- one commit more took effect
abbrev pub with_commit : History → History
with_commit h = record { staged = h.staged; commits = next_count h.commits }

-- a commit that failed took effect, or what was staged is forgotten
abbrev pub MayBeCommitted : Option Told → Option Told → History → History → Type 0
MayBeCommitted told told' history history' =
    ((told' ≡ option_map abandon_in told) × (history' ≡ history))
    ⊎ ((told' ≡ option_map commit_in told) × (history' ≡ with_commit history))
