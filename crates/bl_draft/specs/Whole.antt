-- Drafts that have all nodes of a file.
use Rattle.std.specs.Prelude.{◌≡◌, ℕ, suc, List, [], ◌∷◌, map}
use Rattle.bl_format.specs.Words.{numbers_below}
use Rattle.bl_selection.specs.declared.draft.Draft.{Draft}
use Rattle.bl_selection.specs.declared.draft.Entry.{Entry}
use Rattle.bl_selection.specs.declared.draft.Entry.TheVariants as entries

-- the entries of all of n nodes of the only source, in order
abbrev pub all_entries : ℕ → List Entry
all_entries n = map (entries.Source 0) (numbers_below n)

-- the images by which each of n nodes is its own image
abbrev pub all_images : ℕ → List ℕ
all_images n = map (λ k. suc k) (numbers_below n)

-- a draft has all of n nodes of the only source, each as its own image
pub record IsOfAll (n : ℕ) (d : Draft) : Type 0 where
  pub entries : d.entries ≡ all_entries n
  pub images : d.images ≡ all_images n ∷ []
