-- What addresses name from the entries of a draft, by what is known of its source and of its output.
use Rattle.std.specs.Prelude.{◌≡◌, refl, ℕ, Bool, false, ◌||◌, ◌==◌, if◌then◌else◌, List, get_or, Option, Some, None, option_and_then}
use Rattle.bl_format.specs.Nodes.{Mark, target_of}
use Rattle.bl_format.specs.Graph.{Target, Naming}
use Rattle.bl_selection.specs.Selection.{image_numbered}

-- what is known: the marks of the source's nodes and their images, and of each entry its group in the source, its group in
-- the output, and whether it is an ID
pub record Known : Type 0 where
  pub marks : List Mark
  pub images : List ℕ
  pub sources : List ℕ
  pub groups : List ℕ
  pub ids : List Bool

-- an entry as a pointer in entry e may name it: one of e's own group, or an ID
abbrev pub known_in_scope : Known → ℕ → ℕ → Option ℕ
known_in_scope k e to =
    if get_or k.groups to 0 == get_or k.groups e 0 || get_or k.ids to false then Some to else None

-- what an address names from entry e
abbrev pub known_names : Known → ℕ → Naming Target
known_names k e address =
    let target = target_of k.marks (get_or k.sources e 0) address in
    option_and_then (known_in_scope k e) (option_and_then (λ n. image_numbered (get_or k.images n 0)) target)

-- the address 0 names nothing
pub known_names-null : (k : Known) (e : ℕ) → known_names k e 0 ≡ None
unfolding target_of
known_names-null k e = refl
