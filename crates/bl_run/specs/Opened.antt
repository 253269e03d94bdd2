-- The input of a command, as it is opened, and why it isn't. This project's own.
use Rattle.std.specs.Prelude.{◌≡◌, ℕ, List, None, IfSome}
use Rattle.bl_commands.specs.declared.ending.Ending.{Ending}
use Rattle.bl_commands.specs.Checks.{first_ending}
use Rattle.bl_shelf.specs.declared.shelf.Shelf.{Ghosts as ShelfGhosts}
use Rattle.bl_file.specs.declared.outline.Outline.{Outline}
use Rattle.bl_file.specs.declared.payload.Payload.{Ghosts}
use Rattle.bl_file.specs.Calls.{IsOpen, Tells}
use Rattle.bl_file.specs.Outlines.{IsSound, StandsFor}
use Rattle.bl_run.specs.Blame.{IsShelfBlamed, MayMiss}
use Rattle.bl_run.specs.Input.{IsChecked, input_checks, opening_check}

-- the file under a name is opened: it is sound, and where the shelf tells, it stands for the file's bytes, which pass all
-- checks
pub record IsInput {S P : Type 0} (g : ShelfGhosts S) (h : Ghosts P) (name : List ℕ) (s : S) (o : Outline) (p : P) : Type 0 where
  pub sound : IsSound o
  pub named : h.file_name p ≡ name
  pub size : h.file_size p ≡ o.size
  pub held : IsOpen g h s p
  pub stands : Tells g h s p (λ b. StandsFor b o)
  pub passes : IfSome (g.told s) (λ t. first_ending (input_checks t.held name) ≡ None)

-- the file under a name isn't opened, behind so many bytes: where the shelf tells, the ending is that of its check
pub record IsUnopened {S : Type 0} (g : ShelfGhosts S) (used : ℕ) (name : List ℕ) (s s' : S) (ending : Ending) : Type 0 where
  pub blamed : IsShelfBlamed g s s' ending
  pub missed : MayMiss (λ file. file ≡ name) ending
  pub checked : IfSome (g.told s) (λ t. IsChecked (opening_check used t.held name) ending)
