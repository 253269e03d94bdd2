-- The opened files of which a draft is rendered: what is asked of them, and what a call leaves of them. This project's own.
use Rattle.std.specs.Prelude.{◌≡◌, All, List, length, map}
use Rattle.bl_selection.specs.declared.draft.Draft.{Draft}
use Rattle.bl_shelf.specs.declared.shelf.Shelf.{Ghosts as ShelfGhosts}
use Rattle.bl_file.specs.declared.outline.Opened.{Opened}
use Rattle.bl_file.specs.declared.outline.Outline.{Outline}
use Rattle.bl_file.specs.declared.payload.Payload.{Ghosts}
use Rattle.bl_file.specs.Calls.{Tells, IsOpen}
use Rattle.bl_file.specs.Outlines.{IsSound, StandsFor}
use Rattle.bl_draft.specs.Own.{IsSourceDraft}

-- an outline and a payload are those of an opened file, and a draft has nodes of it alone
pub record IsSource {S P : Type 0} (g : ShelfGhosts S) (h : Ghosts P) (s : S) (d : Draft) (o : Outline) (p : P) : Type 0 where
  pub sound : IsSound o
  pub draft : IsSourceDraft o d
  pub size : h.file_size p ≡ o.size
  pub held : IsOpen g h s p
  pub stands : Tells g h s p (λ b. StandsFor b o)

-- there is one opened file, and a draft has nodes of it alone
pub record AreOpen {S P : Type 0} (g : ShelfGhosts S) (h : Ghosts P) (s : S) (d : Draft) (xs : List (Opened P)) : Type 0 where
  pub one : length xs ≡ 1
  pub each : All (λ x. IsSource g h s d x.outline x.payload) xs

-- opened files are as before, and what is kept of them is so of the files that a shelf now holds
pub record SourcesStay {S P : Type 0} (g : ShelfGhosts S) (h : Ghosts P) (s' : S) (xs xs' : List (Opened P)) : Type 0 where
  pub outlines : map (λ x. x.outline) xs' ≡ map (λ x. x.outline) xs
  pub names : map (λ x. h.file_name x.payload) xs' ≡ map (λ x. h.file_name x.payload) xs
  pub sizes : map (λ x. h.file_size x.payload) xs' ≡ map (λ x. h.file_size x.payload) xs
  pub held : All (λ x. IsOpen g h s' x.payload) xs'
