-- What a render of one opened file's draft leaves, and what is known before anything is read. This project's own.
use Rattle.std.specs.Prelude.{◌≡◌, ◌≤◌, ℕ, List, [], ◌∷◌, length, Result, IfOk, OnOk, option_map}
use Rattle.bl_format.specs.Limits.{most_output_nodes}
use Rattle.bl_selection.specs.declared.draft.Draft.{Draft}
use Rattle.bl_shelf.specs.declared.shelf.Shelf.{Ghosts as ShelfGhosts}
use Rattle.bl_file.specs.declared.outline.Outline.{Outline}
use Rattle.bl_file.specs.declared.payload.Payload.{Ghosts}
use Rattle.bl_file.specs.Calls.{Tells}
use Rattle.bl_file.specs.Opening.{file_in}
use Rattle.bl_draft.specs.declared.prepared.Prepared.{Prepared}
use Rattle.bl_draft.specs.Structs.{HasNoClash}
use Rattle.bl_draft.specs.Whole.{IsOfAll}
use Rattle.bl_writer.specs.declared.fault.WriteFault.{WriteFault}
use Rattle.bl_writer.specs.declared.rendering.Totals.{Totals}
use Rattle.bl_writer.specs.Calls.{CountsWrites, HoldsFrom, RefusesFirst, Stages}
use Rattle.bl_writer.specs.Faults.{KeepsLimits}
use Rattle.bl_writer.specs.Outputs.{selection_form}
use Rattle.bl_writer.specs.Rendering.{staged_as}
use Rattle.bl_writer.specs.Totals.{AreTotals}

-- a draft has all nodes of a file, each as its own image, under the file's own catalogue and width
pub record IsOwn (o : Outline) (d : Draft) : Type 0 where
  pub all : IsOfAll (length o.nodes) d
  pub catalogue : d.catalogue ≡ o.layout.catalogue
  pub width : d.header.width ≡ o.header.width

-- a prepared draft has few enough nodes, and no float that would become another number
pub record IsChecked (x : Prepared) : Type 0 where
  pub no_clash : HasNoClash x.outline.now x.draft.now
  pub few : length x.draft.now.entries ≤ most_output_nodes

-- what a render of a draft of one opened file leaves, and what it answers
pub record HasRendered {S P : Type 0} (g : ShelfGhosts S) (h : Ghosts P) (name : List ℕ) (d : Draft) (o : Outline) (s s' : S) (p p' : P)
    (result : Result Totals WriteFault) : Type 0 where
  pub staged : OnOk result (Tells g h s p (λ b. g.told s' ≡ option_map (staged_as name (selection_form (file_in b ∷ []) d)) (g.told s)))
  pub stages : Stages g name s s' result
  pub totals : IfOk result (AreTotals g h s d o p)
  pub limits : KeepsLimits g h s d o p result
  pub first : RefusesFirst g s s' result
  pub holds : HoldsFrom g h s s' p p'
  pub cause : CountsWrites g s s' result
