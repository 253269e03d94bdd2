-- What a render says of how much it wrote. This project's own.
use Rattle.std.specs.Prelude.{◌≡◌, ℕ, List, [], ◌∷◌, length, map}
use Rattle.std.specs.List.{zip}
use Rattle.bl_format.specs.declared.file.Head.{Head}
use Rattle.bl_format.specs.declared.raw.RawKind.{RawKind}
use Rattle.bl_selection.specs.declared.draft.Draft.{Draft}
use Rattle.bl_selection.specs.Carried.{carried_length}
use Rattle.bl_selection.specs.OutputSizes.{output_length}
use Rattle.bl_shelf.specs.declared.shelf.Shelf.{Ghosts as ShelfGhosts}
use Rattle.bl_file.specs.declared.outline.Outline.{Outline}
use Rattle.bl_file.specs.declared.payload.Payload.{Ghosts}
use Rattle.bl_file.specs.Calls.{Tells}
use Rattle.bl_file.specs.Opening.{file_in}
use Rattle.bl_writer.specs.declared.rendering.Totals.{Totals}
use Rattle.bl_draft.specs.Own.{entry_heads, outlined}
use Rattle.bl_writer.specs.Outputs.{selection_form}

-- the bytes of the payloads of a draft of a file's nodes, by some kinds of its raw nodes
abbrev pub carried_lengths : Outline → Draft → List RawKind → List ℕ
carried_lengths o d kinds =
    map (λ (p : RawKind × Head). carried_length (outlined o []) d.header d.catalogue p.0 p.1) (zip kinds (entry_heads o.nodes d.entries))

-- so many bytes are those of the written form of such a draft, by some kinds
abbrev pub IsFormSize : Outline → Draft → ℕ → Type 0
IsFormSize o d n =
    (kinds : List RawKind) × (length kinds ≡ length d.entries) × (n ≡ output_length d.header d.catalogue (carried_lengths o d kinds))

-- of a draft of an opened file's nodes: a block for each entry, and the bytes of its form, also where a shelf doesn't
-- tell the file
pub record AreTotals {S P : Type 0} (g : ShelfGhosts S) (h : Ghosts P) (s : S) (d : Draft) (o : Outline) (p : P) (t : Totals) : Type 0 where
  pub blocks : t.blocks ≡ length d.entries
  pub size : IsFormSize o d t.bytes
  pub bytes : Tells g h s p (λ b. t.bytes ≡ length (selection_form (file_in b ∷ []) d))
