use Rattle.std.proofs.Common.{ℕ, List, [], ap, length}
use Rattle.bl_selection.proofs.DraftFacts.{images-one}
use Rattle.bl_draft.specs.Own.{outlined}
use Rattle.bl_writer.proofs.rendering.render_source.Goals as goal

pub is_of_all-requires : goal.is_of_all-requires
is_of_all-requires g c =
    ap (λ (rows : List (List ℕ)). length rows) (images-one (outlined c.args.outline.now []) c.args.draft.now c.requires.source.draft.well_formed)
