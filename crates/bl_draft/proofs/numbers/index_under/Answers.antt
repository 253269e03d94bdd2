use Rattle.std.proofs.Common.{ap, sym, ◌∙◌}
use Rattle.std.specs.Prelude.{unwrap_or}
use Rattle.bl_format.specs.Layout.{struct_named}
use Rattle.bl_selection.proofs.CellViews.{index_under-some}
use Rattle.bl_draft.proofs.numbers.index_under.Goals as goal

pub returns : goal.returns
returns c k has =
    c.unwrap_or.ensures
    ∙ ap (λ o. unwrap_or o 0) (c.copied.ensures ∙ c.get.ensures.value ∙ has c.struct_name.result.now ∙ ap (struct_named k) c.struct_name.ensures)
    ∙ sym (index_under-some k c.args.from.now c.args.s c.if-s-eq0.false)
