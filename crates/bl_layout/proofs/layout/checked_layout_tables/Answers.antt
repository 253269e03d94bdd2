use Rattle.std.proofs.Common.{sym, ◌∙◌, inl, inr}
use Rattle.std.proofs.lemmas.Result.{err_from_is_err_and}
use Rattle.bl_layout.proofs.FaultLemmas.{layout_fault-early, layout_fault-leaves}
use Rattle.bl_layout.proofs.layout.checked_layout_tables.Goals as goal

pub returns-in_err-layout_tables-clause-refuses : goal.returns-in_err-layout_tables-clause-refuses
returns-in_err-layout_tables-clause-refuses c =
    let p = err_from_is_err_and c.from_residual.result c.from_residual.ensures.1 in
    rw (p.1, p.2) (elim c.in_err-layout_tables.ensures.refuses [
      | inl e ↦ inl e
      | inr e ↦ inr (layout_fault-early c.args.catalogue.now c.args.width c.in_err-layout_tables.field-0.0 e)
    ])

pub returns-in-Some-clause-refuses : goal.returns-in-Some-clause-refuses
returns-in-Some-clause-refuses c =
    inr (layout_fault-leaves c.args.catalogue.now c.args.width c.in_ok-layout_tables.ensures.members c.in_ok-layout_tables.ensures.depth ∙ sym c.in-Some.ensures)

pub returns-in-None-clause-passes : goal.returns-in-None-clause-passes
returns-in-None-clause-passes c =
    layout_fault-leaves c.args.catalogue.now c.args.width c.in_ok-layout_tables.ensures.members c.in_ok-layout_tables.ensures.depth ∙ sym c.in-None.ensures
