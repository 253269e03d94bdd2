use Rattle.std.proofs.Common.{◌≢◌, length, ℕ, sym, ap, subst, ◌∙◌, arith}
use Rattle.bl_num.specs.declared.number.Width.{Width}
use Rattle.bl_format.specs.declared.catalogue.Catalogue.{Catalogue}
use Rattle.bl_format.specs.Layout.{struct_name}
use Rattle.bl_draft.specs.Structs.{number_under, source_form, target_form}
use Rattle.bl_selection.specs.Carried.{struct_form}
use Rattle.bl_plan.specs.Plans.{Carries}
use Rattle.bl_plan.proofs.StraightLaws.{IsPlanOf-carries}
use Rattle.bl_draft.proofs.StructsPlanned.{namesake}
use Rattle.bl_draft.proofs.structs.plan_of.Goals as goal

pub compile-requires-clause-t : goal.compile-requires-clause-t
compile-requires-clause-t c =
    let d = c.args.draft.now in
    let o = c.args.outline.now in
    let some : number_under o d c.args.s ≢ 0 = λ none. c.requires.namesake (c.requires.t ∙ none) in
    let there = namesake d.catalogue o.layout.catalogue c.args.s some in
    omega (arith, c.requires.t, there.within, ap (λ (k : Catalogue). length k.structs) c.requires.catalogue)

pub compile-requires-clause-name : goal.compile-requires-clause-name
compile-requires-clause-name c =
    let d = c.args.draft.now in
    let o = c.args.outline.now in
    let some : number_under o d c.args.s ≢ 0 = λ none. c.requires.namesake (c.requires.t ∙ none) in
    let there = namesake d.catalogue o.layout.catalogue c.args.s some in
    sym there.name_is ∙ ap (struct_name d.catalogue) (sym c.requires.t)
    ∙ ap (λ (k : Catalogue). struct_name k c.args.t) (sym c.requires.catalogue)

pub returns-in_ok-straight-clause-made : goal.returns-in_ok-straight-clause-made
returns-in_ok-straight-clause-made c =
    let o = c.args.outline.now in
    let d = c.args.draft.now in
    let from = o.layout.catalogue in
    let made : Carries (struct_form o.header.order from o.layout.width c.args.s) (struct_form d.header.order c.args.layout.now.catalogue c.args.layout.now.width c.args.t) c.in_ok-plan.plan =
    IsPlanOf-carries from o.layout.width c.args.s c.args.layout.now.catalogue c.args.layout.now.width c.args.t c.in_ok-plan.plan o.header.order d.header.order
    c.in_ok-plan.ensures.made in
    c.in_ok-straight.ensures.carries (source_form o c.args.s) (target_form o d c.args.s) (c.has_own_order.ensures c.if-has_own_order.true)
    (subst (λ (w : Width). Carries (struct_form o.header.order from w c.args.s) (target_form o d c.args.s) c.in_ok-plan.plan) c.requires.sound.width
    (subst (λ (t : ℕ). Carries (struct_form o.header.order from o.layout.width c.args.s) (struct_form d.header.order d.catalogue d.header.width t) c.in_ok-plan.plan) c.requires.t
    (subst (λ (k : Catalogue). Carries (struct_form o.header.order from o.layout.width c.args.s) (struct_form d.header.order k d.header.width c.args.t) c.in_ok-plan.plan) c.requires.catalogue
    (subst (λ (w : Width). Carries (struct_form o.header.order from o.layout.width c.args.s) (struct_form d.header.order c.args.layout.now.catalogue w c.args.t) c.in_ok-plan.plan) c.requires.width made))))
