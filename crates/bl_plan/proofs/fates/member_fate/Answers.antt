use Rattle.std.proofs.Common.{List, ℕ, sym, ap, ◌∙◌}
use Rattle.bl_selection.specs.Fate.{member_of_key}
use Rattle.bl_plan.proofs.Found.{member_found, met_fate}
use Rattle.bl_plan.proofs.fates.member_fate.Goals as goal

pub is_empty-requires-clause-member : goal.is_empty-requires-clause-member
is_empty-requires-clause-member c =
    let key = c.member_key.result.now in
    member_found c.args.from.now.catalogue c.args.s key c.in-Some.source (sym (c.requires.known key) ∙ sym (c.copied.ensures ∙ c.get.ensures.value) ∙ c.in-Some.is)

pub pair_fate-requires-clause-j : goal.pair_fate-requires-clause-j
pair_fate-requires-clause-j c =
    let key = c.member_key.result.now in
    member_found c.args.from.now.catalogue c.args.s key c.in-Some.source (sym (c.requires.known key) ∙ sym (c.copied.ensures ∙ c.get.ensures.value) ∙ c.in-Some.is)

pub returns : goal.returns
returns c =
    let key = c.member_key.result.now in
    let found = sym (c.requires.known key) ∙ sym (c.copied.ensures ∙ c.get.ensures.value) ∙ c.in-Some.is in
    c.pair_fate.ensures
    ∙ met_fate c.args.from.now.catalogue c.args.from.now.width c.args.s c.args.to.now.catalogue c.args.to.now.width c.args.t c.args.member c.in-Some.source
    (ap (λ (x : List ℕ). member_of_key c.args.from.now.catalogue c.args.s x) (sym c.member_key.ensures) ∙ found)
    (sym c.is_empty.ensures ∙ c.if-is_empty.false) (sym c.is_empty-else-is_empty.ensures ∙ c.if-is_empty-2.false)
