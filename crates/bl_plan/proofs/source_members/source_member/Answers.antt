use Rattle.std.proofs.Common.{◌≡◌, Some, sym, ◌∙◌}
use Rattle.bl_plan.specs.SourcePlaces.{first_leaf}
use Rattle.bl_plan.proofs.FirstLeafTable.{leaf-member, leaf-below, first_leaf-within, source_member-found}
use Rattle.bl_plan.proofs.source_members.source_member.Goals as goal

pub bounds-leaves-first : goal.bounds-leaves-first
bounds-leaves-first c =
    first_leaf-within c.args.layout.now.catalogue c.args.layout.now.width c.args.s c.in_ok-first.first c.args.key.now c.leaves.result.now c.leaves.ensures.leaves
    (sym (c.copied.ensures ∙ c.get.ensures.value ∙ c.requires.table c.args.key.now) ∙ c.in_ok-first.was)

pub bounds-leaves-first-in_ok-first : goal.bounds-leaves-first-in_ok-first
bounds-leaves-first-in_ok-first c =
    first_leaf-within c.args.layout.now.catalogue c.args.layout.now.width c.args.s c.in_ok-first.first c.args.key.now c.leaves.result.now c.leaves.ensures.leaves
    (sym (c.copied.ensures ∙ c.get.ensures.value ∙ c.requires.table c.args.key.now) ∙ c.in_ok-first.was)

pub member_shape-shape-requires-clause-member : goal.member_shape-shape-requires-clause-member
member_shape-shape-requires-clause-member c =
    let cat = c.args.layout.now.catalogue in
    let w = c.args.layout.now.width in
    let found : first_leaf cat w c.args.s c.args.key.now ≡ Some c.in_ok-first.first =
    sym (c.copied.ensures ∙ c.get.ensures.value ∙ c.requires.table c.args.key.now) ∙ c.in_ok-first.was in
    leaf-below cat w c.args.s c.in_ok-first.first c.leaves.result.now c.index-leaves-first.result c.leaves.ensures.leaves
    (first_leaf-within cat w c.args.s c.in_ok-first.first c.args.key.now c.leaves.result.now c.leaves.ensures.leaves found)

pub returns : goal.returns
returns c =
    let cat = c.args.layout.now.catalogue in
    let w = c.args.layout.now.width in
    let found : first_leaf cat w c.args.s c.args.key.now ≡ Some c.in_ok-first.first =
    sym (c.copied.ensures ∙ c.get.ensures.value ∙ c.requires.table c.args.key.now) ∙ c.in_ok-first.was in
    source_member-found cat w c.args.s _ c.in_ok-first.first c.args.key.now c.member_shape-shape.result found
    (leaf-member cat w c.args.s c.in_ok-first.first c.leaves.result.now c.index-leaves-first.result c.leaves.ensures.leaves
    (first_leaf-within cat w c.args.s c.in_ok-first.first c.args.key.now c.leaves.result.now c.leaves.ensures.leaves found))
    c.member_shape-shape.ensures.shape
