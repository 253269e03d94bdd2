use Rattle.std.proofs.Common.{◌≡◌, ◌<◌, length, ap, ◌∙◌, arith}
use Rattle.bl_format.specs.Layout.{named_leaves, name_of}
use Rattle.bl_plan.specs.SourcePlaces.{member_of_leaf}
use Rattle.bl_plan.proofs.FirstLeafTable.{few_leaves, length-leaves_of, leaf-member, leaf-below, first_more, first_all}
use Rattle.bl_plan.proofs.source_members.first_leaves.Goals as goal

pub member_key-requires-clause-member : goal.member_key-requires-clause-member
member_key-requires-clause-member c =
    let leaf = c.leaf-item.result in
    omega (
      arith,
      ap (λ l. l.member) c.leaf-item.is,
      leaf-below c.args.layout.now.catalogue c.args.layout.now.width c.args.s c.loop-place.place c.leaves-leaf-items.result.now leaf c.leaves-leaf-items.ensures.leaves c.loop-place-test.true,
    )

pub overflow_cast-place : goal.overflow_cast-place
overflow_cast-place c =
    let cat = c.args.layout.now.catalogue in
    let w = c.args.layout.now.width in
    omega (
      arith,
      c.loop-place-test.true,
      ap length c.leaves-leaf-items.ensures.leaves,
      length-leaves_of cat w c.args.s,
      few_leaves cat w c.args.s c.leaves-leaf-items.ensures.has_layout c.requires,
    )

pub loop-place-preserved : goal.loop-place-preserved
loop-place-preserved c =
    let cat = c.args.layout.now.catalogue in
    let w = c.args.layout.now.width in
    let s = c.args.s in
    let i = c.loop-place.place in
    let few : i < length (named_leaves cat w s) =
    omega (arith, c.loop-place-test.true, ap length c.leaves-leaf-items.ensures.leaves, length-leaves_of cat w s) in
    let member : c.leaf-item.result.member ≡ member_of_leaf cat w s i =
    ap (λ l. l.member) c.leaf-item.is
    ∙ leaf-member cat w s i c.leaves-leaf-items.result.now c.leaf-item.result c.leaves-leaf-items.ensures.leaves c.loop-place-test.true in
    first_more cat w s i c.loop-place.table c.learn.new.known c.member_key.result.now few
    (c.member_key.ensures ∙ ap (λ k. (name_of cat s k).key) member) c.in_ok-learn.ensures c.loop-place.invariant

pub returns-clause-table : goal.returns-clause-table
returns-clause-table c =
    let cat = c.args.layout.now.catalogue in
    let w = c.args.layout.now.width in
    first_all cat w c.args.s c.loop-place.place c.loop-place.table
    (omega (arith, c.loop-place-test.false, ap length c.leaves-leaf-items.ensures.leaves, length-leaves_of cat w c.args.s))
    c.loop-place.invariant
