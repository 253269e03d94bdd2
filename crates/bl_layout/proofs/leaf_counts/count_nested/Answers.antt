use Rattle.std.proofs.Common.{◌≡◌, ◌<◌, length, ap, sym, ◌∙◌, arith}
use Rattle.bl_format.specs.Layout.{nesting}
use Rattle.bl_layout.proofs.CountLemmas.{nestings_in-len, nesting_at, AreCounts-set, AreCounts-pass}
use Rattle.bl_layout.proofs.leaf_counts.count_nested.Goals.{then-index-depth, else-index-depth}
use Rattle.bl_layout.proofs.leaf_counts.count_nested.Goals as goal

pub index-requires : goal.index-requires
index-requires c =
    omega (
      arith,
      c.loop-s-test.true,
      c.requires.before.len,
      ap length c.requires.layout_tables.nestings,
      nestings_in-len c.args.catalogue.now,
      c.args.layout_tables.now.nestings.ok,
    )

pub struct_leaves-count-requires-clause-nested : goal.struct_leaves-count-requires-clause-nested
struct_leaves-count-requires-clause-nested c =
    let cat = c.args.catalogue.now in
    let s = c.loop-s.s in
    let inside : s < length cat.structs = omega (arith, c.loop-s-test.true, c.requires.before.len) in
    sym (nesting_at cat c.args.layout_tables.now.nestings.items s c.index.result.now c.requires.layout_tables.nestings inside)
    ∙ sym c.index.ensures ∙ c.if-index-depth.true

pub loop-s-preserved : goal.loop-s-preserved
loop-s-preserved c =
    let cat = c.args.catalogue.now in
    let w = c.args.width in
    let depth = c.args.depth in
    let s = c.loop-s.s in
    let counts = c.loop-s.counts in
    let inside : s < length cat.structs = omega (arith, c.loop-s-test.true, c.requires.before.len) in
    let is : c.index.result.now ≡ nesting cat s = c.index.ensures
    ∙ nesting_at cat c.args.layout_tables.now.nestings.items s c.index.result.now c.requires.layout_tables.nestings inside in
    elim c.if-index-depth.branch [
      | then-index-depth b ↦ rw b.counts-is (AreCounts-set cat w depth s b.struct_leaves-count.result counts c.loop-s.invariant
          c.requires.catalogue c.requires.members inside (sym is ∙ b.if-index-depth.true) b.struct_leaves-count.ensures)
      | else-index-depth b ↦ rw b.counts-is
          (AreCounts-pass cat w depth s counts c.loop-s.invariant (λ same. b.if-index-depth.false (is ∙ same)))
    ]
