use Rattle.std.proofs.Common.{◌≡◌, ◌≤◌, ◌+◌, refl, sym, ap, ◌∙◌, arith}
use Rattle.std.specs.Prelude.{slice_index}
use Rattle.bl_format.specs.Layout.{member_count, member_offset}
use Rattle.bl_layout.specs.NewLengths.{size_by}
use Rattle.bl_layout.proofs.NewLengthLemmas.{shape_inside, short_small, offset_next, offset_small, new_next, new_small, new_length-is}
use Rattle.bl_layout.proofs.new_lengths.next_length.Goals as goal

pub loop-k-init : goal.loop-k-init
unfolding member_offset
loop-k-init c = record { old = refl; new = refl }

pub overflow_add-old : goal.overflow_add-old
overflow_add-old c =
    let cat = c.args.layout.now.catalogue in
    let w = c.args.layout.now.width in
    let s = c.args.s in
    let k = c.loop-k.k in
    let within : k + 1 ≤ member_count cat s = omega (arith, c.loop-k-test.true, c.member_count-k-end.ensures) in
    let small = offset_small cat w s (k + 1) c.requires.has_layout c.requires.s within in
    omega (arith, small.0, small.1, offset_next cat w s k, c.loop-k.invariant.old, c.from-old.ensures, ap (λ x. x.size) c.member_shape-shape.ensures.shape)

pub new_size-new-requires-clause-inside : goal.new_size-new-requires-clause-inside
new_size-new-requires-clause-inside c = λ t is.
    let cat = c.args.layout.now.catalogue in
    let same = sym (ap (λ x. x.inner) c.member_shape-shape.ensures.shape) ∙ is in
    omega (arith, c.requires.lengths.len, shape_inside cat c.args.layout.now.width c.args.s c.loop-k.k t same)

pub new_size-new-requires-clause-small : goal.new_size-new-requires-clause-small
new_size-new-requires-clause-small c =
    short_small c.args.lengths.now c.args.layout.now.catalogue c.args.layout.now.width c.requires.has_layout c.requires.lengths

pub overflow_add-new : goal.overflow_add-new
overflow_add-new c =
    let cat = c.args.layout.now.catalogue in
    let from = c.args.layout.now.width in
    let to = c.args.to in
    let f = slice_index c.args.lengths.now in
    let s = c.args.s in
    let k = c.loop-k.k in
    let within : k + 1 ≤ member_count cat s = omega (arith, c.loop-k-test.true, c.member_count-k-end.ensures) in
    omega (
      arith,
      new_small c.args.lengths.now cat from to s (k + 1) c.requires.has_layout c.requires.lengths c.requires.s within,
      new_next f cat from to s k,
      c.loop-k.invariant.new,
      c.new_size-new.ensures ∙ ap (size_by f to) c.member_shape-shape.ensures.shape,
    )

pub loop-k-preserved : goal.loop-k-preserved
loop-k-preserved c =
    let cat = c.args.layout.now.catalogue in
    let from = c.args.layout.now.width in
    let to = c.args.to in
    let f = slice_index c.args.lengths.now in
    let s = c.args.s in
    let k = c.loop-k.k in
    record {
      old = omega (arith, offset_next cat from s k, c.loop-k.invariant.old, c.from-old.ensures, ap (λ x. x.size) c.member_shape-shape.ensures.shape);
      new = omega (arith, new_next f cat from to s k, c.loop-k.invariant.new, c.new_size-new.ensures ∙ ap (size_by f to) c.member_shape-shape.ensures.shape);
    }

pub overflow_sub-result : goal.overflow_sub-result
overflow_sub-result c =
    let cat = c.args.layout.now.catalogue in
    let within : c.loop-k.k ≤ member_count cat c.args.s = omega (arith, c.loop-k.auto.k-end, c.member_count-k-end.ensures) in
    let small = offset_small cat c.args.layout.now.width c.args.s c.loop-k.k c.requires.has_layout c.requires.s within in
    omega (arith, small.0, c.loop-k.invariant.old, c.from.ensures, c.length.ensures)

pub overflow_add-result : goal.overflow_add-result
overflow_add-result c =
    let cat = c.args.layout.now.catalogue in
    let w = c.args.layout.now.width in
    let within : c.loop-k.k ≤ member_count cat c.args.s = omega (arith, c.loop-k.auto.k-end, c.member_count-k-end.ensures) in
    let small = offset_small cat w c.args.s c.loop-k.k c.requires.has_layout c.requires.s within in
    omega (
      arith,
      small.1,
      new_small c.args.lengths.now cat w c.args.to c.args.s c.loop-k.k c.requires.has_layout c.requires.lengths c.requires.s within,
      c.loop-k.invariant.new,
      c.from.ensures,
      c.length.ensures,
    )

pub returns : goal.returns
returns c =
    let cat = c.args.layout.now.catalogue in
    let all : c.loop-k.k ≡ member_count cat c.args.s = omega (arith, c.loop-k-test.false, c.loop-k.auto.k-end, c.member_count-k-end.ensures) in
    new_length-is (slice_index c.args.lengths.now) cat c.args.layout.now.width c.args.to c.args.s c.loop-k.k c.loop-k.new c.loop-k.old c.from.result
    all c.loop-k.invariant.new c.loop-k.invariant.old (c.from.ensures ∙ c.length.ensures)
