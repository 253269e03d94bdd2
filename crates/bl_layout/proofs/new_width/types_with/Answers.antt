use Rattle.std.proofs.Common.{◌≡◌, ◌<◌, ◌≤◌, length, ap, ◌∙◌, arith}
use Rattle.std.proofs.lemmas.List.{take_all}
use Rattle.bl_format.specs.Rewidth.{rewidth}
use Rattle.bl_format.proofs.RewidthKeeps.{rewidth-type_count}
use Rattle.bl_layout.proofs.NewLengthLemmas.{number_at, number_inside, types_push}
use Rattle.bl_layout.proofs.new_width.types_with.Goals as goal

pub type_with-requires-clause-inside : goal.type_with-requires-clause-inside
type_with-requires-clause-inside c = λ s some.
    let cat = c.args.catalogue.now in
    let t = c.loop-t.t in
    let many : length c.as_slice-old.result.now ≡ length cat.types = ap length c.as_slice-old.ensures in
    let lt : t < length cat.types = omega (arith, c.loop-t-test.true, many) in
    let has = number_at cat c.in_ok-numbers.numbers.items (length c.as_slice-old.result.now) c.as_slice.result.now t c.index.result.now
    c.in_ok-numbers.ensures many c.as_slice.ensures lt c.index.ensures in
    omega (arith, c.requires.len, number_inside cat t s c.index.result.now has some)

pub loop-t-preserved : goal.loop-t-preserved
loop-t-preserved c = λ from to is.
    let cat = c.args.catalogue.now in
    let t = c.loop-t.t in
    let many : length c.as_slice-old.result.now ≡ length cat.types = ap length c.as_slice-old.ensures in
    let lt : t < length cat.types = omega (arith, c.loop-t-test.true, many) in
    let has = number_at cat c.in_ok-numbers.numbers.items (length c.as_slice-old.result.now) c.as_slice.result.now t c.index.result.now
    c.in_ok-numbers.ensures many c.as_slice.ensures lt c.index.ensures in
    rw (c.in_ok-push.ensures.items, c.in_ok-type_with.ensures) (types_push cat from to c.args.lengths.now c.loop-t.types.items t c.index.result.now c.index-old-t.result
    is lt has (rw (← c.as_slice-old.ensures) c.index-old-t.is) (c.loop-t.invariant from to is))

pub returns : goal.returns
returns c = λ from to is.
    let cat = c.args.catalogue.now in
    let new = (rewidth cat from to).types in
    let many : length c.as_slice-old.result.now ≡ length cat.types = ap length c.as_slice-old.ensures in
    let all : length new ≤ c.loop-t.t = omega (arith, c.loop-t-test.false, many, rewidth-type_count cat from to) in
    c.from_vec.ensures ∙ c.loop-t.invariant from to is ∙ take_all c.loop-t.t new all
