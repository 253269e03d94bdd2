use Rattle.std.proofs.Common.{sym, ap, ◌∙◌, arith}
use Rattle.bl_format.specs.declared.layout.Shape.{Shape}
use Rattle.bl_format.specs.Layout.{shape_of}
use Rattle.bl_format.proofs.MemberPasses.{inner_struct-some}
use Rattle.bl_plan.proofs.WayLemmas.{some_length, led_to, led_nowhere}
use Rattle.bl_plan.proofs.members.inner_place.Goals as goal

pub length-requires : goal.length-requires
unfolding shape_of
length-requires c =
    let is = sym (ap (λ (x : Shape). x.inner) c.member_shape-shape.ensures.shape) ∙ c.in-Some.is in
    (inner_struct-some c.args.layout.now.catalogue c.args.place.s c.member_at.result c.in-Some.inner is).is_struct.within

pub nonzero_rem-result : goal.nonzero_rem-result
unfolding shape_of
nonzero_rem-result c =
    let of = c.args.layout.now in
    let is = sym (ap (λ (x : Shape). x.inner) c.member_shape-shape.ensures.shape) ∙ c.in-Some.is in
    let some = some_length of.catalogue of.width c.args.place.s c.member_at.result c.in-Some.inner c.args.place.at c.member_at.ensures is in
    omega (arith, some, c.length.ensures)

pub returns-in-Some : goal.returns-in-Some
unfolding shape_of
returns-in-Some c =
    let of = c.args.layout.now in
    let is = sym (ap (λ (x : Shape). x.inner) c.member_shape-shape.ensures.shape) ∙ c.in-Some.is in
    led_to of.catalogue of.width c.args.place.s c.args.place.at c.member_at.result c.in-Some.inner c.member_shape-shape.result.offset c.length.result
    c.member_at.ensures is (ap (λ (x : Shape). x.offset) c.member_shape-shape.ensures.shape) c.length.ensures

pub returns-in-None : goal.returns-in-None
unfolding shape_of
returns-in-None c = λ k t has there.
    let of = c.args.layout.now in
    let is = sym (ap (λ (x : Shape). x.inner) c.member_shape-shape.ensures.shape) ∙ c.in-None.is in
    absurd (led_nowhere of.catalogue of.width c.args.place.s c.args.place.at c.member_at.result c.member_at.ensures is k t has there)
