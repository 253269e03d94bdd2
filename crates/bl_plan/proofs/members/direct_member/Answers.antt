use Rattle.std.proofs.Common.{◌≡◌, ◌-◌, List, length, ap, ◌∙◌, arith}
use Rattle.bl_format.specs.declared.layout.PathStep.{PathStep}
use Rattle.bl_plan.specs.declared.members.Place.{Place}
use Rattle.bl_plan.specs.Meetings.{leaf_at}
use Rattle.bl_plan.proofs.WayLemmas.{walk_begun, walk_among, walk_step, walk_ended, steps_long}
use Rattle.bl_plan.proofs.members.direct_member.Goals as goal

pub loop-step-init : goal.loop-step-init
loop-step-init c =
    let of = c.args.layout.now in
    walk_begun of.catalogue of.width c.args.s c.args.leaf c.leaf_at-own.result.now c.leaf_at-own.ensures.has_layout c.requires.leaf c.leaf_at-own.ensures.is

pub inner_place-place-requires : goal.inner_place-place-requires
inner_place-place-requires c =
    let of = c.args.layout.now in
    walk_among of.catalogue of.width (leaf_at of c.args.s c.args.leaf).way (c.loop-step.step - 1) c.loop-step.place.s c.loop-step.place.at c.loop-step.invariant

pub loop-step-preserved : goal.loop-step-preserved
loop-step-preserved c =
    let of = c.args.layout.now in
    let way = (leaf_at of c.args.s c.args.leaf).way in
    let long : length c.as_slice-steps.result.now ≡ length way =
    ap (λ (t : List PathStep). length t) c.as_slice-steps.ensures ∙ steps_long c.leaf_at-own.result.now (leaf_at of c.args.s c.args.leaf) c.leaf_at-own.ensures.is in
    walk_step of.catalogue of.width way c.loop-step.step c.loop-step.place.s c.loop-step.place.at c.inner_place-place.result.s c.inner_place-place.result.at
    c.loop-step.auto.step (omega (arith, long, c.loop-step-test.true))
    (λ k t has is. let led = c.inner_place-place.ensures k t has is in (ap (λ (p : Place). p.s) led, ap (λ (p : Place). p.at) led)) c.loop-step.invariant

pub member_at-requires : goal.member_at-requires
member_at-requires c =
    let of = c.args.layout.now in
    walk_among of.catalogue of.width (leaf_at of c.args.s c.args.leaf).way (c.loop-step.step - 1) c.loop-step.place.s c.loop-step.place.at c.loop-step.invariant

pub returns-clause-s : goal.returns-clause-s
returns-clause-s c =
    let of = c.args.layout.now in
    (walk_ended of.catalogue of.width c.args.s c.args.leaf c.loop-step.step c.loop-step.place.s c.loop-step.place.at c.member_at.result c.leaf_at-own.result.now c.as_slice-steps.result.now
    c.leaf_at-own.ensures.has_layout c.requires.leaf c.leaf_at-own.ensures.is c.as_slice-steps.ensures c.loop-step-test.false c.loop-step.auto.step-end c.loop-step.invariant c.member_at.ensures).0

pub returns-clause-member : goal.returns-clause-member
returns-clause-member c =
    let of = c.args.layout.now in
    (walk_ended of.catalogue of.width c.args.s c.args.leaf c.loop-step.step c.loop-step.place.s c.loop-step.place.at c.member_at.result c.leaf_at-own.result.now c.as_slice-steps.result.now
    c.leaf_at-own.ensures.has_layout c.requires.leaf c.leaf_at-own.ensures.is c.as_slice-steps.ensures c.loop-step-test.false c.loop-step.auto.step-end c.loop-step.invariant c.member_at.ensures).1
