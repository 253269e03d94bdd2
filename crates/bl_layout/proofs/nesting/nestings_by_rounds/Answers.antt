use Rattle.std.proofs.Common.{◌≡◌, ◌≤◌, ◌+◌, ◌^◌, ℕ, length, ap, ◌∙◌, refl, arith}
use Rattle.std.specs.Prelude.{replicate}
use Rattle.bl_format.specs.Layout.{nesting}
use Rattle.bl_layout.specs.Graph.{links_of}
use Rattle.bl_layout.specs.Nesting.{next_nestings}
use Rattle.bl_layout.proofs.SearchLemmas.{length-links_of}
use Rattle.bl_layout.proofs.GraphLemmas.{links_inside, links-len}
use Rattle.bl_layout.proofs.NestingLemmas.{nestings_within, nestings_start, nestings_small, nestings-len, round_deeper}
use Rattle.bl_layout.proofs.nesting.nestings_by_rounds.Goals as goal

pub loop-init : goal.loop-init
loop-init c =
    let len : length c.args.inner.now ≡ length c.args.catalogue.now.structs = omega (arith, links-len c.args.catalogue.now c.args.inner.now c.requires.inner, length-links_of c.args.inner.now) in
    let zeros : c.in_ok-nestings.nestings.items ≡ replicate (length c.args.inner.now) 0 = c.in_ok-nestings.ensures.items_if_clones_equal (λ y e. e) in
    zeros ∙ nestings_start c.args.catalogue.now (length c.args.inner.now) len

pub next_nestings-requires-clause-inside : goal.next_nestings-requires-clause-inside
next_nestings-requires-clause-inside c = links_inside c.args.catalogue.now c.args.inner.now c.requires.inner

pub next_nestings-requires-clause-len : goal.next_nestings-requires-clause-len
next_nestings-requires-clause-len c =
    omega (arith, ap length c.deref.ensures.value, ap length c.loop.invariant, nestings-len c.args.catalogue.now c.loop.counter, links-len c.args.catalogue.now c.args.inner.now c.requires.inner, length-links_of c.args.inner.now)

pub next_nestings-requires-clause-small : goal.next_nestings-requires-clause-small
next_nestings-requires-clause-small c =
    let few : c.loop.counter ≤ 2 ^ 32 = omega (arith, c.loop-test.true, c.requires.few, links-len c.args.catalogue.now c.args.inner.now c.requires.inner, length-links_of c.args.inner.now) in
    rw (c.deref.ensures.value, c.loop.invariant) (nestings_small c.args.catalogue.now c.loop.counter (2 ^ 32) few)

pub loop-preserved : goal.loop-preserved
loop-preserved c =
    c.in_ok-nestings-2.ensures ∙ ap (next_nestings (links_of c.args.inner.now)) (c.deref.ensures.value ∙ c.loop.invariant)
    ∙ round_deeper c.args.catalogue.now c.args.inner.now c.loop.counter (c.loop.counter + 1) c.requires.inner refl

pub returns : goal.returns
unfolding nesting
returns c =
    let at : c.loop.counter ≡ length c.args.catalogue.now.structs = omega (arith, c.loop-test.false, c.loop.auto.counter-end, links-len c.args.catalogue.now c.args.inner.now c.requires.inner, length-links_of c.args.inner.now) in
    c.loop.invariant ∙ ap (λ (k : ℕ). nestings_within k c.args.catalogue.now) at
