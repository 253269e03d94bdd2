use Rattle.std.proofs.Common.{◌≡◌, length, sym, ◌∙◌, arith}
use Rattle.std.proofs.lemmas.Slice.Eq.{bytes_eq-Decides}
use Rattle.bl_layout.specs.Graph.{links_of}
use Rattle.bl_layout.specs.Nesting.{next_nestings}
use Rattle.bl_layout.proofs.SearchLemmas.{length-links_of}
use Rattle.bl_layout.proofs.GraphLemmas.{links_inside, links-len}
use Rattle.bl_layout.proofs.NestingLemmas.{nestings_fixed}
use Rattle.bl_layout.proofs.nesting.nestings_of.Goals as goal

pub next_nestings-requires-clause-inside : goal.next_nestings-requires-clause-inside
next_nestings-requires-clause-inside c = links_inside c.args.catalogue.now c.args.inner.now c.requires.inner

pub returns-then-eq : goal.returns-then-eq
returns-then-eq c =
    let len : length c.args.inner.now ≡ length c.args.catalogue.now.structs = omega (arith, links-len c.args.catalogue.now c.args.inner.now c.requires.inner, length-links_of c.args.inner.now) in
    let same : c.as_slice.result.now ≡ c.args.guess.now = (bytes_eq-Decides c.as_slice.result.now c.args.guess.now).0 (sym c.eq.ensures ∙ c.if-eq.true) in
    let fixed : next_nestings (links_of c.args.inner.now) c.args.guess.now ≡ c.args.guess.now = sym c.in_ok-next.ensures ∙ sym c.as_slice.ensures.value ∙ same in
    rw (← nestings_fixed c.args.catalogue.now c.args.inner.now c.args.guess.now (length c.args.inner.now) c.requires.inner fixed len) c.capped.ensures
