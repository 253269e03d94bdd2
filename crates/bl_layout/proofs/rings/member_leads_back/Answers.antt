use Rattle.std.proofs.Common.{◌≡◌, sym, ap, ◌∙◌, arith}
use Rattle.bl_format.specs.Layout.{leads_back}
use Rattle.bl_layout.specs.Sizes.{inner_of}
use Rattle.bl_layout.specs.Graph.{links_of, reaches}
use Rattle.bl_layout.proofs.SearchLemmas.{length-links_of}
use Rattle.bl_layout.proofs.GraphLemmas.{leads_back-reaches, links_inside, inner_inside, links-len}
use Rattle.bl_layout.proofs.rings.member_leads_back.Goals as goal

pub leads_to-requires-clause-inside : goal.leads_to-requires-clause-inside
leads_to-requires-clause-inside c = rw c.deref.ensures.value (links_inside c.args.catalogue.now c.args.check_tables.now.inner.items c.requires.check_tables.inner)

pub leads_to-requires-clause-from : goal.leads_to-requires-clause-from
leads_to-requires-clause-from c =
    omega (arith, inner_inside c.args.catalogue.now c.args.member c.in-Some.t (sym c.in-Some.ensures), links-len c.args.catalogue.now c.args.check_tables.now.inner.items c.requires.check_tables.inner, length-links_of c.args.check_tables.now.inner.items)

pub leads_to-requires-clause-to : goal.leads_to-requires-clause-to
leads_to-requires-clause-to c =
    omega (arith, c.requires.place, links-len c.args.catalogue.now c.args.check_tables.now.inner.items c.requires.check_tables.inner, length-links_of c.args.check_tables.now.inner.items)

pub returns-in-Some-clause-answer : goal.returns-in-Some-clause-answer
returns-in-Some-clause-answer c =
    let is : leads_back c.args.catalogue.now c.args.s (inner_of c.args.catalogue.now c.args.member) ≡ reaches (links_of c.deref.result.now) c.in-Some.t c.args.s =
    rw c.deref.ensures.value
    (ap (leads_back c.args.catalogue.now c.args.s) (sym c.in-Some.ensures) ∙ leads_back-reaches c.args.catalogue.now c.args.check_tables.now.inner.items c.args.s c.in-Some.t c.requires.check_tables.inner) in
    rw is c.leads_to.ensures.answer
