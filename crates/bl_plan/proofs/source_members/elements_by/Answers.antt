use Rattle.std.proofs.Common.{length, ap, sym, ◌∙◌, arith}
use Rattle.std.specs.Str.{bytes_eq}
use Rattle.bl_format.specs.Layout.{struct_name}
use Rattle.bl_plan.proofs.FirstLeafTable.{few_leaves, length-leaves_of, elements-found, not_other}
use Rattle.bl_plan.proofs.source_members.elements_by.Goals as goal

pub overflow_cast-result : goal.overflow_cast-result
overflow_cast-result c =
    let cat = c.args.layout.now.catalogue in
    let w = c.args.layout.now.width in
    omega (arith, ap length c.leaves-leaves.ensures.leaves, length-leaves_of cat w c.args.s, few_leaves cat w c.args.s c.leaves-leaves.ensures.has_layout c.requires)

pub returns : goal.returns
returns c =
    let cat = c.args.layout.now.catalogue in
    let w = c.args.layout.now.width in
    let name = c.struct_name.ensures ∙ ap (λ k. struct_name k c.args.s) c.catalogue.ensures.is in
    let named = ap (λ text. bytes_eq text c.args.name.now) (sym name) ∙ not_other _ (sym c.ne.ensures ∙ c.if-ne.false) in
    elements-found cat w c.args.name.now c.args.member c.args.s _ named
    (ap length c.leaves-leaves.ensures.leaves ∙ length-leaves_of cat w c.args.s)
