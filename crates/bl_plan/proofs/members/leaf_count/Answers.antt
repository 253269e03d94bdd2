use Rattle.std.proofs.Common.{arith}
use Rattle.bl_format.proofs.CatalogueRead.{IsCatalogue-can_be_read}
use Rattle.bl_layout.proofs.BuildLemmas.{struct_length-small}
use Rattle.bl_plan.proofs.WayLemmas.{leaves_few, leaves_long}
use Rattle.bl_plan.proofs.members.leaf_count.Goals as goal

pub overflow_cast-result : goal.overflow_cast-result
overflow_cast-result c =
    let of = c.args.layout.now in
    let has = c.leaves-leaves.ensures.has_layout in
    let long = leaves_long of.catalogue of.width c.args.s c.leaves-leaves.result.now c.leaves-leaves.ensures.leaves in
    let few = leaves_few of.catalogue of.width c.args.s has in
    let small = struct_length-small of.catalogue c.args.s (IsCatalogue-can_be_read of.catalogue has.can_be_read) c.requires in
    omega (arith, long, few, small)

pub returns-clause-count : goal.returns-clause-count
returns-clause-count c =
    let of = c.args.layout.now in
    leaves_long of.catalogue of.width c.args.s c.leaves-leaves.result.now c.leaves-leaves.ensures.leaves
