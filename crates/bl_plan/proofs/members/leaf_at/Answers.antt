use Rattle.std.proofs.Common.{arith}
use Rattle.bl_plan.proofs.WayLemmas.{leaf_there, leaves_long}
use Rattle.bl_plan.proofs.members.leaf_at.Goals as goal

pub bounds-leaves-leaf : goal.bounds-leaves-leaf
bounds-leaves-leaf c =
    let of = c.args.layout.now in
    let long = leaves_long of.catalogue of.width c.args.s c.leaves-leaves.result.now c.leaves-leaves.ensures.leaves in
    omega (arith, long, c.requires.leaf)

pub returns-clause-is : goal.returns-clause-is
returns-clause-is c =
    let of = c.args.layout.now in
    leaf_there of.catalogue of.width c.args.s c.args.leaf c.leaves-leaves.result.now _ c.leaves-leaves.ensures.leaves c.requires.leaf c.index-leaves-leaf.is
