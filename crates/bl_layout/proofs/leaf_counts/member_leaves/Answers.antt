use Rattle.std.proofs.Common.{arith, sym}
use Rattle.bl_layout.proofs.GraphLemmas.{inner_inside}
use Rattle.bl_layout.proofs.leaf_counts.member_leaves.Goals as goal

pub bounds-counts-t : goal.bounds-counts-t
bounds-counts-t c = omega (arith, c.requires.counts, inner_inside c.args.catalogue.now c.args.member c.in-Some.t (sym c.in-Some.ensures))
