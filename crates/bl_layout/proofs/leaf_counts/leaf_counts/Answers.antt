use Rattle.std.proofs.Common.{◌≡◌, ℕ, length, ap, subst, arith}
use Rattle.std.specs.Prelude.{replicate}
use Rattle.bl_layout.specs.Counts.{AreCounts}
use Rattle.bl_layout.proofs.CountLemmas.{AreCounts-none, AreCounts-all}
use Rattle.bl_layout.proofs.leaf_counts.leaf_counts.Goals as goal

pub loop-depth-init : goal.loop-depth-init
loop-depth-init c =
    let structs = c.as_slice.result.now in
    let zeros : c.in_ok-counts.counts.items ≡ replicate (length structs) 0 = c.in_ok-counts.ensures.items_if_clones_equal (λ y e. e) in
    rw zeros (AreCounts-none c.args.catalogue.now c.args.width (length structs) (ap length c.as_slice.ensures) c.requires.members)

pub returns : goal.returns
returns c =
    let cat = c.args.catalogue.now in
    let w = c.args.width in
    let all : c.loop-depth.depth ≡ 33 = omega (arith, c.loop-depth-test.false, c.loop-depth.auto.depth-end (omega arith)) in
    AreCounts-all cat w c.loop-depth.counts.items (subst (λ (d : ℕ). AreCounts cat w d 0 c.loop-depth.counts.items) all c.loop-depth.invariant) c.requires.depth
