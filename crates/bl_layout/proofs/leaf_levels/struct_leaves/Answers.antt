use Rattle.std.proofs.Common.{◌≡◌, ℕ, ap, sym, ◌∙◌, arith}
use Rattle.std.specs.Prelude.{flat_map}
use Rattle.bl_format.specs.Words.{numbers_below}
use Rattle.bl_format.specs.Layout.{member_count, leaves_of}
use Rattle.bl_layout.specs.Leaves.{member_leaf_list}
use Rattle.bl_layout.proofs.BuildLemmas.{leaves_of-members}
use Rattle.bl_layout.proofs.UnfoldLemmas.{named_leaves-members}
use Rattle.bl_layout.proofs.leaf_levels.struct_leaves.Goals as goal

pub returns : goal.returns
returns c =
    let cat = c.args.catalogue.now in
    let w = c.args.width in
    let s = c.args.s in
    let all : c.loop-k.k ≡ member_count cat s = omega (arith, c.loop-k-test.false, c.loop-k.auto.k-end, c.member_count-k-end.ensures) in
    c.loop-k.invariant
    ∙ ap (λ (n : ℕ). flat_map (member_leaf_list (leaves_of cat w) cat w s) (numbers_below n)) all
    ∙ sym (leaves_of-members cat w s (named_leaves-members cat w s c.requires.members c.requires.depth c.requires.place))
