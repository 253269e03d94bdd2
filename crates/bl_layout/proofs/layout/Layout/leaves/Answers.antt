use Rattle.std.proofs.Common.{◌≡◌, ◌<◌, subst, List, [], length, get_or, ap, sym, ◌∙◌, arith}
use Rattle.bl_format.specs.declared.layout.Leaf.{Leaf}
use Rattle.bl_format.specs.Layout.{HasLayout, leaves_of}
use Rattle.bl_format.proofs.NumbersBelow.{get_or-by}
use Rattle.bl_layout.specs.LaidOut.{LaidOut}
use Rattle.bl_layout.proofs.LevelLemmas.{length-by, length-lists_of, lists-at}
use Rattle.bl_layout.proofs.LeafFactLemmas.{list-apart, list-sized, list-end}
use Rattle.bl_layout.proofs.layout.Layout.leaves.Goals as goal

pub index-requires : goal.index-requires
index-requires c =
    let l = c.self.inside in
    let many = sym (length-lists_of l.leaves.items) ∙ ap length c.self.invariant.leaves ∙ length-by (leaves_of l.catalogue l.width) (length l.catalogue.structs) in
    let same = ap (λ (x : LaidOut). length x.catalogue.structs) c.self.view_is in
    omega (arith, many, same, c.requires, l.leaves.ok)

pub returns : goal.returns
returns c =
    let l = c.self.inside in
    let s = c.args.s in
    let n = length l.catalogue.structs in
    let many = sym (length-lists_of l.leaves.items) ∙ ap length c.self.invariant.leaves ∙ length-by (leaves_of l.catalogue l.width) n in
    let lt : s < n = omega (arith, ap (λ (x : LaidOut). length x.catalogue.structs) c.self.view_is, c.requires) in
    let at = c.args.self.now in
    let xs = c.as_slice.result.now in
    let same : xs ≡ leaves_of at.catalogue at.width s =
    c.as_slice.ensures.value
    ∙ lists-at l.leaves.items s c.index.result.now (omega (arith, many, lt)) c.index.ensures
    ∙ ap (λ (xs : List (List Leaf)). get_or xs s []) c.self.invariant.leaves
    ∙ get_or-by (leaves_of l.catalogue l.width) n s [] lt
    ∙ ap (λ (x : LaidOut). leaves_of x.catalogue x.width s) c.self.view_is in
    let has : HasLayout at.catalogue at.width =
    subst (λ (x : LaidOut). HasLayout x.catalogue x.width) c.self.view_is c.self.invariant.has_layout in
    record {
      leaves = same;
      apart = list-apart xs at.catalogue at.width s has same;
      sized = list-sized xs at.catalogue at.width s has same;
      last_step = list-end xs at.catalogue at.width s same;
      has_layout = has;
    }
