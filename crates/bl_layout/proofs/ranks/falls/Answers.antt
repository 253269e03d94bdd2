use Rattle.std.proofs.Common.{◌≡◌, ℕ, true, [], length, get_or, ap, sym, ◌∙◌, inl, inr, arith}
use Rattle.std.specs.Prelude.{nat_le, slice_index}
use Rattle.std.specs.List.{list_all}
use Rattle.std.proofs.lemmas.Bool.{cases_lt, leb-true}
use Rattle.bl_layout.specs.Graph.{links_of, leads}
use Rattle.bl_layout.proofs.SearchLemmas.{links_at, length-links_of}
use Rattle.bl_layout.proofs.RankLemmas.{row_inside, all_at}
use Rattle.bl_layout.proofs.ranks.falls.Goals as goal

pub is_at_most-requires : goal.is_at_most-requires
is_at_most-requires c = λ k d lt.
    let links = c.args.links.now in
    let row : c.deref.result.now ≡ get_or (links_of links) c.loop-x.x [] = c.deref.ensures.value ∙ links_at links c.loop-x.x c.index-links-x.result c.loop-x-test.true c.index-links-x.is in
    let len : length c.args.ranks.now ≡ length (links_of links) = omega (arith, c.requires.len, length-links_of links) in
    row_inside (links_of links) c.args.ranks.now c.deref.result.now c.loop-x.x k d c.requires.inside len row lt

pub loop-x-preserved : goal.loop-x-preserved
loop-x-preserved c = λ x y small link.
    let links = c.args.links.now in
    let ranks = c.args.ranks.now in
    let at = c.loop-x.x in
    let row : c.deref.result.now ≡ get_or (links_of links) at [] = c.deref.ensures.value ∙ links_at links at c.index-links-x.result c.loop-x-test.true c.index-links-x.is in
    let all : list_all (λ t. nat_le (slice_index ranks t) (slice_index ranks at)) (get_or (links_of links) at []) ≡ true =
    ap (list_all (λ t. nat_le (slice_index ranks t) (slice_index ranks at))) (sym row) ∙ sym c.is_at_most.ensures ∙ c.if-not-is_at_most.false in
    elim (cases_lt x at) [
      | inl less ↦ c.loop-x.invariant x y less link
      | inr most ↦ (let is : x ≡ at = omega arith in
          let link' : leads (links_of links) at y ≡ true = ap (λ (n : ℕ). leads (links_of links) n y) (sym is) ∙ link in
          rw is (leb-true _ _ (all_at (λ t. nat_le (slice_index ranks t) (slice_index ranks at)) (get_or (links_of links) at []) y all link')))
    ]
