use Rattle.std.proofs.Common.{◌≡◌, [], length, get_or, ◌∙◌, arith}
use Rattle.bl_layout.specs.Graph.{links_of}
use Rattle.bl_layout.proofs.SearchLemmas.{links_at, length-links_of}
use Rattle.bl_layout.proofs.RankLemmas.{row_inside}
use Rattle.bl_layout.proofs.nesting.next_nestings.Goals as goal

pub deeper_by_one-requires-clause-inside : goal.deeper_by_one-requires-clause-inside
deeper_by_one-requires-clause-inside c = λ k d lt.
    let links = c.args.links.now in
    let row : c.deref.result.now ≡ get_or (links_of links) c.loop-row.row-index [] = c.deref.ensures.value ∙ links_at links c.loop-row.row-index c.row-item.result c.loop-row-test.true c.row-item.is in
    let len : length c.args.nestings.now ≡ length (links_of links) = omega (arith, c.requires.len, length-links_of links) in
    row_inside (links_of links) c.args.nestings.now c.deref.result.now c.loop-row.row-index k d c.requires.inside len row lt
