use Rattle.std.proofs.Common.{◌≡◌, ◌++◌, List, ℕ, ◌∙◌}
use Rattle.bl_file.specs.Views.{node_at_said, nodes_said}
use Rattle.bl_file.proofs.ReadLemmas.{held_both}
use Rattle.bl_file.proofs.CallLemmas.{stays_on, quiet_on, told_before}
use Rattle.bl_file.proofs.ViewLemmas.{nodes-more}
use Rattle.bl_file.proofs.node_views.nodes_said.Goals as goal

pub loop-number-preserved : goal.loop-number-preserved
loop-number-preserved g c =
    let s = c.args.sight.now in
    let names = g.T.Targets.names c.args.targets.now in
    let k = c.loop-number.number in
    let stays = c.loop-number.invariant.3 in (
      held_both (g.S.Shelf.told c.args.shelf.now) (g.P.Payload.file_name c.args.payload.now)
          (λ (b : List ℕ). c.loop-number.seen.items ≡ c.args.seen.now.items ++ nodes_said names s b k)
          (λ (b : List ℕ). c.node_said.new.seen.items ≡ c.loop-number.seen.items ++ node_at_said names s b k)
          (λ (b : List ℕ). _)
          c.loop-number.invariant.0
          (told_before _ stays c.in_ok-node_said.ensures.said)
          (λ b before more. nodes-more names s b k c.args.seen.now.items c.loop-number.seen.items c.node_said.new.seen.items
          c.loop-number-test.true before more),
      c.in_ok-node_said.ensures.inside,
      c.node_said.ensures.len ∙ c.loop-number.invariant.2,
      stays_on stays c.node_said.ensures.stays,
      quiet_on c.loop-number.invariant.4 c.in_ok-node_said.ensures.cause,
    )
