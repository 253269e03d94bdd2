use Rattle.std.proofs.Common.{◌≡◌, ◌++◌, ◌+◌, List, ℕ, length, ◌∙◌, subst, sym}
use Rattle.std.specs.Prelude.{All}
use Rattle.bl_format.specs.Words.{part}
use Rattle.bl_file.specs.Speakers.{IsHeard}
use Rattle.bl_file.specs.Views.{speakers_views, elements_said}
use Rattle.bl_file.proofs.ReadLemmas.{held_both}
use Rattle.bl_file.proofs.CallLemmas.{stays_on, quiet_on, told_before}
use Rattle.bl_file.proofs.ViewLemmas.{elements-more, place_of_element}
use Rattle.bl_file.proofs.node_views.elements_said.Goals as goal

pub element_said-requires-clause-heard : goal.element_said-requires-clause-heard
element_said-requires-clause-heard g c =
    subst (λ (n : ℕ). All (IsHeard n) c.args.node.now.speakers.now) (sym (c.loop-element.invariant.2 ∙ c.requires.bytes)) c.requires.node.heard

pub loop-element-preserved : goal.loop-element-preserved
loop-element-preserved g c =
    let s = c.args.node.now.sight.now in
    let of = s.layout.now.catalogue in
    let x = c.args.node.now.head.now in
    let speakers = c.args.node.now.speakers.now in
    let names = g.T.Targets.names c.args.targets.now c.args.node.now.number in
    let e = c.loop-element.element in
    let told = g.S.Shelf.told in
    let name = g.P.Payload.file_name in
    let long = c.loop-element.invariant.2 ∙ c.requires.bytes in
    let stays = c.loop-element.invariant.3 in
    let next = c.element_said.ensures.stays in (
      held_both (told c.args.shelf.now) (name c.args.payload.now)
          (λ (b : List ℕ). c.loop-element.seen.items ≡ c.args.seen.now.items ++ elements_said speakers s.nodes.now names s.header.now of x b e)
          (λ (b : List ℕ). c.element_said.new.seen.items ≡ c.loop-element.seen.items ++ speakers_views s.nodes.now names s.header.now.order (part b _ (length c.loop-element.bytes)) speakers)
          (λ (b : List ℕ). c.element_said.new.seen.items ≡ c.args.seen.now.items ++ elements_said speakers s.nodes.now names s.header.now of x b (e + 1))
          c.loop-element.invariant.0
          (told_before _ stays c.in_ok-element_said.ensures.said)
          (λ b before more. elements-more speakers s.nodes.now names s.header.now of x b e _ (length c.loop-element.bytes)
          c.args.seen.now.items c.loop-element.seen.items c.element_said.new.seen.items
          (place_of_element s.header.now of x c.payload_place-at.result e _ (length c.loop-element.bytes) c.payload_place-at.ensures c.from.ensures long) long
          before more),
      c.in_ok-element_said.ensures.inside,
      c.element_said.ensures.len ∙ c.loop-element.invariant.2,
      stays_on stays next,
      quiet_on c.loop-element.invariant.4 c.in_ok-element_said.ensures.cause,
    )
