use Rattle.std.proofs.Common.{ap, ◌∙◌}
use Rattle.bl_file.specs.Views.{raw_target}
use Rattle.bl_file.proofs.ViewLemmas.{element-more}
use Rattle.bl_file.proofs.views.speaker_views.Goals as goal

pub loop-element-preserved : goal.loop-element-preserved
loop-element-preserved g c =
    let s = c.args.sight.now in
    let names = g.T.Targets.names c.args.targets.now c.args.number in
    element-more s.nodes.now names s.header.now.order c.args.bytes.now c.args.speaker c.loop-element.element
    c.named-target.result c.args.seen.now.items c.loop-element.seen.items c.add_view.new.seen.items
    (c.named-target.ensures ∙ ap (λ a. raw_target s.nodes.now (names a)) c.speaker_number-address.ensures)
    c.in_ok-add_view.ensures c.loop-element.invariant
