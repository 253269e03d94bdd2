use Rattle.std.proofs.Common.{◌≡◌, ◌++◌}
use Rattle.bl_file.specs.Views.{element_views}
use Rattle.bl_file.proofs.views.speaker_views.Given as goal

abbrev pub invariant-loop-element : goal.invariant-loop-element
invariant-loop-element g l =
    l.seen.items ≡ l.initial.seen.items
    ++ element_views l.sight.nodes.now (g.T.Targets.names l.targets l.number) l.sight.header.now.order l.bytes l.speaker l.element
