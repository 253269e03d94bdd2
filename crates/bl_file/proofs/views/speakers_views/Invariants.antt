use Rattle.std.proofs.Common.{◌≡◌, ◌++◌, take}
use Rattle.bl_file.specs.Views.{speakers_views}
use Rattle.bl_file.proofs.views.speakers_views.Given as goal

abbrev pub invariant-loop-speaker : goal.invariant-loop-speaker
invariant-loop-speaker g l =
    l.seen.items ≡ l.initial.seen.items
    ++ speakers_views l.sight.nodes.now (g.T.Targets.names l.targets l.number) l.sight.header.now.order l.bytes (take l.speaker-index l.speakers)
