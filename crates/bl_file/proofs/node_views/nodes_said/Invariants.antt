use Rattle.std.proofs.Common.{◌≡◌, ◌++◌, ℕ, List, length}
use Rattle.bl_shelf.specs.Calls.{IsQuiet}
use Rattle.bl_file.specs.Calls.{Stays, Tells}
use Rattle.bl_file.specs.Views.{AreInside, nodes_said}
use Rattle.bl_file.proofs.node_views.nodes_said.Given as goal

abbrev pub invariant-loop-number : goal.invariant-loop-number
invariant-loop-number g l =
    (Tells g.S.Shelf g.P.Payload l.initial.shelf l.initial.payload (λ (b : List ℕ). l.seen.items ≡ l.initial.seen.items ++ nodes_said (g.T.Targets.names l.targets) l.sight b l.number))
    × AreInside l.sight.nodes.now l.seen.items
    × (length l.buffer ≡ length l.initial.buffer)
    × Stays g.S.Shelf g.P.Payload l.initial.shelf l.shelf l.initial.payload l.payload
    × IsQuiet g.S.Shelf l.initial.shelf l.shelf
