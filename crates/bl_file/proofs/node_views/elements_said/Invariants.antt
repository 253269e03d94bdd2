use Rattle.std.proofs.Common.{◌≡◌, ◌++◌, ℕ, List, length}
use Rattle.bl_shelf.specs.Calls.{IsQuiet}
use Rattle.bl_file.specs.Calls.{Stays, Tells}
use Rattle.bl_file.specs.Views.{AreInside, elements_said}
use Rattle.bl_file.proofs.node_views.elements_said.Given as goal

abbrev pub invariant-loop-element : goal.invariant-loop-element
invariant-loop-element g l =
    (Tells g.S.Shelf g.P.Payload l.initial.shelf l.initial.payload (λ (b : List ℕ). l.seen.items ≡ l.initial.seen.items
    ++ elements_said l.node.speakers.now l.node.sight.now.nodes.now (g.T.Targets.names l.targets l.node.number) l.node.sight.now.header.now l.node.sight.now.layout.now.catalogue l.node.head.now b l.element))
    × AreInside l.node.sight.now.nodes.now l.seen.items
    × (length l.bytes ≡ length l.initial.bytes)
    × Stays g.S.Shelf g.P.Payload l.initial.shelf l.shelf l.initial.payload l.payload
    × IsQuiet g.S.Shelf l.initial.shelf l.shelf
