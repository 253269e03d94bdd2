use Rattle.std.proofs.Common.{◌≡◌, take}
use Rattle.bl_layout.specs.Graph.{links_of}
use Rattle.bl_layout.specs.Nesting.{next_nestings}
use Rattle.bl_layout.proofs.nesting.next_nestings.Given as goal

abbrev pub invariant-loop-row : goal.invariant-loop-row
invariant-loop-row l = l.next.items ≡ next_nestings (links_of (take l.row-index l.links)) l.nestings
