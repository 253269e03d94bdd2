use Rattle.std.proofs.Common.{◌≡◌, take, map}
use Rattle.bl_layout.specs.Graph.{inner_among}
use Rattle.bl_layout.proofs.graph.inner_structs.Given as goal

abbrev pub invariant-loop-entry : goal.invariant-loop-entry
invariant-loop-entry l = map (λ v. v.items) l.inner.items ≡ map (λ s. inner_among l.catalogue s.members) (take l.entry-index l.structs)
