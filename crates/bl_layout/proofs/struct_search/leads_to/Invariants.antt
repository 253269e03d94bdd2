use Rattle.std.proofs.Common.{◌+◌, length}
use Rattle.bl_layout.specs.Graph.{links_of}
use Rattle.bl_layout.proofs.SearchLemmas.{IsSearch, pending}
use Rattle.bl_layout.proofs.struct_search.leads_to.Given as goal

abbrev pub invariant-loop-x : goal.invariant-loop-x
invariant-loop-x l = IsSearch (links_of l.links) l.t l.s l.marks l.stack.items

abbrev pub decreases-loop-x : goal.decreases-loop-x
decreases-loop-x l = length l.stack.items + pending (links_of l.links) l.marks
