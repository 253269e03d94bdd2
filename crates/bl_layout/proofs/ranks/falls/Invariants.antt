use Rattle.std.proofs.Common.{◌≡◌, ◌≤◌, ◌<◌, ℕ, true}
use Rattle.std.specs.Prelude.{slice_index}
use Rattle.bl_layout.specs.Graph.{links_of, leads}
use Rattle.bl_layout.proofs.ranks.falls.Given as goal

abbrev pub invariant-loop-x : goal.invariant-loop-x
invariant-loop-x l = (x y : ℕ) → x < l.x → leads (links_of l.links) x y ≡ true → slice_index l.ranks y ≤ slice_index l.ranks x
