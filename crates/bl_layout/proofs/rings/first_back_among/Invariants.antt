use Rattle.std.proofs.Common.{◌≡◌, ◌<◌, ℕ, false}
use Rattle.bl_format.specs.Layout.{leads_back, inner_struct}
use Rattle.bl_layout.specs.Graph.{links_of, KeepsApart}
use Rattle.bl_layout.proofs.rings.first_back_among.Given as goal

abbrev pub invariant-loop-k : goal.invariant-loop-k
invariant-loop-k l = record {
  apart : KeepsApart (links_of l.check_tables.inner.items) l.marks l.s;
  none : (j : ℕ) → j < l.k → leads_back l.catalogue l.s (inner_struct l.catalogue l.s j) ≡ false;
}
