use Rattle.std.proofs.Common.{◌≡◌, ◌≤◌, ◌+◌, length}
use Rattle.bl_format.specs.Limits.{most_elements}
use Rattle.bl_layout.proofs.BracketLemmas.{count_from}
use Rattle.bl_layout.proofs.member_names.element_count.Given as goal

abbrev pub invariant-loop-first : goal.invariant-loop-first
invariant-loop-first l = record {
  same : count_from 1 l.fn.brackets ≡ count_from l.count l.rest;
  capped : l.count ≤ most_elements + 1;
}

abbrev pub decreases-loop-first : goal.decreases-loop-first
decreases-loop-first l = length l.rest
