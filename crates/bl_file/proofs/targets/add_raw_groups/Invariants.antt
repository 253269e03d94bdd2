use Rattle.bl_file.proofs.RawGroupLemmas.{RawSoFar}
use Rattle.bl_file.proofs.targets.add_raw_groups.Given as goal

abbrev pub invariant-loop-number : goal.invariant-loop-number
invariant-loop-number l = RawSoFar l.table l.nodes l.number l.raw_groups
