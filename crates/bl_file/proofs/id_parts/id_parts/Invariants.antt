use Rattle.std.proofs.Common.{◌≡◌, map}
use Rattle.bl_format.specs.Words.{numbers_below}
use Rattle.bl_format.specs.Nodes.{has_id_part}
use Rattle.bl_file.proofs.id_parts.id_parts.Given as goal

abbrev pub invariant-loop-s : goal.invariant-loop-s
invariant-loop-s l = l.parts.items ≡ map (has_id_part l.layout.catalogue) (numbers_below l.s)
