use Rattle.std.proofs.Common.{ap, sym, ◌∙◌}
use Rattle.bl_format.specs.Words.{find_map}
use Rattle.bl_layout.specs.Nesting.{fault_of_nesting}
use Rattle.bl_layout.proofs.NestingLemmas.{depth_fault-nestings}
use Rattle.bl_layout.proofs.nesting.depth_fault.Goals as goal

pub returns : goal.returns
returns c = c.first_deep.ensures ∙ ap (find_map fault_of_nesting) c.requires ∙ sym (depth_fault-nestings c.args.catalogue.now)
