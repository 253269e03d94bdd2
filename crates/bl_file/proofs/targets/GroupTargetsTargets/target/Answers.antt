use Rattle.std.proofs.Common.{◌<◌, ℕ, Option, length, sym, subst}
use Rattle.std.specs.Prelude.{IfSome}
use Rattle.bl_file.proofs.RawGroupLemmas.{in_group_inside}
use Rattle.bl_file.proofs.targets.GroupTargetsTargets.target.Goals as goal

pub returns-then-has_raw-clause-inside : goal.returns-then-has_raw-clause-inside
returns-then-has_raw-clause-inside c =
    subst (λ (o : Option ℕ). IfSome o (λ to. to < length c.args.self.now.table.now)) (sym c.resolve_in_group.ensures)
    (in_group_inside c.args.self.now.table.now c.group_of-group.result c.args.address)
