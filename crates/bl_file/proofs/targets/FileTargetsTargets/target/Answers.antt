use Rattle.std.proofs.Common.{◌<◌, ℕ, Option, length, sym, subst}
use Rattle.std.specs.Prelude.{IfSome}
use Rattle.bl_file.proofs.TableLemmas.{target_of-inside}
use Rattle.bl_file.proofs.targets.FileTargetsTargets.target.Goals as goal

pub returns-clause-inside : goal.returns-clause-inside
returns-clause-inside c =
    subst (λ (o : Option ℕ). IfSome o (λ to. to < length c.args.self.now.table.now)) (sym c.resolve.ensures)
    (target_of-inside c.args.self.now.table.now c.group_of.result c.args.address)
