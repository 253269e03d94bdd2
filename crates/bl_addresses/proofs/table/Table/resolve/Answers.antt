use Rattle.std.proofs.Common.{sym, subst}
use Rattle.bl_addresses.specs.declared.marks.Scope.TheVariants.{File}
use Rattle.bl_addresses.specs.Order.{IsOrder}
use Rattle.bl_addresses.specs.Table.{marks_in}
use Rattle.bl_addresses.proofs.TargetLemmas.{target_in_own, target_in_file}
use Rattle.bl_addresses.proofs.table.Table.resolve.Goals as goal

pub returns-in-Some : goal.returns-in-Some
returns-in-Some c = target_in_own c.args.self.now c.args.group c.args.address c.in-Some.node c.in-Some.ensures

pub returns-in-None-2 : goal.returns-in-None-2
returns-in-None-2 c =
    let marks = marks_in c.self.inside.groups.items c.self.inside.nodes.items c.self.inside.ids.items in
    let ids = subst (λ rows. IsOrder File marks rows) (sym c.deref.ensures.value) c.self.invariant.ids_sorted in
    target_in_file marks c.args.self.now c.args.group c.args.address c.last_at.result c.self.view_is
    c.in-None.ensures c.if-address-eq0.false (c.last_at.ensures File marks ids)
