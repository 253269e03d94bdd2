use Rattle.std.proofs.Common.{sym, subst}
use Rattle.bl_addresses.specs.declared.marks.Scope.TheVariants.{Group}
use Rattle.bl_addresses.specs.Order.{IsOrder}
use Rattle.bl_addresses.specs.Table.{marks_in}
use Rattle.bl_addresses.proofs.TargetLemmas.{target_among}
use Rattle.bl_addresses.proofs.table.Table.resolve_in_group.Goals as goal

pub returns : goal.returns
returns c =
    let marks = marks_in c.self.inside.groups.items c.self.inside.nodes.items c.self.inside.ids.items in
    let nodes = subst (λ rows. IsOrder Group marks rows) (sym c.deref.ensures.value) c.self.invariant.nodes_sorted in
    target_among marks c.args.self.now c.args.group c.args.address c.last_at.result
    c.self.view_is c.if-address-eq0.false (c.last_at.ensures Group marks nodes)
