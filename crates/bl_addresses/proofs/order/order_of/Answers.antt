use Rattle.std.proofs.Common.{◌≡◌, length, sym, ◌∙◌, subst}
use Rattle.std.proofs.lemmas.List.{take_at}
use Rattle.bl_addresses.specs.Marks.{marks_by}
use Rattle.bl_addresses.specs.Order.{AreMembers, IsOrder}
use Rattle.bl_addresses.proofs.order.order_of.Goals as goal

pub returns : goal.returns
returns c =
    let scope = c.args.scope in
    let marks = marks_by c.args.groups.now c.args.addresses.now c.args.ids.now in
    let rows = c.sort.new.rows in
    let members = subst (AreMembers scope marks) (sym c.as_mut_slice.ensures.value) c.in_ok-rows.ensures in
    let long : length rows ≡ c.in_ok-rows.rows.len = c.sort.ensures.len ∙ c.as_mut_slice.ensures.len in
    subst (IsOrder scope marks) (sym (take_at rows _ c.in_ok-rows.rows.len long))
    (c.sort.ensures.order scope marks members)
