use Rattle.std.proofs.Common.{List, sym, ◌∙◌, ap, subst}
use Rattle.std.specs.Prelude.{length}
use Rattle.bl_format.specs.Nodes.{Mark}
use Rattle.bl_addresses.specs.Marks.{marks_by}
use Rattle.bl_addresses.specs.Table.{IsTable}
use Rattle.bl_addresses.proofs.MarkLemmas.{groups-marks_by, length-marks_by}
use Rattle.bl_addresses.proofs.SeenLemmas.{marks_in-is}
use Rattle.bl_addresses.proofs.table.Table.new.Goals as goal

pub invariant_of-result : goal.invariant_of-result
invariant_of-result c =
    let groups = c.args.groups.now in
    let marks = marks_by groups c.args.addresses.now c.args.ids.now in
    let nodes = c.in_ok-nodes.nodes.items in
    let ids = c.in_ok-ids.ids.items in
    let given = groups-marks_by groups c.args.addresses.now c.args.ids.now c.requires.addresses c.requires.ids in
    let parts : IsTable marks nodes ids = record { nodes_sorted = c.in_ok-nodes.ensures; ids_sorted = c.in_ok-ids.ensures } in
    let seen = marks_in-is marks c.in_ok-from_slice.field-0.items nodes ids (given ∙ sym c.in_ok-from_slice.ensures.items) parts in
    subst (λ ms. IsTable ms nodes ids) (sym seen) parts

pub returns-clause-marks : goal.returns-clause-marks
returns-clause-marks c =
    let groups = c.args.groups.now in
    let marks = marks_by groups c.args.addresses.now c.args.ids.now in
    let given = groups-marks_by groups c.args.addresses.now c.args.ids.now c.requires.addresses c.requires.ids in
    marks_in-is marks c.in_ok-from_slice.field-0.items c.in_ok-nodes.nodes.items c.in_ok-ids.ids.items
    (given ∙ sym c.in_ok-from_slice.ensures.items)
    (record { nodes_sorted = c.in_ok-nodes.ensures; ids_sorted = c.in_ok-ids.ensures })

pub returns-clause-len : goal.returns-clause-len
returns-clause-len c =
    ap (λ (ms : List Mark). length ms) (returns-clause-marks c)
    ∙ length-marks_by c.args.groups.now c.args.addresses.now c.args.ids.now c.requires.addresses c.requires.ids
