use Rattle.std.proofs.Common.{◌<◌, length, sym, ◌∙◌, ap, arith, List, Some}
use Rattle.std.specs.Prelude.{slice_get, option_map}
use Rattle.bl_format.specs.Nodes.{Mark}
use Rattle.bl_addresses.proofs.SeenLemmas.{length-marks_from, group-marks_from}
use Rattle.bl_addresses.proofs.table.Table.group_of.Goals as goal

pub index-requires : goal.index-requires
index-requires c =
    let t = c.self.inside in
    let many = length-marks_from 0 t.groups.items t.nodes.items t.ids.items in
    let same = ap (λ (ms : List Mark). length ms) c.self.view_is in
    omega (arith, many, same, c.requires, t.groups.ok)

pub returns : goal.returns
returns c =
    let t = c.self.inside in
    let many = length-marks_from 0 t.groups.items t.nodes.items t.ids.items in
    let same = ap (λ (ms : List Mark). length ms) c.self.view_is in
    let inside : c.args.node < length t.groups.items = omega (arith, many, same, c.requires) in
    ap (λ ms. option_map (λ (m : Mark). m.group) (slice_get ms c.args.node)) (sym c.self.view_is)
    ∙ group-marks_from 0 t.groups.items t.nodes.items t.ids.items c.args.node _ inside
    ∙ ap (λ n. Some n) (sym c.index.ensures)
