use Rattle.std.proofs.Common.{◌≡◌, ◌<◌, ◌+◌, Bool, false, List, length, sym, ap, subst, arith}
use Rattle.std.specs.Prelude.{slice_get}
use Rattle.std.proofs.lemmas.Option.{slice_get-get_or}
use Rattle.bl_format.specs.Nodes.{Mark}
use Rattle.bl_file.specs.Seen.{mark_group}
use Rattle.bl_file.proofs.RawGroupLemmas.{RawSoFar, raw-all, raw-kept, raw-more}
use Rattle.bl_file.proofs.TableLemmas.{group_is}
use Rattle.bl_file.proofs.targets.add_raw_groups.Goals as goal
use Rattle.bl_file.proofs.targets.add_raw_groups.Goals.{then-node-eq0, else-node-eq0}

pub loop-number-preserved : goal.loop-number-preserved
loop-number-preserved c =
    let marks = c.args.table.now in
    let nodes = c.args.nodes.now in
    let k = c.loop-number.number in
    let so_far : List Bool → Type 0 = RawSoFar marks nodes (k + 1) in
    elim c.if-node-eq0.branch [
      | then-node-eq0 w ↦ (subst so_far (sym w.raw_groups-is)
          (let own = group_is (slice_get marks k) w.group_of-group.result w.group_of-group.ensures in
          let here : k < length marks = omega (arith, c.loop-number-test.true, c.requires.count) in
          let none : Mark = record { group = 0; address = 0; is_an_id = false } in
          let told = ap mark_group (slice_get-get_or marks k none here) in
          let below : w.group_of-group.result < length c.loop-number.raw_groups =
          omega (arith, own, told, c.requires.groups k none here, c.loop-number.auto.raw_groups) in
          raw-more marks nodes k w.group_of-group.result _ c.loop-number.raw_groups c.loop-number-test.true w.if-node-eq0.true own below c.loop-number.invariant))
      | else-node-eq0 w ↦ (subst so_far (sym w.raw_groups-is)
          (raw-kept marks nodes k _ c.loop-number.raw_groups c.loop-number-test.true w.if-node-eq0.false c.loop-number.invariant))
    ]

pub returns : goal.returns
returns c =
    let all : c.loop-number.number ≡ length c.args.nodes.now = omega (arith, c.loop-number-test.false, c.loop-number.auto.number-end) in
    raw-all c.args.table.now c.args.nodes.now c.loop-number.number c.loop-number.raw_groups all c.loop-number.invariant
