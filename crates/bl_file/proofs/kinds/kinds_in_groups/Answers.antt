use Rattle.std.proofs.Common.{List, length, ap, ◌∙◌}
use Rattle.std.proofs.lemmas.Result.{IfOk-weaker}
use Rattle.bl_format.specs.Nodes.{Mark}
use Rattle.bl_file.proofs.ReadLemmas.{held_so}
use Rattle.bl_file.proofs.RawGroupLemmas.{groups_inside}
use Rattle.bl_file.proofs.RawNameLaws.{kinds-in_groups}
use Rattle.bl_file.proofs.TableLemmas.{marks-long}
use Rattle.bl_file.proofs.kinds.kinds_in_groups.Goals as goal

pub new-requires-clause-count : goal.new-requires-clause-count
new-requires-clause-count g c =
    let s = c.args.sight.now in
    ap (λ (ms : List Mark). length ms) c.requires.table ∙ marks-long s.header.now s.layout.now.catalogue s.nodes.now

pub new-requires-clause-groups : goal.new-requires-clause-groups
new-requires-clause-groups g c =
    let s = c.args.sight.now in
    groups_inside s.header.now s.layout.now.catalogue s.nodes.now c.args.table.now c.requires.table

pub kinds_heard-requires-clause-count : goal.kinds_heard-requires-clause-count
kinds_heard-requires-clause-count g c =
    let s = c.args.sight.now in
    ap (λ (ms : List Mark). length ms) (c.in_ok-targets.ensures.table ∙ c.requires.table)
    ∙ marks-long s.header.now s.layout.now.catalogue s.nodes.now

pub returns-clause-kinds : goal.returns-clause-kinds
returns-clause-kinds g c =
    let s = c.args.sight.now in
    IfOk-weaker c.kinds_heard.result _ _
    (λ kinds held. held_so (g.S.Shelf.told c.args.shelf.now) (g.P.Payload.file_name c.args.payload.now) _ _ held
    (λ b are. are ∙ kinds-in_groups s.speakers.now s.header.now s.layout.now.catalogue s.nodes.now c.args.table.now
    c.in_ok-targets.targets.table.now c.in_ok-targets.targets.raw_groups.items b c.requires.sight.heard
    c.requires.table c.in_ok-targets.ensures.table c.in_ok-targets.ensures.raw))
    c.kinds_heard.ensures.kinds
