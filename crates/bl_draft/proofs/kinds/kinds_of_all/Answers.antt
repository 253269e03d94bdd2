use Rattle.std.proofs.Common.{◌≤◌, List, length, ap, sym, subst, refl, ◌∙◌}
use Rattle.std.specs.Prelude.{All}
use Rattle.std.proofs.lemmas.Result.{IfOk-weaker}
use Rattle.bl_format.specs.declared.file.Head.{Head}
use Rattle.bl_format.specs.Limits.{most_blocks}
use Rattle.bl_file.specs.declared.speakers.Speaker.{Speaker}
use Rattle.bl_file.specs.Heard.{AreHeard}
use Rattle.bl_file.specs.Outlines.{marks_of}
use Rattle.bl_file.specs.Seen.{table_names}
use Rattle.bl_file.proofs.ReadLemmas.{held_both}
use Rattle.bl_draft.specs.Speakers.{SpeaksAs}
use Rattle.bl_draft.proofs.AllNodes.{names-by_table, nodes-known}
use Rattle.bl_draft.proofs.CarriedViews.{kinds-carried}
use Rattle.bl_draft.proofs.OutlineFacts.{heads-in_file}
use Rattle.bl_draft.proofs.kinds.kinds_of_all.Goals as goal

pub kinds_in_groups-requires-clause-sight : goal.kinds_in_groups-requires-clause-sight
kinds_in_groups-requires-clause-sight g c =
    let x = c.args.prepared.now in
    let is = c.requires.prepared in
    record {
      width = is.source.sound.width;
      has_layout = is.source.sound.has_layout;
      nodes = heads-in_file x.outline.now x.draft.now x.heads.now (g.P.Payload.file_size c.args.payload.now)
          is.source.sound is.source.draft is.source.size is.heads;
      heard = subst (AreHeard x.outline.now.layout.catalogue) (sym c.deref.ensures.value) c.in-Ok.ensures.heard;
    }

pub kinds_in_groups-requires-clause-few : goal.kinds_in_groups-requires-clause-few
kinds_in_groups-requires-clause-few g c =
    let x = c.args.prepared.now in
    let is = c.requires.prepared in
    let nodes = nodes-known x.outline.now x.draft.now x.outline.now.nodes c.requires.all refl in
    subst (λ (xs : List Head). length xs ≤ most_blocks) (nodes ∙ sym is.heads) is.source.sound.few

pub kinds_in_groups-requires-clause-table : goal.kinds_in_groups-requires-clause-table
kinds_in_groups-requires-clause-table g c =
    let x = c.args.prepared.now in
    let o = x.outline.now in
    let is = c.requires.prepared in
    let nodes = nodes-known o x.draft.now o.nodes c.requires.all refl in
    is.source.sound.table ∙ ap (marks_of o.header o.layout.catalogue) (nodes ∙ sym is.heads)

pub returns-clause-kinds : goal.returns-clause-kinds
returns-clause-kinds g c =
    let x = c.args.prepared.now in
    let o = x.outline.now in
    let d = x.draft.now in
    let heads = x.heads.now in
    let is = c.requires.prepared in
    let source = is.source in
    let structs = c.deref.result.now in
    let say : All (SpeaksAs o d structs) heads =
    subst (λ (xs : List (List Speaker)). All (SpeaksAs o d xs) heads) (sym c.deref.ensures.value) c.in-Ok.ensures.says in
    IfOk-weaker c.kinds_in_groups.result _ _
    (λ kinds held. held_both (g.S.Shelf.told c.args.shelf.now) (g.P.Payload.file_name c.args.payload.now) _ (g.P.Payload.agrees c.args.payload.now) _ held source.held
    (λ b are agreed. are
    ∙ kinds-carried b o d structs (table_names o.table) heads source.sound source.draft
    (g.met.P.Payload.agreed_size c.args.payload.now b agreed ∙ source.size) is.heads say
    (names-by_table o d o.table source.sound source.draft c.requires.all c.requires.ids refl)))
    c.kinds_in_groups.ensures.kinds
