use Rattle.std.proofs.Common.{List, sym, subst, ◌∙◌}
use Rattle.std.specs.Prelude.{All}
use Rattle.std.proofs.lemmas.Result.{IfOk-weaker}
use Rattle.bl_file.specs.declared.speakers.Speaker.{Speaker}
use Rattle.bl_file.specs.Heard.{AreHeard}
use Rattle.bl_file.proofs.ReadLemmas.{held_both}
use Rattle.bl_draft.specs.Speakers.{SpeaksAs}
use Rattle.bl_draft.specs.Targets.{known_names}
use Rattle.bl_draft.proofs.CarriedViews.{kinds-carried}
use Rattle.bl_draft.proofs.OutlineFacts.{heads-few, heads-in_file}
use Rattle.bl_draft.proofs.kinds.kinds_of_entries.Goals as goal

pub kinds_heard-requires-clause-sight : goal.kinds_heard-requires-clause-sight
kinds_heard-requires-clause-sight g c =
    let x = c.args.prepared.now in
    let is = c.requires.prepared in
    record {
      width = is.source.sound.width;
      has_layout = is.source.sound.has_layout;
      nodes = heads-in_file x.outline.now x.draft.now x.heads.now (g.P.Payload.file_size c.args.payload.now)
          is.source.sound is.source.draft is.source.size is.heads;
      heard = subst (AreHeard x.outline.now.layout.catalogue) (sym c.deref.ensures.value) c.in-Ok.ensures.heard;
    }

pub kinds_heard-requires-clause-few : goal.kinds_heard-requires-clause-few
kinds_heard-requires-clause-few g c =
    let x = c.args.prepared.now in
    heads-few x.outline.now x.draft.now x.heads.now c.requires.prepared.source.draft c.requires.prepared.heads

pub returns-clause-kinds : goal.returns-clause-kinds
returns-clause-kinds g c =
    let x = c.args.prepared.now in
    let o = x.outline.now in
    let d = x.draft.now in
    let heads = x.heads.now in
    let is = c.requires.prepared in
    let source = is.source in
    let structs = c.deref.result.now in
    let say : All (SpeaksAs o d structs) heads =
    subst (λ (xs : List (List Speaker)). All (SpeaksAs o d xs) heads) (sym c.deref.ensures.value) c.in-Ok.ensures.says in
    IfOk-weaker c.kinds_heard.result _ _
    (λ kinds held. held_both (g.S.Shelf.told c.args.shelf.now) (g.P.Payload.file_name c.args.payload.now) _ (g.P.Payload.agrees c.args.payload.now) _ held source.held
    (λ b are agreed. are
    ∙ kinds-carried b o d structs (known_names c.args.targets.now) heads source.sound source.draft
    (g.met.P.Payload.agreed_size c.args.payload.now b agreed ∙ source.size) is.heads say c.requires.names))
    c.kinds_heard.ensures.kinds
