use Rattle.std.proofs.Common.{◌≡◌, ◌∙◌, List, ap, sym, subst, length, refl}
use Rattle.bl_format.specs.declared.file.Head.{Head}
use Rattle.bl_format.specs.declared.raw.RawKind.{RawKind}
use Rattle.bl_file.specs.Held.{IsHeldAnd}
use Rattle.bl_file.specs.Outlines.{ArePairsLong}
use Rattle.bl_draft.specs.Own.{entry_kinds, outlined}
use Rattle.bl_draft.proofs.AllNodes.{names-by_table, nodes-known}
use Rattle.bl_draft.proofs.OutlineFacts.{sound-length-table}
use Rattle.bl_writer.specs.declared.output.Output.{Output}
use Rattle.bl_writer.proofs.DraftForm.{IsOutputOf}
use Rattle.bl_writer.proofs.Drafted.{prepared_drafted, prepared_output}
use Rattle.bl_writer.proofs.rendering.render_with_file_ids.Goals as goal

pub render_output-requires-clause-output : goal.render_output-requires-clause-output
render_output-requires-clause-output g c =
    let x = c.args.prepared.now in
    let read = c.in-Ok.ensures in
    let same = c.deref.ensures.value in
    prepared_output g.S.Shelf g.P.Payload x c.args.shelf.now c.kinds_of_all.new.shelf c.args.payload.now c.kinds_of_all.new.payload
    c.requires.prepared c.requires.checked read.stays _
    (record { from = refl; source = refl; header = refl; target = c.requires.prepared.structs.catalogue; nodes = c.requires.prepared.heads }) refl
    (ap (λ (ks : List RawKind). length ks) same ∙ read.len) (subst (ArePairsLong x.heads.now) (sym same) read.pairs)

pub render_output-requires-clause-targets : goal.render_output-requires-clause-targets
render_output-requires-clause-targets g c =
    let x = c.args.prepared.now in
    let o = x.outline.now in
    let d = x.draft.now in
    let is = c.requires.prepared in
    sound-length-table o is.source.sound
    ∙ ap (λ (xs : List Head). length xs) (nodes-known o d o.nodes c.requires.all refl ∙ sym is.heads)

pub returns : goal.returns
returns g c =
    let x = c.args.prepared.now in
    let o = x.outline.now in
    let d = x.draft.now in
    let out : Output = record { from = o.header; source = record { ref_ptr = x.outline.ref_ptr; now = o.layout }; header = d.header; structs = x.structs; nodes = x.heads; kinds = c.deref.result } in
    let of : IsOutputOf o d out = record { from = refl; source = refl; header = refl; target = c.requires.prepared.structs.catalogue; nodes = c.requires.prepared.heads } in
    let prepared = c.requires.prepared in
    let source = prepared.source in
    let all = c.requires.all in
    let read = c.in-Ok.ensures in
    let same = c.deref.ensures.value in
    let is = c.render_output.ensures in
    let told = g.S.Shelf.told c.args.shelf.now in
    let file = g.P.Payload.file_name c.args.payload.now in
    let kinds : IsHeldAnd told file (λ b. out.kinds.now ≡ entry_kinds (outlined o b) d) =
    subst (λ (ks : List RawKind). IsHeldAnd told file (λ b. ks ≡ entry_kinds (outlined o b) d)) (sym same) read.kinds in
    prepared_drafted g.S.Shelf g.P.Payload x c.args.shelf.now c.kinds_of_all.new.shelf c.args.payload.now c.kinds_of_all.new.payload
    prepared c.requires.checked read.stays c.render_output.new.shelf c.render_output.new.payload c.args.name.now out _ c.render_output.result
    read.cause of (ap (λ (ks : List RawKind). length ks) same ∙ read.len)
    (names-by_table o d o.table source.sound source.draft all c.requires.ids refl) kinds
    (record { staged = is.staged; stages = is.stages; blocks = is.blocks; size = is.size; bytes = is.bytes; limits = is.limits; first = is.first; holds = is.holds; cause = is.cause })
