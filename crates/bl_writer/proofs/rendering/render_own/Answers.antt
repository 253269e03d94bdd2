use Rattle.std.proofs.Common.{◌≡◌, ◌∙◌, List, ap, sym, subst, length, refl, arith}
use Rattle.bl_format.specs.declared.file.Head.{Head}
use Rattle.bl_format.specs.declared.raw.RawKind.{RawKind}
use Rattle.bl_file.specs.Held.{IsHeldAnd}
use Rattle.bl_file.specs.Outlines.{ArePairsLong, StandsFor}
use Rattle.bl_draft.specs.Own.{entry_kinds, outlined}
use Rattle.bl_draft.proofs.OutlineFacts.{sound-length-table}
use Rattle.bl_draft.proofs.AllNodes.{kinds-known, length-nodes, names-by_table, nodes-known, own-HasFileIds}
use Rattle.bl_writer.specs.declared.output.Output.{Output}
use Rattle.bl_writer.proofs.HeldFacts.{held_weaker}
use Rattle.bl_writer.proofs.DraftForm.{output_of}
use Rattle.bl_writer.proofs.Drafted.{drafted, stays_none}
use Rattle.bl_writer.proofs.rendering.render_own.Goals as goal

pub checked_structs-requires-clause-heads : goal.checked_structs-requires-clause-heads
checked_structs-requires-clause-heads g c =
    nodes-known c.args.outline.now c.args.draft.now c.as_slice-heads.result.now c.requires.own.all c.as_slice-heads.ensures

pub render_output-requires-clause-output : goal.render_output-requires-clause-output
render_output-requires-clause-output g c =
    let o = c.args.outline.now in
    let d = c.args.draft.now in
    let sound = c.requires.source.sound in
    let same = c.as_slice-heads.ensures in
    let structs = c.in_ok-structs.ensures.made in
    let many = ap (λ (xs : List Head). length xs) same in
    let kinds = ap (λ (ks : List RawKind). length ks) c.as_slice.ensures in
    let count = length-nodes o d c.requires.own.all in
    output_of o d _ c.requires.source.draft (record { from = refl; source = refl; header = refl; target = structs.catalogue; nodes = nodes-known o d c.as_slice-heads.result.now c.requires.own.all same })
    structs (g.P.Payload.file_size c.args.payload.now) sound (let few = c.in_ok-structs.ensures.few in omega (arith, many, count, few)) c.requires.source.size
    (rw same sound.nodes)
    (kinds ∙ sound.kinds ∙ sym many)
    (subst (ArePairsLong c.as_slice-heads.result.now) (sym c.as_slice.ensures) (subst (λ (xs : List Head). ArePairsLong xs o.kinds) (sym same) sound.pairs))

pub render_output-requires-clause-targets : goal.render_output-requires-clause-targets
render_output-requires-clause-targets g c =
    sound-length-table c.args.outline.now c.requires.source.sound ∙ sym (ap (λ (xs : List Head). length xs) c.as_slice-heads.ensures)

pub returns : goal.returns
returns g c =
    let o = c.args.outline.now in
    let d = c.args.draft.now in
    let source = c.requires.source in
    let own = c.requires.own in
    let told = g.S.Shelf.told c.args.shelf.now in
    let name = g.P.Payload.file_name c.args.payload.now in
    let is = c.render_output.ensures in
    let same = c.as_slice-heads.ensures in
    let structs = c.in_ok-structs.ensures in
    let made = structs.made in
    let kinds : IsHeldAnd told name (λ b. c.as_slice.result.now ≡ entry_kinds (outlined o b) d) =
    held_weaker told name (λ b. StandsFor b o) _ source.stands
    (λ b stands. kinds-known o b d c.as_slice.result.now source.sound source.draft own.catalogue own.width own.all c.as_slice.ensures stands) in
    let out : Output = record { from = o.header; source = record { ref_ptr = c.args.outline.ref_ptr; now = o.layout }; header = d.header; structs = record { ref_ptr = c.args.outline.ref_ptr; now = c.in_ok-structs.structs }; nodes = c.as_slice-heads.result; kinds = c.as_slice.result } in
    drafted g.S.Shelf g.P.Payload c.args.name.now d o c.args.shelf.now c.args.shelf.now c.render_output.new.shelf
    c.args.payload.now c.args.payload.now c.render_output.new.payload source structs.passes structs.few
    (stays_none g.S.Shelf g.P.Payload c.args.shelf.now c.args.payload.now o d source) (refl, refl)
    out _ c.render_output.result
    (record { from = refl; source = refl; header = refl; target = made.catalogue; nodes = nodes-known o d c.as_slice-heads.result.now own.all same })
    (ap (λ (ks : List RawKind). length ks) c.as_slice.ensures ∙ source.sound.kinds ∙ sym (ap (λ (xs : List Head). length xs) same))
    (names-by_table o d o.table source.sound source.draft own.all (own-HasFileIds o d source.sound own.catalogue) refl) kinds
    (record { staged = is.staged; stages = is.stages; blocks = is.blocks; size = is.size; bytes = is.bytes; limits = is.limits; first = is.first; holds = is.holds; cause = is.cause })
