use Rattle.std.proofs.Common.{◌≡◌, ◌∙◌, length}
use Rattle.bl_format.specs.Words.{part}
use Rattle.bl_writer.proofs.HeldFacts.{held_weaker, held_part}
use Rattle.bl_writer.proofs.PayloadLaws.{raw_carried}
use Rattle.bl_writer.proofs.payloads.write_carried.Goals as goal

pub returns-clause-written : goal.returns-clause-written
returns-clause-written g c =
    let told = g.S.Shelf.told c.args.shelf.now in
    let name = g.P.Payload.file_name c.args.payload.now in
    let at = c.payload_place-at.result in
    let read = c.copy_out.new.dst in
    held_weaker told name (λ b. read ≡ part b at (length read)) _ (held_part told name at read c.in_ok-copy_out.ensures.bytes)
    (λ b there. raw_carried (g.I.Images.names c.args.images.now) c.args.output.now c.args.node c.form_of-from.result c.form_of-to.result at read c.carry_raw.new.dst b
    c.form_of-from.ensures c.form_of-to.ensures c.payload_place-at.ensures (c.copy_out.auto.dst ∙ c.requires.scratch) there c.carry_raw.ensures)
