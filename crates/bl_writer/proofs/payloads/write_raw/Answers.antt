use Rattle.std.proofs.Common.{◌≡◌, ◌<◌, ◌∙◌, All, sym, arith, length}
use Rattle.std.proofs.lemmas.Result.{on_ok_weaker}
use Rattle.bl_format.specs.Words.{part}
use Rattle.bl_writer.proofs.HeldFacts.{held_both, held_weaker, held_part}
use Rattle.bl_writer.proofs.PayloadLaws.{raw_length-kept, raw_read}
use Rattle.bl_writer.proofs.payloads.write_raw.Goals as goal

pub copy_out-requires-clause-inside : goal.copy_out-requires-clause-inside
copy_out-requires-clause-inside g c =
    let o = c.args.output.now in
    let x = c.args.node in
    let is = sym c.is_read_first.ensures ∙ c.if-is_read_first.false in
    let long = c.requires.dst ∙ raw_length-kept o x.kind x.head.len o.from.width o.header.width is in
    let fits = c.requires.node.node.fits in
    omega (arith, long, fits, c.payload_place.ensures)

pub returns-clause-written : goal.returns-clause-written
returns-clause-written g c =
    let o = c.args.output.now in
    let x = c.args.node in
    let told = g.S.Shelf.told c.args.shelf.now in
    let name = g.P.Payload.file_name c.args.payload.now in
    let is = sym c.is_read_first.ensures ∙ c.if-is_read_first.false in
    let at = c.payload_place.result in
    let dst = c.copy_out.new.dst in
    let long = c.copy_out.auto.dst ∙ c.requires.dst ∙ raw_length-kept o x.kind x.head.len o.from.width o.header.width is in
    on_ok_weaker c.copy_out.result
    (λ read. held_both told name (All (λ y. y < 256)) (λ b. dst ≡ part b at (length dst)) _
    (held_weaker told name (g.P.Payload.agrees c.args.payload.now) (All (λ y. y < 256)) c.requires.held (g.met.P.Payload.agreed_bytes c.args.payload.now))
    (held_part told name at dst read)
    (λ b bytes there. raw_read (g.I.Images.names c.args.images.now) o x at dst b is bytes c.requires.node.pair c.payload_place.ensures long there))
    c.copy_out.ensures.bytes
