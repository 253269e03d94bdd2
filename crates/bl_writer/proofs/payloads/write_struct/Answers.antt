use Rattle.std.proofs.Common.{◌≡◌, ◌∙◌, sym, length}
use Rattle.std.proofs.lemmas.Result.{on_ok_weaker}
use Rattle.bl_format.specs.Words.{part}
use Rattle.bl_writer.proofs.HeldFacts.{held_both, held_weaker, held_part}
use Rattle.bl_writer.proofs.PayloadLaws.{elements_empty, elements_read, elements_written, stand}
use Rattle.bl_writer.proofs.payloads.write_struct.Goals as goal

pub returns-then-elements-eq0-clause-written : goal.returns-then-elements-eq0-clause-written
returns-then-elements-eq0-clause-written g c =
    let told = g.S.Shelf.told c.args.shelf.now in
    let name = g.P.Payload.file_name c.args.payload.now in
    let p = c.args.payload.now in
    held_weaker told name (g.P.Payload.agrees p) _ c.requires.held
    (λ b agrees. elements_empty (g.I.Images.names c.args.images.now) c.args.output.now (g.P.Payload.file_size p) c.args.node c.elements_of-elements.result
    c.requires.output c.requires.node c.requires.some c.elements_of-elements.ensures b (g.met.P.Payload.agreed_bytes p b agrees) (g.met.P.Payload.agreed_size p b agrees)
    c.args.dst.now (sym c.elements_of-elements.ensures.to_len ∙ c.if-elements-eq0.true) c.requires.dst)

pub stay_whole-requires-clause-len : goal.stay_whole-requires-clause-len
stay_whole-requires-clause-len g c =
    (stand (g.I.Images.names c.args.images.now) c.args.output.now (g.P.Payload.file_size c.args.payload.now) c.args.node c.elements_of-elements.result
    c.requires.output c.requires.node c.requires.some c.elements_of-elements.ensures).short

pub stay_whole-requires-clause-to_len : goal.stay_whole-requires-clause-to_len
stay_whole-requires-clause-to_len g c =
    (stand (g.I.Images.names c.args.images.now) c.args.output.now (g.P.Payload.file_size c.args.payload.now) c.args.node c.elements_of-elements.result
    c.requires.output c.requires.node c.requires.some c.elements_of-elements.ensures).to_short

pub write_elements-requires-clause-stand : goal.write_elements-requires-clause-stand
write_elements-requires-clause-stand g c =
    stand (g.I.Images.names c.args.images.now) c.args.output.now (g.P.Payload.file_size c.args.payload.now) c.args.node c.elements_of-elements.result
    c.requires.output c.requires.node c.requires.some c.elements_of-elements.ensures

pub returns-then-stay_whole-clause-written : goal.returns-then-stay_whole-clause-written
returns-then-stay_whole-clause-written g c =
    let told = g.S.Shelf.told c.args.shelf.now in
    let name = g.P.Payload.file_name c.args.payload.now in
    let p = c.args.payload.now in
    let e = c.elements_of-elements.result in
    let dst = c.copy_out.new.dst in
    on_ok_weaker c.copy_out.result
    (λ read. held_both told name (g.P.Payload.agrees p) (λ b. dst ≡ part b e.at (length dst)) _ c.requires.held
    (held_part told name e.at dst read)
    (λ b agrees there. elements_read (g.I.Images.names c.args.images.now) c.args.output.now (g.P.Payload.file_size p) c.args.node e
    c.requires.output c.requires.node c.requires.some c.elements_of-elements.ensures b (g.met.P.Payload.agreed_bytes p b agrees) (g.met.P.Payload.agreed_size p b agrees)
    dst (c.stay_whole.ensures c.if-stay_whole.true) (c.copy_out.auto.dst ∙ c.requires.dst) there))
    c.copy_out.ensures.bytes

pub returns-clause-written : goal.returns-clause-written
returns-clause-written g c =
    let told = g.S.Shelf.told c.args.shelf.now in
    let name = g.P.Payload.file_name c.args.payload.now in
    let p = c.args.payload.now in
    let e = c.elements_of-elements.result in
    on_ok_weaker c.write_elements.result
    (λ written. held_both told name (g.P.Payload.agrees p) _ _ c.requires.held written
    (λ b agrees is. elements_written (g.I.Images.names c.args.images.now) c.args.output.now (g.P.Payload.file_size p) c.args.node e
    c.requires.output c.requires.node c.requires.some c.elements_of-elements.ensures b (g.met.P.Payload.agreed_bytes p b agrees) (g.met.P.Payload.agreed_size p b agrees)
    c.write_elements.new.dst is))
    c.write_elements.ensures.written
