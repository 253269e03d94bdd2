use Rattle.std.proofs.Common.{◌≡◌, length, sym, ap, subst, ◌∙◌, arith}
use Rattle.std.proofs.lemmas.Result.{on_ok_weaker}
use Rattle.bl_format.specs.Blocks.{header_size}
use Rattle.bl_format.proofs.HeaderBack.{length-header_written}
use Rattle.bl_writer.specs.Rendering.{HasAdded}
use Rattle.bl_writer.proofs.Renderings.{IsHeldAnd-then, IsHeldAnd-same}
use Rattle.bl_writer.proofs.Pushing.{can_second, can_third, can_fourth, room_at_last, adds_first}
use Rattle.bl_writer.proofs.OutputForm.{all_pushed}
use Rattle.bl_writer.proofs.staging.write_all.Goals as goal

pub add_blocks-requires-clause-can : goal.add_blocks-requires-clause-can
add_blocks-requires-clause-can g c =
    let o = c.args.output.now in
    let size : length c.write_header.result ≡ header_size o.header = ap length c.write_header.ensures.written ∙ length-header_written o.header in
    let first = subst (λ n. HasAdded g.S.Shelf c.args.shelf.now c.add_bytes.new.shelf c.args.buffer.now c.add_bytes.new.buffer n) size c.in_ok-add_bytes.ensures.added in
    can_second g.S.Shelf c.args.shelf.now c.add_bytes.new.shelf c.args.buffer.now c.add_bytes.new.buffer _ _ _ _ _ c.requires.room c.requires.ready.empty c.requires.ready.fits first 0 (omega arith)

pub add_catalogue-requires-clause-can : goal.add_catalogue-requires-clause-can
add_catalogue-requires-clause-can g c =
    let o = c.args.output.now in
    let size : length c.write_header.result ≡ header_size o.header = ap length c.write_header.ensures.written ∙ length-header_written o.header in
    let first = subst (λ n. HasAdded g.S.Shelf c.args.shelf.now c.add_bytes.new.shelf c.args.buffer.now c.add_bytes.new.buffer n) size c.in_ok-add_bytes.ensures.added in
    can_third g.S.Shelf c.args.shelf.now c.add_bytes.new.shelf c.args.buffer.now c.add_bytes.new.buffer _ _ _ _ _ c.requires.room c.requires.ready.empty c.requires.ready.fits first
    c.add_blocks.new.shelf c.add_blocks.new.buffer c.in_ok-add_blocks.ensures.added _ (omega arith)

pub add_end-requires : goal.add_end-requires
add_end-requires g c =
    let o = c.args.output.now in
    let size : length c.write_header.result ≡ header_size o.header = ap length c.write_header.ensures.written ∙ length-header_written o.header in
    let first = subst (λ n. HasAdded g.S.Shelf c.args.shelf.now c.add_bytes.new.shelf c.args.buffer.now c.add_bytes.new.buffer n) size c.in_ok-add_bytes.ensures.added in
    record {
      can = can_fourth g.S.Shelf c.args.shelf.now c.add_bytes.new.shelf c.args.buffer.now c.add_bytes.new.buffer _ _ _ _ _ c.requires.room c.requires.ready.empty c.requires.ready.fits first
          c.add_blocks.new.shelf c.add_blocks.new.buffer c.in_ok-add_blocks.ensures.added c.add_catalogue.new.shelf c.add_catalogue.new.buffer c.in_ok-add_catalogue.ensures.added _ (omega arith);
    }

pub push_last-requires-clause-room : goal.push_last-requires-clause-room
push_last-requires-clause-room g c =
    let o = c.args.output.now in
    let size : length c.write_header.result ≡ header_size o.header = ap length c.write_header.ensures.written ∙ length-header_written o.header in
    let first = subst (λ n. HasAdded g.S.Shelf c.args.shelf.now c.add_bytes.new.shelf c.args.buffer.now c.add_bytes.new.buffer n) size c.in_ok-add_bytes.ensures.added in
    room_at_last g.S.Shelf c.args.shelf.now c.add_bytes.new.shelf c.args.buffer.now c.add_bytes.new.buffer _ _ _ _ _ c.requires.room c.requires.ready.empty c.requires.ready.fits first
    c.add_blocks.new.shelf c.add_blocks.new.buffer c.in_ok-add_blocks.ensures.added c.add_catalogue.new.shelf c.add_catalogue.new.buffer c.in_ok-add_catalogue.ensures.added
    c.add_end.new.shelf c.add_end.new.buffer c.in_ok-add_end.ensures.added

pub returns-clause-pushed : goal.returns-clause-pushed
returns-clause-pushed g c =
    let o = c.args.output.now in
    let start = g.S.Shelf.told c.args.shelf.now in
    let second = g.S.Shelf.told c.add_bytes.new.shelf in
    let name = g.P.Payload.file_name c.args.payload.now in
    let header = adds_first c.args.buffer.now _ _ _ _ c.requires.ready.empty c.in_ok-add_bytes.ensures.adds in
    let blocks = IsHeldAnd-same second start name _ (sym c.add_bytes.ensures.pushes.held) c.in_ok-add_blocks.ensures.adds in
    on_ok_weaker c.push_last.result (λ told. IsHeldAnd-then start name _ _
    (λ b adds. (all_pushed (g.T.Targets.names c.args.targets.now) o b _ c.args.catalogue.now _ _ _ _ _ _ _ _ _ _ c.write_header.ensures.written c.requires.catalogue header adds c.in_ok-add_catalogue.ensures.adds c.in_ok-add_end.ensures.adds told).pushed)
    blocks) c.push_last.ensures.pushed
