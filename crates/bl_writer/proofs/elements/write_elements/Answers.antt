use Rattle.std.proofs.Common.{◌≡◌, ◌+◌, ◌*◌, ◌≤◌, ℕ, sym, ap, subst, ◌∙◌, arith}
use Rattle.bl_format.specs.Words.{part}
use Rattle.bl_file.proofs.CallLemmas.{quiet_on, stays_on, told_before}
use Rattle.bl_writer.specs.declared.elements.Elements.{Elements}
use Rattle.bl_writer.specs.Payloads.{StandIn, elements_carried, piece_at}
use Rattle.bl_writer.proofs.HeldFacts.{held_both}
use Rattle.bl_writer.proofs.ElementPieces.{piece_more, piece_room, piece_stands, put_keeps_length}
use Rattle.bl_writer.proofs.elements.write_elements.Goals as goal

pub split_at_mut-own-requires : goal.split_at_mut-own-requires
split_at_mut-own-requires g c =
    let x = c.args.elements.now in
    let n = ap (λ (p : Elements). p.count * x.to_len) c.piece_at-piece.ensures in
    let room = piece_room x c.loop-done.done c.elements_at_once-most.result c.loop-done.invariant.within in
    omega (arith, n, room, c.split_at_mut-rest.ensures.back_len, c.loop-done.invariant.long, c.requires.dst)

pub write_piece-requires-clause-stand : goal.write_piece-requires-clause-stand
write_piece-requires-clause-stand g c =
    let x = c.args.elements.now in
    let most = c.elements_at_once-most.result in
    subst (λ (p : Elements). StandIn p (g.P.Payload.file_size c.loop-done.payload)) (sym c.piece_at-piece.ensures)
    (subst (λ (size : ℕ). StandIn (piece_at x c.loop-done.done most) size) (sym c.loop-done.invariant.stays.size)
    (piece_stands x c.loop-done.done most (g.P.Payload.file_size c.args.payload.now) c.loop-done.invariant.within c.requires.stand))

pub loop-done-preserved : goal.loop-done-preserved
loop-done-preserved g c =
    let names = g.I.Images.names c.args.images.now in
    let x = c.args.elements.now in
    let done = c.loop-done.done in
    let most = c.elements_at_once-most.result in
    let inv = c.loop-done.invariant in
    let own = c.in_ok-write_piece.ensures in
    let piece = c.piece_at-piece.result in
    let is : piece ≡ piece_at x done most = c.piece_at-piece.ensures in
    let n : piece.count ≡ (piece_at x done most).count = ap (λ (p : Elements). p.count) is in
    let within : done + piece.count ≤ x.count = omega (arith, n, inv.within) in
    let rest = c.split_at_mut-rest.ensures in
    let cut = c.split_at_mut-own.ensures in
    let both = held_both (g.S.Shelf.told c.args.shelf.now) (g.P.Payload.file_name c.args.payload.now) _ _ _ inv.written (told_before _ inv.stays own.written)
    (λ b before written. piece_more names x b c.args.dst.now c.loop-done.dst c.split_at_mut-rest.result.0.now
    c.split_at_mut-rest.result.1.now c.split_at_mut-own.result.0.now c.write_piece.new.dst c.split_at_mut-own.result.1.now done most piece.count n within
    rest.front_len rest.front rest.back_len cut.front_len cut.back_len own.length
    (written ∙ ap (λ (p : Elements). elements_carried names p piece.count (part b p.at (piece.count * p.len))) is) before) in
    record {
      within = within;
      scratch = own.scratch ∙ inv.scratch;
      long = put_keeps_length c.split_at_mut-rest.result.0.now c.write_piece.new.dst c.split_at_mut-own.result.1.now c.split_at_mut-rest.result.1.now c.split_at_mut-own.result.0.now
          c.loop-done.dst (done * x.to_len) (piece.count * x.to_len) rest.front_len rest.back_len cut.front_len cut.back_len own.length ∙ inv.long;
      written = both;
      stays = stays_on inv.stays own.stays;
      quiet = quiet_on inv.quiet own.cause;
    }
