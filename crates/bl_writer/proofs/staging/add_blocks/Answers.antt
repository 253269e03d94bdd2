use Rattle.std.proofs.Common.{◌+◌, ◌≤◌, ◌<◌, ℕ, List, length, refl, sym, subst, ◌∙◌, arith}
use Rattle.bl_file.specs.Held.{IsHeldAnd}
use Rattle.bl_file.proofs.CallLemmas.{quiet_on}
use Rattle.bl_writer.specs.Outputs.{block_bytes, block_length}
use Rattle.bl_writer.specs.Lengths.{blocks_length}
use Rattle.bl_writer.specs.Rendering.{HasAdded}
use Rattle.bl_writer.proofs.BlockLengths.{blocks_length-more, blocks_length-mono, blocks_length-none}
use Rattle.bl_writer.proofs.Renderings.{IsHeldAnd-both, IsHeldAnd-then, IsHeldAnd-same, adds_none, room_behind, room_less}
use Rattle.bl_writer.proofs.Pushing.{pushes_none, pushes_from_on, added_none, added_more}
use Rattle.bl_writer.proofs.OutputForm.{adds_number}
use Rattle.bl_writer.proofs.staging.add_blocks.Goals as goal

pub loop-k-init : goal.loop-k-init
loop-k-init g c =
    let none = blocks_length-none c.args.output.now in
    let shelf = c.args.shelf.now in
    let buffer = c.args.buffer.now in
    record {
      scratch = refl;
      adds = IsHeldAnd-then (g.S.Shelf.told shelf) (g.P.Payload.file_name c.args.payload.now) _ _ (λ b is. record { adds = adds_none _ _; length = none }) c.requires.held;
      added = subst (λ n. HasAdded g.S.Shelf shelf shelf buffer buffer n) none (added_none g.S.Shelf shelf buffer c.requires.can.filled);
      stays = record { shelf = pushes_none g.S.Shelf shelf; name = refl; size = refl; held = c.requires.held };
      quiet = (refl, refl);
    }

pub add_block-requires-clause-can : goal.add_block-requires-clause-can
add_block-requires-clause-can g c =
    let o = c.args.output.now in
    let k = c.loop-k.k in
    let added = c.loop-k.invariant.added in
    let lt : k < length o.nodes.now = omega (arith, c.loop-k-test.true) in
    let le : k + 1 ≤ length o.nodes.now = omega (arith, c.loop-k-test.true) in
    let mono = blocks_length-mono o (k + 1) (length o.nodes.now) le in
    let more = blocks_length-more o k in
    record {
      filled = added.filled;
      fits = let fits = c.requires.long k lt in omega (arith, fits, added.long);
      room = room_behind _ _ _ _ _ _ (room_less (g.S.Shelf.room c.args.shelf.now) c.args.buffer.now.filled (blocks_length o (length o.nodes.now)) (blocks_length o k + block_length o k) c.requires.can.room (omega (arith, mono, more))) added.room;
    }

pub loop-k-preserved : goal.loop-k-preserved
loop-k-preserved g c =
    let o = c.args.output.now in
    let k = c.loop-k.k in
    let start = g.S.Shelf.told c.args.shelf.now in
    let before = g.S.Shelf.told c.loop-k.shelf in
    let name = g.P.Payload.file_name c.args.payload.now in
    let inv = c.loop-k.invariant in
    let own = c.in_ok-add_block.ensures in
    let here = λ (Such : List ℕ → Type 0) (is : IsHeldAnd before (g.P.Payload.file_name c.loop-k.payload) Such). IsHeldAnd-same before start name Such (sym inv.stays.shelf.held) (subst (λ x. IsHeldAnd before x Such) inv.stays.name is) in
    record {
      scratch = own.scratch ∙ inv.scratch;
      adds = IsHeldAnd-both start name _ _ _ (λ b first second. adds_number o (λ n. block_bytes (g.T.Targets.names c.args.targets.now n) o b n) k _ _ _ _ _ _ first second) inv.adds (here _ own.adds);
      added = subst (λ n. HasAdded g.S.Shelf c.args.shelf.now c.add_block.new.shelf c.args.buffer.now c.add_block.new.buffer n) (sym (blocks_length-more o k)) (added_more g.S.Shelf c.args.shelf.now c.loop-k.shelf _ _ _ _ (blocks_length o k) (block_length o k) inv.added own.added);
      stays = pushes_from_on inv.stays own.stays;
      quiet = quiet_on inv.quiet own.cause;
    }
