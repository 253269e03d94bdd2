use Rattle.std.proofs.Common.{◌≡◌, ◌+◌, length, refl, ap, subst, ◌∙◌, arith}
use Rattle.std.proofs.lemmas.Result.{on_ok_weaker}
use Rattle.bl_format.specs.Blocks.{head_size}
use Rattle.bl_writer.specs.Rendering.{HasAdded}
use Rattle.bl_writer.proofs.BlockLengths.{length-head_written}
use Rattle.bl_writer.proofs.Pushing.{added_more, can_behind}
use Rattle.bl_writer.proofs.staging.add_catalogue.Goals as goal

pub add_bytes-requires-2 : goal.add_bytes-requires-2
add_bytes-requires-2 g c =
    let h = c.args.header.now in
    let n = length c.args.written.now in
    let size : length c.write_head.new.dst ≡ head_size h = ap length c.write_head.ensures.written ∙ length-head_written h _ refl refl in
    let first = subst (λ n. HasAdded g.S.Shelf c.args.shelf.now c.add_bytes.new.shelf c.args.buffer.now c.add_bytes.new.buffer n) size c.in_ok-add_bytes.ensures.added in
    record { can = can_behind g.S.Shelf c.args.shelf.now c.add_bytes.new.shelf c.args.buffer.now c.add_bytes.new.buffer (24 + n) n (head_size h) n (head_size h + n) (omega arith) (omega arith) c.requires.can first }

pub returns-clause-added : goal.returns-clause-added
returns-clause-added g c =
    let h = c.args.header.now in
    let size : length c.write_head.new.dst ≡ head_size h = ap length c.write_head.ensures.written ∙ length-head_written h _ refl refl in
    let first = subst (λ n. HasAdded g.S.Shelf c.args.shelf.now c.add_bytes.new.shelf c.args.buffer.now c.add_bytes.new.buffer n) size c.in_ok-add_bytes.ensures.added in
    on_ok_weaker c.add_bytes-2.result (λ more. added_more g.S.Shelf c.args.shelf.now c.add_bytes.new.shelf c.add_bytes-2.new.shelf _ _ _ (head_size h) (length c.args.written.now) first more) c.add_bytes-2.ensures.added
