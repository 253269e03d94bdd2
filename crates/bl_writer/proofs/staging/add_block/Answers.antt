use Rattle.std.proofs.Common.{◌≡◌, ◌+◌, ◌++◌, ℕ, List, length, take, sym, ap, subst, ◌∙◌, arith}
use Rattle.std.proofs.lemmas.List.{length-append, with_items_is}
use Rattle.bl_file.specs.Held.{IsHeldAnd}
use Rattle.bl_writer.specs.Outputs.{block_bytes}
use Rattle.bl_writer.specs.Rendering.{AddsOf, pending}
use Rattle.bl_writer.proofs.Renderings.{IsHeldAnd-then, IsHeldAnd-same, adds_block}
use Rattle.bl_writer.proofs.Pushing.{added_read, added_written}
use Rattle.bl_writer.proofs.staging.add_block.Goals as goal

pub returns-clause-adds : goal.returns-clause-adds
returns-clause-adds g c =
    let told = g.S.Shelf.told c.args.shelf.now in
    let after = g.S.Shelf.told c.make_room.new.shelf in
    let name = g.P.Payload.file_name c.args.payload.now in
    let b = c.args.buffer.now in
    let at = c.in_ok-at.at in
    let n = c.block_length-len.result in
    let front = c.split_at_mut-rest.result.0.now in
    let own = c.write_block.new.dst in
    let rest = c.split_at_mut-own.result.1.now in
    let block : List ℕ → List ℕ = λ x. block_bytes (g.T.Targets.names c.args.targets.now c.args.k) c.args.output.now x c.args.k in
    let own_len : length own ≡ n = c.write_block.ensures.length ∙ c.split_at_mut-own.ensures.front_len in
    let slice_len = ap (λ (xs : List ℕ). length xs) c.as_mut_slice.ensures.value in
    let long : length (front ++ (own ++ rest)) ≡ b.bytes.len =
    omega (arith, length-append front (own ++ rest), length-append own rest, c.split_at_mut-rest.ensures.front_len, c.split_at_mut-rest.ensures.back_len, c.split_at_mut-own.ensures.back_len, own_len, slice_len, b.bytes.ok, c.in_ok-at.ensures.fits) in
    rw (c.write_block.ensures.stays.shelf.told, ← c.block_length-len.ensures)
    (subst (λ (xs : List ℕ). IsHeldAnd told name (λ x. AddsOf told (pending b) (block x) n after (take (at + n) xs)))
    (sym (with_items_is b.bytes (front ++ (own ++ rest)) long))
    (IsHeldAnd-then told name (λ x. own ≡ block x) _
    (λ x is. adds_block _ _ _ b.bytes.items front own rest at _ (block x) is c.in_ok-at.ensures.adds
    (c.split_at_mut-rest.ensures.front ∙ ap (λ (xs : List ℕ). take at xs) c.as_mut_slice.ensures.value) c.split_at_mut-rest.ensures.front_len own_len)
    (IsHeldAnd-same after told name (λ x. own ≡ block x) (sym c.make_room.ensures.pushes.held) c.in_ok-write_block.ensures.written)))

pub returns-clause-added : goal.returns-clause-added
returns-clause-added g c =
    let part = added_written g.S.Shelf c.args.shelf.now c.make_room.new.shelf c.args.buffer.now _ c.in_ok-at.at c.block_length-len.result c.in_ok-at.ensures.fits c.in_ok-at.ensures.room in
    added_read c.write_block.new.shelf c.block_length-len.result _ part c.write_block.ensures.stays.shelf.room c.block_length-len.ensures
