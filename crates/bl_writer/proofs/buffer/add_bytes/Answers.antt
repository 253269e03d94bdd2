use Rattle.std.proofs.Common.{◌≡◌, ◌+◌, ◌++◌, ℕ, List, length, take, sym, ap, subst, ◌∙◌, arith}
use Rattle.std.proofs.lemmas.List.{length-append, with_items_is}
use Rattle.bl_writer.specs.Rendering.{Adds, pending}
use Rattle.bl_writer.proofs.Renderings.{adds_block}
use Rattle.bl_writer.proofs.Pushing.{added_written}
use Rattle.bl_writer.proofs.buffer.add_bytes.Goals as goal

pub returns-clause-adds : goal.returns-clause-adds
returns-clause-adds g c =
    let b = c.args.buffer.now in
    let at = c.in_ok-at.at in
    let front = c.split_at_mut-rest.result.0.now in
    let own = c.copy_from_slice.new.self in
    let rest = c.split_at_mut-own.result.1.now in
    let own_len = ap length c.copy_from_slice.ensures.after in
    let slice_len = ap (λ (xs : List ℕ). length xs) c.as_mut_slice.ensures.value in
    let long : length (front ++ (own ++ rest)) ≡ b.bytes.len =
    omega (arith, length-append front (own ++ rest), length-append own rest, c.split_at_mut-rest.ensures.front_len, c.split_at_mut-rest.ensures.back_len, c.split_at_mut-own.ensures.back_len, own_len, slice_len, b.bytes.ok, c.in_ok-at.ensures.fits) in
    subst (λ (xs : List ℕ). Adds (g.S.Shelf.told c.args.shelf.now) (pending b) c.args.bytes.now (g.S.Shelf.told c.make_room.new.shelf) (take (at + length c.args.bytes.now) xs))
    (sym (with_items_is b.bytes (front ++ (own ++ rest)) long))
    (adds_block _ _ _ b.bytes.items front own rest at _ c.args.bytes.now
    c.copy_from_slice.ensures.after c.in_ok-at.ensures.adds (c.split_at_mut-rest.ensures.front ∙ ap (λ (xs : List ℕ). take at xs) c.as_mut_slice.ensures.value) c.split_at_mut-rest.ensures.front_len own_len).adds

pub returns-clause-added : goal.returns-clause-added
returns-clause-added g c =
    added_written g.S.Shelf c.args.shelf.now c.make_room.new.shelf c.args.buffer.now _ c.in_ok-at.at _ c.in_ok-at.ensures.fits c.in_ok-at.ensures.room
