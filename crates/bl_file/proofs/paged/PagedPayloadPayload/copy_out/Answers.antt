use Rattle.std.proofs.Common.{◌≡◌, ◌-◌, ◌≤◌, ◌+◌, ◌%◌, ◌∙◌, ◌++◌, ap, take, drop, length, arith}
use Rattle.std.proofs.lemmas.List.{length-append}
use Rattle.std.proofs.Math.Nat.{mod-le}
use Rattle.bl_file.specs.Paged.{page_name}
use Rattle.bl_file.proofs.CallLemmas.{stays_on, quiet_on}
use Rattle.bl_file.proofs.PageLemmas.{copied_place, part_more}
use Rattle.bl_file.proofs.paged.PagedPayloadPayload.copy_out.Goals as goal

pub returns-then-place-dst-clause-bytes : goal.returns-then-place-dst-clause-bytes
returns-then-place-dst-clause-bytes g c =
    let p = c.args.self.now in
    let part = c.copy_from_slice.new.self in
    let place = c.args.at % 65536 in
    let below = mod-le c.args.at 65536 in
    let begins : p.page_at ≡ c.args.at - place = c.if-self-at.true in
    let long : length part ≡ length c.args.dst.now = c.copy_from_slice.auto.self in
    let within : place + length part ≤ p.filled = rw long c.if-place-dst.true in
    let there : place + length c.args.dst.now - place ≡ length part = omega (arith, long) in
    let copied : part ≡ take (length part) (drop place p.page.items) =
    c.copy_from_slice.ensures.after ∙ ap (λ k. take k (drop place c.deref.result.now)) there ∙ ap (λ items. take (length part) (drop place items)) c.deref.ensures.value in
    copied_place (g.S.Shelf.told c.args.shelf.now) (page_name p) p.size p.page_at p.filled p.page.items c.requires.held c.args.at place part (omega (arith, begins, below)) within copied

pub loop-done-preserved : goal.loop-done-preserved
loop-done-preserved g c =
    let told = g.S.Shelf.told in
    let old = c.args.self.now in
    let loop = c.loop-done in
    let still = loop.invariant in
    let next = c.copy_next.new in
    let copied = c.in_ok-done.ensures in
    let cut = c.split_at_mut-rest in
    let n = c.in_ok-done.field-0 in
    let sum = length-append cut.result.0.now next.dst in
    let front = cut.ensures.front_len in
    let back = cut.ensures.back_len in
    let put = c.copy_next.auto.dst in
    let long : length (cut.result.0.now ++ next.dst) ≡ length loop.dst = omega (arith, sum, front, back, put, still.within) in
    record {
      within = let within = copied.within in omega (arith, long, within, back, still.within);
      len = long ∙ still.len;
      bytes = part_more (told c.args.shelf.now) (told loop.shelf) (page_name old) (page_name loop.self) c.args.at loop.done n loop.dst cut.result.0.now next.dst
          still.stays.shelf.told still.stays.name cut.ensures.front still.within still.bytes copied.bytes;
      stays = stays_on still.stays c.copy_next.ensures.stays;
      quiet = quiet_on still.quiet copied.cause;
    }
