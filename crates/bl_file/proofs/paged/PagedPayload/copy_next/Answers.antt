use Rattle.std.proofs.Common.{◌≡◌, ◌-◌, ◌≤◌, ◌<◌, ◌+◌, ◌%◌, length, take, drop, arith, ◌∙◌, ap, sym}
use Rattle.std.proofs.lemmas.List.{take_at, length-take-le}
use Rattle.std.proofs.Math.Nat.{mod-le}
use Rattle.bl_file.specs.Paged.{HavePageOf, page_name}
use Rattle.bl_file.proofs.CallLemmas.{told_before}
use Rattle.bl_file.proofs.PageLemmas.{copied_place}
use Rattle.bl_file.proofs.paged.PagedPayload.copy_next.Goals as goal

pub returns-clause-bytes : goal.returns-clause-bytes
returns-clause-bytes g c =
    let old = c.args.self.now in
    let p = c.hold_page.new.self in
    let part = c.copy_part.new.dst in
    let n = c.min-n.result in
    let place = c.args.at % 65536 in
    let filled : place < p.filled = c.in_ok-hold_page.ensures.filled in
    let begins : p.page_at ≡ c.args.at - place = c.in_ok-hold_page.ensures.page_at in
    let below = mod-le c.args.at 65536 in
    let least = c.min-n.ensures in
    let long : length part ≡ length (take n c.args.dst.now) = c.copy_part.auto.dst in
    let len : length part ≡ n = long ∙ length-take-le n c.args.dst.now (omega (arith, least)) in
    let within : place + length part ≤ p.filled = omega (arith, len, least, filled) in
    let copied : part ≡ take (length part) (drop place p.page.items) =
    c.copy_part.ensures.copied ∙ ap (λ k. take k (drop place c.deref.result.now)) (sym long) ∙ ap (λ items. take (length part) (drop place items)) c.deref.ensures.value in
    rw (take_at part (drop n c.args.dst.now) n len)
    (copied_place (g.S.Shelf.told c.args.shelf.now) (page_name old) p.size p.page_at p.filled p.page.items (told_before (HavePageOf p) c.hold_page.ensures.stays c.hold_page.ensures.stays.held) c.args.at place part (omega (arith, begins, below)) within copied)
