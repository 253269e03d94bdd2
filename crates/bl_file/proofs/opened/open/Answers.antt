use Rattle.bl_file.proofs.HeldLemmas.{IsSizeOf-IsHeldAnd}
use Rattle.bl_file.proofs.Steps.{header_why}
use Rattle.bl_file.proofs.Opens.{shelf_refuses, large_refused, format_passes, format_refuses}
use Rattle.bl_file.proofs.opened.open.Goals as goal

pub returns-in-Err-clause-refuses : goal.returns-in-Err-clause-refuses
returns-in-Err-clause-refuses g c =
    shelf_refuses (g.S.Shelf.told c.args.shelf.now) c.args.name.now c.args.used c.in-Err.fault c.shelf_fault.result c.shelf_fault.ensures c.in-Err.ensures.absent.only

pub returns-then-sum-gt-MAX_INPUT_BYTES-clause-refuses : goal.returns-then-sum-gt-MAX_INPUT_BYTES-clause-refuses
returns-then-sum-gt-MAX_INPUT_BYTES-clause-refuses g c =
    large_refused (g.S.Shelf.told c.args.shelf.now) c.args.name.now c.args.used c.in-Ok.size c.in-Ok.ensures.size c.if-sum-gt-MAX_INPUT_BYTES.true

pub returns-in-Err-read_header-clause-refuses : goal.returns-in-Err-read_header-clause-refuses
returns-in-Err-read_header-clause-refuses g c =
    let told = g.S.Shelf.told c.args.shelf.now in
    let name = c.args.name.now in
    let fault = c.in-Err-read_header.fault in
    format_refuses told name c.args.used c.in-Ok.size fault c.if-sum-gt-MAX_INPUT_BYTES.false c.in-Ok.ensures.size
    (header_why told name _ fault (IsSizeOf-IsHeldAnd told name c.in-Ok.size c.in-Ok.ensures.size)
    (rw (← c.in-Ok.ensures.keeps.told, ← c.in-Ok-start.ensures.keeps.told, ← c.in-Ok-start.ensures.name) c.in-Err-read_header.ensures.fault))

pub returns-in-Ok-read_outline_behind-clause-passes : goal.returns-in-Ok-read_outline_behind-clause-passes
returns-in-Ok-read_outline_behind-clause-passes g c =
    format_passes (g.S.Shelf.told c.args.shelf.now) c.args.name.now c.args.used c.in-Ok.size c.if-sum-gt-MAX_INPUT_BYTES.false c.in-Ok.ensures.size
    (rw (← c.in-Ok.ensures.keeps.told, ← c.in-Ok-start.ensures.keeps.told, ← c.in-Ok-start.ensures.name, ← c.in-Ok-read_header.ensures.stays.shelf.told, ← c.in-Ok-read_header.ensures.stays.name) c.in-Ok-read_outline_behind.ensures.passes)

pub returns-in-Err-read_outline_behind-clause-refuses : goal.returns-in-Err-read_outline_behind-clause-refuses
returns-in-Err-read_outline_behind-clause-refuses g c =
    format_refuses (g.S.Shelf.told c.args.shelf.now) c.args.name.now c.args.used c.in-Ok.size c.in-Err-read_outline_behind.fault c.if-sum-gt-MAX_INPUT_BYTES.false c.in-Ok.ensures.size
    (rw (← c.in-Ok.ensures.keeps.told, ← c.in-Ok-start.ensures.keeps.told, ← c.in-Ok-start.ensures.name, ← c.in-Ok-read_header.ensures.stays.shelf.told, ← c.in-Ok-read_header.ensures.stays.name) c.in-Err-read_outline_behind.ensures.fault)
