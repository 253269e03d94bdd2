use Rattle.std.proofs.Common.{arith}
use Rattle.std.proofs.lemmas.Cmp.{nat_list_cmp_total}
use Rattle.std.specs.FinMap.{get-from_entries}
use Rattle.bl_shelf.proofs.Search.{find_from}
use Rattle.bl_shelf.proofs.named_bytes.bytes_in.Goals as goal

pub loop-file-init : goal.loop-file-init
loop-file-init c = get-from_entries nat_list_cmp_total _ _

pub returns-then-eq : goal.returns-then-eq
returns-then-eq c =
    let step = find_from c.args.files.now c.loop-file.file-index c.file-item.result c.args.name.now (omega arith) c.file-item.is in
    grind (arith, step)

pub loop-file-preserved : goal.loop-file-preserved
loop-file-preserved c =
    let step = find_from c.args.files.now c.loop-file.file-index c.file-item.result c.args.name.now (omega arith) c.file-item.is in
    grind (arith, step)
