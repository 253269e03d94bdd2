use Rattle.std.proofs.Common.{◌<◌, ◌^◌, length, arith}
use Rattle.bl_selection.proofs.RebuiltStands.{few_structs, index_under-short}
use Rattle.bl_writer.specs.Outputs.{target_of}
use Rattle.bl_writer.proofs.blocks.write_node_head.Goals as goal

pub write_head-requires-clause-index : goal.write_head-requires-clause-index
write_head-requires-clause-index c =
    let o = c.args.output.now in
    let le = few_structs o.header.order (target_of o) in
    let few : length (target_of o).structs < 2 ^ 31 = omega (arith, le, c.requires.output.short) in
    let small = index_under-short (target_of o) o.source.now.catalogue c.args.head.index few in
    omega (arith, small, c.number_in.ensures)
