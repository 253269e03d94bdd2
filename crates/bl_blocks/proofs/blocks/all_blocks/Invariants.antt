use Rattle.std.proofs.Common.{◌≡◌, ◌≤◌, length}
use Rattle.bl_format.specs.Blocks.{header_size, AreBlocks}
use Rattle.bl_blocks.proofs.blocks.all_blocks.Given as goal

abbrev pub invariant-loop : goal.invariant-loop
invariant-loop l = record {
  stand : AreBlocks l.header l.bytes (header_size l.header) l.heads.items l.at;
  inside : l.at ≤ length l.bytes;
  number : length l.heads.items ≡ l.counter;
}
