use Rattle.std.proofs.Common.{◌≡◌, ◌<◌, ◌≤◌, ◌*◌, ◌^◌, ℕ, None}
use Rattle.bl_writer.specs.Outputs.{block_length, payload_length}
use Rattle.bl_writer.specs.Lengths.{blocks_length, node_scratch}
use Rattle.bl_writer.proofs.Measures.{long_below}
use Rattle.bl_writer.proofs.measure.measure.Given as goal

abbrev pub invariant-loop-k : goal.invariant-loop-k
invariant-loop-k l = record {
  passed : long_below l.output l.k ≡ None;
  short : (i : ℕ) → i < l.k → payload_length l.output i < 2 ^ 31;
  small : l.blocks ≤ l.k * 2 ^ 32;
  blocks : l.blocks ≡ blocks_length l.output l.k;
  block : (i : ℕ) → i < l.k → block_length l.output i ≤ l.block;
  scratch : (i : ℕ) → i < l.k → node_scratch l.output i ≤ l.scratch;
}
