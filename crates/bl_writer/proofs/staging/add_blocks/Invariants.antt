use Rattle.std.proofs.Common.{◌≡◌, length}
use Rattle.std.specs.Prelude.{flat_map}
use Rattle.bl_format.specs.Words.{numbers_below}
use Rattle.bl_shelf.specs.Calls.{IsQuiet}
use Rattle.bl_file.specs.Calls.{Tells}
use Rattle.bl_writer.specs.Calls.{PushesFrom}
use Rattle.bl_writer.specs.Outputs.{block_bytes}
use Rattle.bl_writer.specs.Lengths.{blocks_length}
use Rattle.bl_writer.specs.Rendering.{AddsOf, HasAdded, pending}
use Rattle.bl_writer.proofs.staging.add_blocks.Given as goal

abbrev pub invariant-loop-k : goal.invariant-loop-k
invariant-loop-k g l = record {
  scratch : length l.scratch ≡ length l.initial.scratch;
  adds : Tells g.S.Shelf g.P.Payload l.initial.shelf l.initial.payload (λ b.
      AddsOf (g.S.Shelf.told l.initial.shelf) (pending l.initial.buffer)
      (flat_map (λ k. block_bytes (g.T.Targets.names l.targets k) l.output b k) (numbers_below l.k)) (blocks_length l.output l.k)
      (g.S.Shelf.told l.shelf) (pending l.buffer));
  added : HasAdded g.S.Shelf l.initial.shelf l.shelf l.initial.buffer l.buffer (blocks_length l.output l.k);
  stays : PushesFrom g.S.Shelf g.P.Payload l.initial.shelf l.shelf l.initial.payload l.payload;
  quiet : IsQuiet g.S.Shelf l.initial.shelf l.shelf;
}
