use Rattle.std.proofs.Common.{◌≡◌, ◌+◌, ◌*◌, ◌≤◌, length, All}
use Rattle.bl_format.specs.Blocks.{header_size, AreBlocks}
use Rattle.bl_shelf.specs.Calls.{IsQuiet}
use Rattle.bl_file.specs.Calls.{Stays, Tells}
use Rattle.bl_file.specs.Reading.{IsBlockIn}
use Rattle.bl_file.proofs.reading.read_blocks.Given as goal

abbrev pub invariant-loop : goal.invariant-loop
invariant-loop g l = record {
  stays : Stays g.S.Shelf g.P.Payload l.initial.shelf l.shelf l.initial.payload l.payload;
  quiet : IsQuiet g.S.Shelf l.initial.shelf l.shelf;
  whole : g.P.Payload.file_size l.payload ≡ l.size;
  stand : Tells g.S.Shelf g.P.Payload l.initial.shelf l.initial.payload (λ b. AreBlocks l.header b (header_size l.header) l.heads.items l.at);
  sound : All (IsBlockIn l.header l.size) l.heads.items;
  behind : header_size l.header ≤ l.at;
  inside : l.at ≤ l.size;
  number : length l.heads.items ≡ l.counter;
  spaced : header_size l.header + 20 * length l.heads.items ≤ l.at;
}
