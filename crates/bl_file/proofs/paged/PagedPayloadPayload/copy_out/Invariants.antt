use Rattle.std.proofs.Common.{length, ◌-◌, ◌≡◌, ◌≤◌, take}
use Rattle.bl_shelf.specs.Calls.{IsQuiet}
use Rattle.bl_shelf.specs.Contents.{AreBytesAt}
use Rattle.bl_file.specs.Paged.{StaysPaged, page_name}
use Rattle.bl_file.proofs.paged.PagedPayloadPayload.copy_out.Given as goal

-- what is done is copied, and nothing else has changed than the page that is held
abbrev pub invariant-loop-done : goal.invariant-loop-done
invariant-loop-done g l = record {
  within : l.done ≤ length l.dst;
  len : length l.dst ≡ length l.initial.dst;
  bytes : AreBytesAt (g.S.Shelf.told l.initial.shelf) (page_name l.initial.self) l.at (take l.done l.dst);
  stays : StaysPaged g.S.Shelf l.initial.shelf l.shelf l.initial.self l.self;
  quiet : IsQuiet g.S.Shelf l.initial.shelf l.shelf;
}

abbrev pub decreases-loop-done : goal.decreases-loop-done
decreases-loop-done g l = length l.initial.dst - l.done
