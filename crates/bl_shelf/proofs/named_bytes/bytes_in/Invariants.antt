use Rattle.std.proofs.Common.{◌≡◌, drop, map}
use Rattle.std.specs.Ordering.{nat_cmp}
use Rattle.std.specs.Cmp.Lexicographic.{slice_cmp}
use Rattle.std.specs.FinMap.{get, find}
use Rattle.bl_shelf.specs.NamedBytes.{held_in, entry_of}
use Rattle.bl_shelf.proofs.named_bytes.bytes_in.Given as goal

abbrev pub invariant-loop-file : goal.invariant-loop-file
invariant-loop-file l = get (held_in l.files) l.name ≡ find (slice_cmp nat_cmp) l.name (map entry_of (drop l.file-index l.files))
