use Rattle.std.proofs.Common.{◌≡◌, take}
use Rattle.std.specs.String.{string_bytes}
use Rattle.bl_commands.specs.Texts.{shown_bytes}
use Rattle.bl_lines.proofs.shown.shown_bytes.Given as goal

abbrev pub invariant-loop-byte : goal.invariant-loop-byte
invariant-loop-byte l = string_bytes l.text ≡ shown_bytes (take l.byte-index l.bytes)
