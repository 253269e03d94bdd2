use Rattle.std.proofs.Common.{◌≡◌, drop}
use Rattle.std.specs.Str.{bytes_eq}
use Rattle.std.specs.List.{position_from}
use Rattle.bl_format.specs.Words.{first_place}
use Rattle.bl_sdna.proofs.lookup.type_named.Given as goal

-- the search from here on is the whole search
abbrev pub invariant-loop-number : goal.invariant-loop-number
invariant-loop-number l = position_from (λ t. bytes_eq t.name l.name) l.number (drop l.number l.entry-items) ≡ first_place (λ t. bytes_eq t.name l.name) l.entry-items
