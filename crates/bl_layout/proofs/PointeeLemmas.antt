-- The basic type of a type, as what the type holds has it.
use Rattle.std.proofs.Common.{◌≡◌, ℕ, ◌≤◌, length, None, sym, ap}
use Rattle.std.proofs.lemmas.List.{get_or_past}
use Rattle.bl_format.specs.declared.catalogue.Catalogue.{Catalogue}
use Rattle.bl_format.specs.declared.catalogue.TypeEntry.{TypeEntry}
use Rattle.bl_format.specs.Layout.{basic_named, type_entry}

-- a type that isn't there is no basic one
pub nothing_past : (c : Catalogue) (t : ℕ) → length c.types ≤ t → None ≡ basic_named (type_entry c t).name
unfolding basic_named
nothing_past c t past = ap (λ (e : TypeEntry). basic_named e.name) (sym (get_or_past c.types t _ past))
