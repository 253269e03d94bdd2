-- The place of the leaf that a leaf meets is that of `source_leaf`.
use Rattle.std.proofs.Common.{◌≡◌, ◌<◌, List, length, get_or}
use Rattle.std.specs.Prelude.{IfSome, option_map}
use Rattle.bl_format.specs.Layout.{NamedLeaf, no_leaf}
use Rattle.bl_selection.specs.Fate.{ways_meet, source_leaf}
use Rattle.bl_plan.specs.SourcePlaces.{source_place}
use Rattle.bl_plan.proofs.FirstPlaces.{find-first_place, first_place-within}

-- the leaf that is met is the one at the place that is found
pub source_leaf-place : (xs : List NamedLeaf) (y : NamedLeaf)
    → source_leaf xs y ≡ option_map (λ j. get_or xs j no_leaf) (source_place xs y)
source_leaf-place xs y = find-first_place (λ (x : NamedLeaf). ways_meet x.way y.way) xs no_leaf

-- a place that is found is that of a leaf
pub source_place-within : (xs : List NamedLeaf) (y : NamedLeaf) → IfSome (source_place xs y) (λ j. j < length xs)
source_place-within xs y = first_place-within (λ (x : NamedLeaf). ways_meet x.way y.way) xs
