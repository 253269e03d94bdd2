-- The leaves of a source's structs whose pointers say anything once they are carried to a draft's catalogue: what is said is
-- that of the target's leaf, and it is heard at the source's leaf that it meets. This project's own.
use Rattle.std.specs.Prelude.{◌≡◌, ◌≢◌, ℕ, min, Bool, true, false, if◌then◌else◌, List, [], get_or, slice_get, Option, None, option_map, option_and_then}
use Rattle.std.specs.List.{filter_map, zip}
use Rattle.bl_format.specs.declared.file.Head.{Head}
use Rattle.bl_format.specs.declared.layout.Kind.{Kind}
use Rattle.bl_format.specs.declared.layout.Kind.TheVariants as kinds
use Rattle.bl_format.specs.declared.layout.Leaf.{Leaf}
use Rattle.bl_format.specs.declared.raw.RawKind.{RawKind}
use Rattle.bl_format.specs.Layout.{NamedLeaf, leaf_of}
use Rattle.bl_selection.specs.declared.draft.Draft.{Draft}
use Rattle.bl_selection.specs.Fate.{source_leaf}
use Rattle.bl_file.specs.declared.outline.Outline.{Outline}
use Rattle.bl_file.specs.declared.speakers.Speaker.{Speaker}
use Rattle.bl_file.specs.Speakers.{basic_lengths, said_by}
use Rattle.bl_draft.specs.Structs.{source_form, target_form}

-- a leaf holds pointers
abbrev pub is_pointer : Kind → Bool
is_pointer (kinds.Pointer depth t) = true
is_pointer (kinds.Whole whole) = false
is_pointer (kinds.Bits n) = false
is_pointer kinds.Opaque = false

-- the elements of leaf x that target leaf y keeps say this
abbrev pub kept_speaker : Leaf → Leaf → RawKind → Speaker
kept_speaker x y kind = record { offset = x.offset; size = x.size; count = min x.count y.count; kind = kind }

-- what target leaf y says where it meets leaf x, if it says anything, by the basic types of the target's catalogue
abbrev pub met_speaker : List (Option ℕ) → Leaf → Leaf → Option Speaker
met_speaker basics y x = if is_pointer x.kind then option_map (kept_speaker x y) (said_by basics y.kind) else None

-- the same, where it meets the source's leaf of a number, or none
abbrev pub speaker_at : List (Option ℕ) → List Leaf → Leaf → Option ℕ → Option Speaker
speaker_at basics xs y place = option_and_then (met_speaker basics y) (option_and_then (slice_get xs) place)

-- what some leaves say, each with the number of the source's leaf that it meets
abbrev pub speakers_by : List (Option ℕ) → List Leaf → List Leaf → List (Option ℕ) → List Speaker
speakers_by basics xs ys found = filter_map (λ p. speaker_at basics xs p.0 p.1) (zip ys found)

-- what the target's leaves ys say, heard at those of the source's leaves xs that they meet
abbrev pub met_speakers : List (Option ℕ) → List NamedLeaf → List NamedLeaf → List Speaker
met_speakers basics xs ys =
    filter_map (λ y. option_and_then (λ x. met_speaker basics (leaf_of y) (leaf_of x)) (source_leaf xs y)) ys

-- what is said under a draft's catalogue by the leaves of a source's struct
abbrev pub carried_speakers : Outline → Draft → ℕ → List Speaker
carried_speakers o d s = met_speakers (basic_lengths d.catalogue) (source_form o s).leaves (target_form o d s).leaves

-- unless a node is raw, the speakers of its struct are these
abbrev pub SpeaksAs : Outline → Draft → List (List Speaker) → Head → Type 0
SpeaksAs o d structs x = x.index ≢ 0 → get_or structs x.index [] ≡ carried_speakers o d x.index
