-- What the pointers of nodes say, where it is given which leaves of each struct say anything: so they may say what they say
-- once they are carried to another catalogue. This project's own.
use Rattle.std.specs.Prelude.{◌≡◌, ◌<◌, ℕ, ◌==◌, if◌then◌else◌, All, List, [], ◌∷◌, length, flat_map, get_or, Some, None}
use Rattle.std.specs.List.{enumerate_from}
use Rattle.bl_num.specs.declared.number.Order.{Order}
use Rattle.bl_format.specs.declared.file.Header.{Header}
use Rattle.bl_format.specs.declared.file.Head.{Head}
use Rattle.bl_format.specs.declared.catalogue.Catalogue.{Catalogue}
use Rattle.bl_format.specs.declared.raw.RawKind.{RawKind}
use Rattle.bl_format.specs.declared.raw.View.{View}
use Rattle.bl_format.specs.Words.{numbers_below}
use Rattle.bl_format.specs.Layout.{struct_length}
use Rattle.bl_format.specs.Nodes.{payload}
use Rattle.bl_format.specs.Graph.{Target, Naming, elements}
use Rattle.bl_file.specs.declared.speakers.Speaker.{Speaker}
use Rattle.bl_file.specs.Seen.{Namings}
use Rattle.bl_file.specs.Speakers.{IsHeard, speaker_number}

-- a view of what is named, if anything is
abbrev pub views_of_target : RawKind → Target → List View
views_of_target kind None = []
views_of_target kind (Some n) = record { node = n; kind = kind } ∷ []

-- what the elements of a leaf say, in the bytes of an element of its struct
abbrev pub leaf_heard : Naming Target → Order → List ℕ → Speaker → List View
leaf_heard names order bytes x =
    flat_map (λ k. views_of_target x.kind (names (speaker_number order x bytes k))) (numbers_below x.count)

-- what some leaves say
abbrev pub element_heard : Naming Target → Order → List Speaker → List ℕ → List View
element_heard names order speakers bytes = flat_map (leaf_heard names order bytes) speakers

-- what a node says, by the leaves of each struct that say anything; a raw node says nothing
abbrev pub node_heard : List (List Speaker) → Naming Target → Header → Catalogue → List ℕ → Head → List View
node_heard structs names h c b x =
    if x.index == 0 then [] else
    flat_map (element_heard names h.order (get_or structs x.index []))
    (elements (payload h b x) (struct_length c x.index) x.count)

-- what all nodes say
unfoldable pub views_heard : List (List Speaker) → Namings → Header → Catalogue → List Head → List ℕ → List View
views_heard structs names h c nodes b = flat_map (λ p. node_heard structs (names p.0) h c b p.1) (enumerate_from 0 nodes)

-- for each struct of a catalogue there are leaves that can be heard in its elements
pub record AreHeard (c : Catalogue) (structs : List (List Speaker)) : Type 0 where
  pub len : length structs ≡ length c.structs
  pub each : (s : ℕ) → s < length c.structs → All (IsHeard (struct_length c s)) (get_or structs s [])
