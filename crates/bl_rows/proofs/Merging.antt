-- What append, link and resolve make of files, against what is to come of them.
use Rattle.std.proofs.Common.{◌≡◌, ℕ, List, [], ◌∷◌, None, Some, refl}
use Rattle.std.specs.Prelude.{map, codes, if◌then◌else◌}
use Rattle.std.specs.Str.{bytes_eq}
use Rattle.bl_format.specs.Nodes.{File}
use Rattle.bl_selection.specs.Written.{written_form}
use Rattle.bl_linking.specs.References.{Graph, full_name, users_of, path_array}
use Rattle.bl_linking.specs.Append.{source, appended_graph}
use Rattle.bl_linking.specs.Link.{linked_graph}
use Rattle.bl_linking.specs.Resolve.{OpenFile, Shelf, next_path, with_next_file, resolved_from}
use Rattle.bl_rows.proofs.Evaluation.{merging, writing, leaves}
use Rattle.bl_rows.proofs.Literals.{header_4}
use Rattle.bl_rows.proofs.Example.{example_8, cubes, rigs}
use Rattle.bl_rows.proofs.SmallFiles.{small, into, lib, appended_bytes, linked_bytes, short_into, short_lib, short_bytes, scene, parts, scene_with_parts_bytes, linked_scene, linked_scene_bytes, ring_a, ring_b, ring_c, ring_bytes}
use Rattle.bl_rows.proofs.OddFiles.{odd, many_users, many_users_linked, headless, wide_lib, headless_with_wide, own_path}

-- a graph under catalogue `small`, as it is written
abbrev written : Graph → List ℕ
written g = written_form (header_4 405) small g

-- ---- append

-- the root, its parent and its mesh come along, and the object that only a bookkeeping pointer names
-- doesn't
abbrev rig : Graph
rig = appended_graph cubes rigs (codes "OBCube" ∷ [])

names_made_fresh : map full_name rig
    ≡ codes "OBCube" ∷ codes "OBCube.001" ∷ codes "OBCube.002" ∷ codes "OBRig" ∷ codes "MECube" ∷ []
unfolding merging
names_made_fresh = refl

users_counted : map (users_of example_8 rig) (0 ∷ 1 ∷ 2 ∷ 3 ∷ 4 ∷ []) ≡ 0 ∷ 0 ∷ 1 ∷ 1 ∷ 1 ∷ []
unfolding merging
users_counted = refl

-- libraries and placeholders, new and used again, between catalogues whose path arrays have other names
libraries_shared : written (appended_graph into lib (codes "OBa" ∷ [])) ≡ appended_bytes
unfolding merging writing
libraries_shared = refl

-- names of fewer than two bytes, and one that is cut before a character of two bytes
short_names : written (appended_graph short_into short_lib (codes "O" ∷ [])) ≡ short_bytes
unfolding merging writing
short_names = refl

-- a group without a head, heads of other codes, data of libraries, a wide file of the other order, and an
-- ID of the closure that is dropped
from_another_form : written (appended_graph headless wide_lib (codes "OBq" ∷ [])) ≡ headless_with_wide
unfolding merging writing
from_another_form = refl

-- ---- link

-- behind the first of two libraries of one path, each name once
linked_to_a_library : written (linked_graph into (codes "p") (codes "OBn" ∷ codes "OBz" ∷ codes "OBx"
    ∷ codes "OBn" ∷ []))
    ≡ linked_bytes
unfolding merging writing
linked_to_a_library = refl

-- where `name` of struct `Library` is a pointer the path stands in `filepath`; a `lib` that is no pointer
-- isn't set
odd_path_array : path_array odd ≡ Some (codes "filepath", 24)
unfolding leaves path_array
odd_path_array = refl

linked_oddly : written_form (header_4 405) odd (linked_graph many_users (codes "l") (codes "OBa" ∷ []))
    ≡ many_users_linked
unfolding merging writing
linked_oddly = refl

-- ---- resolve

abbrev open_as : List ℕ → File → OpenFile
open_as name f = record { name = name; at = source f }

-- a scene with parts: what is linked and then resolved is what is appended
appended_at_once : written (appended_graph scene parts (codes "OBa" ∷ codes "MEc" ∷ []))
    ≡ scene_with_parts_bytes
unfolding merging writing
appended_at_once = refl

linked_first : written (linked_graph scene (codes "b") (codes "OBa" ∷ codes "MEc" ∷ [])) ≡ linked_scene_bytes
unfolding merging writing
linked_first = refl

abbrev scene_and_parts : List OpenFile
scene_and_parts = open_as (codes "n") linked_scene ∷ open_as (codes "b") parts ∷ []

all_parts_open : next_path scene_and_parts ≡ None
unfolding merging
all_parts_open = refl

then_resolved : written (resolved_from scene_and_parts) ≡ scene_with_parts_bytes
unfolding merging writing
then_resolved = refl

-- three files in a ring: a needs c, c needs b, and b needs a
shelf : Shelf
shelf name =
    if bytes_eq name (codes "a") then Some ring_a else
    if bytes_eq name (codes "b") then Some ring_b else
    if bytes_eq name (codes "c") then Some ring_c else
    None

abbrev ring : List OpenFile
ring = open_as (codes "a") ring_a ∷ open_as (codes "c") ring_c ∷ open_as (codes "b") ring_b ∷ []

ring_opened : with_next_file shelf (with_next_file shelf (open_as (codes "a") ring_a ∷ [])) ≡ ring
unfolding merging shelf
ring_opened = refl

ring_all_open : next_path ring ≡ None
unfolding merging
ring_all_open = refl

ring_resolved : written (resolved_from ring) ≡ ring_bytes
unfolding merging writing
ring_resolved = refl

-- a library whose path is the name of the file itself
abbrev alone : List OpenFile
alone = open_as (codes "a") headless ∷ []

alone_is_all : next_path alone ≡ None
unfolding merging
alone_is_all = refl

own_path_resolved : written (resolved_from alone) ≡ own_path
unfolding merging writing
own_path_resolved = refl
