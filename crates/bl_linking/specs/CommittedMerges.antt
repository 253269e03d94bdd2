-- What append, link, resolve and recount commit, by the bytes of their input files. This project's own.
use Rattle.std.specs.Prelude.{◌≡◌, ℕ, List, Option, None, Some}
use Rattle.bl_format.specs.Nodes.{File, Accepted}
use Rattle.bl_format.specs.Graph.{graph}
use Rattle.bl_selection.specs.Committed.{Stands}
use Rattle.bl_linking.specs.References.{with_users}
use Rattle.bl_linking.specs.Append.{appended_graph}
use Rattle.bl_linking.specs.Link.{linked_graph}
use Rattle.bl_linking.specs.Resolve.{Shelf, opened_files, next_path, resolved_graph}

-- the bytes that append commits, by those of INTO and LIB and the root names
pub record IsAppended (into lib : List ℕ) (roots : List (List ℕ)) (new : List ℕ) : Type 0 where
  pub a : File
  pub b : File
  pub into_accepted : Accepted into a
  pub lib_accepted : Accepted lib b
  pub stands : Stands new a.header a.catalogue (appended_graph a b roots)

-- the bytes that link commits, by those of INTO, LIB's name and the root names
pub record IsLinked (into path : List ℕ) (roots : List (List ℕ)) (new : List ℕ) : Type 0 where
  pub a : File
  pub into_accepted : Accepted into a
  pub stands : Stands new a.header a.catalogue (linked_graph a path roots)

-- each of some files is what the bytes held under its name are accepted as
abbrev pub HoldsFiles : (List ℕ → Option (List ℕ)) → Shelf → Type 0
HoldsFiles held files =
    (name : List ℕ) (f : File) → files name ≡ Some f → (b : List ℕ) × (held name ≡ Some b) × Accepted b f

-- the bytes that resolve commits, by all bytes held and IN's name; each file that is needed is open
pub record IsResolved (held : List ℕ → Option (List ℕ)) (name new : List ℕ) : Type 0 where
  pub files : Shelf
  pub holds : HoldsFiles held files
  pub a : File
  pub in_file : files name ≡ Some a
  pub all_open : next_path (opened_files files name) ≡ None
  pub stands : Stands new a.header a.catalogue (resolved_graph files name)

-- the bytes that recount commits, by those of IN: its graph, in which every ID has its number of users
pub record IsRecounted (old new : List ℕ) : Type 0 where
  pub file : File
  pub accepted : Accepted old file
  pub stands : Stands new file.header file.catalogue (with_users file.catalogue (graph file))
