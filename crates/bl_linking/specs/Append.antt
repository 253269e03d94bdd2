-- What append makes: the graph of one file with datablocks of another. Which datablocks come along, in
-- which order, how libraries are shared and names made fresh are this project's own.
use Rattle.std.specs.Prelude.{ℕ, zero, suc, Bool, not, ◌&&◌, ◌==◌, nat_lt, if◌then◌else◌, List, [], ◌∷◌, ◌++◌, length, take, map, flat_map, filter, filter_map, get_or, Option, Some, None, option_map, option_and_then, option_to_list, unwrap_or, is_some}
use Rattle.std.specs.List.{list_any, find}
use Rattle.std.specs.Str.{bytes_eq}
use Rattle.bl_format.specs.declared.catalogue.Catalogue.{Catalogue}
use Rattle.bl_selection.specs.declared.draft.Draft.{Draft}
use Rattle.bl_selection.specs.declared.draft.Entry.{Entry}
use Rattle.bl_selection.specs.declared.draft.Entry.TheVariants as entries
use Rattle.bl_format.specs.Words.{first_place, numbers_below, is_one_of, contains}
use Rattle.bl_format.specs.Nodes.{File}
use Rattle.std.specs.List.{enumerate_from}
use Rattle.bl_format.specs.Graph.{Node, graph}
use Rattle.bl_selection.specs.Selection.{is_source, selection_graph, is_kept, draft_of}
use Rattle.bl_linking.specs.Fresh.{fresh_name}
use Rattle.bl_linking.specs.References.{Graph, node_in, node_code, node_group, node_is_id, is_library, is_placeholder, is_local, nodes_where, full_name, name_capacity, group_nodes, library_of, library_path, closure_of, with_users, with_name, with_path, shelf_name}

-- ---- what a merge looks at in a file

-- a file with its graph
pub record Source : Type 0 where
  pub file : File
  pub nodes : Graph

-- a file as a source
abbrev pub source : File → Source
source f = record { file = f; nodes = graph f }

-- the catalogue of a source
abbrev pub catalogue_in : Source → Catalogue
catalogue_in a = a.file.catalogue

-- the group of node n
abbrev pub group_in : Source → ℕ → ℕ
group_in a n = node_group (node_in a.nodes n)

-- the full name of ID n
abbrev pub name_in : Source → ℕ → List ℕ
name_in a n = full_name (node_in a.nodes n)

-- the path of library l
abbrev pub path_in : Source → ℕ → List ℕ
path_in a l = library_path (catalogue_in a) (node_in a.nodes l)

-- the name of the file that library l names
abbrev pub file_in : Source → ℕ → List ℕ
file_in a l = shelf_name (path_in a l)

-- the local IDs of a source, in order
abbrev pub local_ids : Source → List ℕ
local_ids a = nodes_where a.nodes (is_local (catalogue_in a))

-- its libraries, in order
abbrev pub libraries : Source → List ℕ
libraries a = nodes_where a.nodes (is_library (catalogue_in a))

-- its placeholders, in order
abbrev pub placeholders : Source → List ℕ
placeholders a = nodes_where a.nodes (is_placeholder (catalogue_in a))

-- the first local ID of a full name
unfoldable pub local_named : Source → List ℕ → Option ℕ
local_named a name = find (λ n. bytes_eq (name_in a n) name) (local_ids a)

-- the first library that names a file
abbrev pub library_named : Source → List ℕ → Option ℕ
library_named a name = find (λ l. bytes_eq (file_in a l) name) (libraries a)

-- the library of placeholder p, if it has one
abbrev pub placeholder_library : Source → ℕ → Option ℕ
placeholder_library a p = library_of (catalogue_in a) a.nodes p

-- the placeholders of library l
abbrev pub placeholders_of : Source → ℕ → List ℕ
placeholders_of a l = filter (λ p. contains (option_to_list (placeholder_library a p)) l) (placeholders a)

-- the nodes of the groups that no library or placeholder heads
unfoldable pub plain_nodes : Source → List ℕ
plain_nodes a = filter (λ n. not (contains away (group_in a n))) (numbers_below (length a.nodes))
  where
    away : List ℕ
    away = map (group_in a) (libraries a ++ placeholders a)

-- the nodes of node n's group that catalogue c keeps
abbrev pub kept_group : Catalogue → Source → ℕ → List ℕ
kept_group c a n = filter (is_kept c a.file) (group_nodes a.nodes n)

-- ---- entries

-- some nodes of file i as entries
abbrev pub source_entries : ℕ → List ℕ → List Entry
source_entries i ns = map (entries.Source i) ns

-- the image number of a node, by file and node: 1 more than its entry's number, and 0 where it has no entry
abbrev pub image_number : List Entry → ℕ × ℕ → ℕ
image_number es p = unwrap_or (option_map suc (first_place (is_source p.0 p.1) es)) 0

-- the image number of the node that stands for another, 0 where none does
abbrev pub image_number_by : List Entry → Option (ℕ × ℕ) → ℕ
image_number_by es None = 0
image_number_by es (Some p) = image_number es p

-- ---- fresh names

-- the full name of an ID, or its code's two bytes where it has fewer than two
unfoldable pub old_name : Source → ℕ → List ℕ
old_name a n = if nat_lt (length (name_in a n)) 2 then take 2 (node_code (node_in a.nodes n)) else name_in a n

-- the entries of other files than the first whose nodes in graph g pass, each with its old name
abbrev pub added_entries : (ℕ → Source) → List Entry → Graph → (Node → Bool) → List (ℕ × List ℕ)
added_entries sources es g p = filter is_wanted (flat_map entry_with_name (enumerate_from 0 es))
  where
    is_wanted : ℕ × List ℕ → Bool
    is_wanted x = p (node_in g x.0)

    entry_with_name : ℕ × Entry → List (ℕ × List ℕ)
    entry_with_name (e, entries.Source (suc i) n) = (e, old_name (sources (suc i)) n) ∷ []
    entry_with_name (e, x) = []

-- some entries with fresh names for their old ones; a name once given is used
unfoldable pub fresh_names : List (List ℕ) → ℕ → List (ℕ × List ℕ) → List (ℕ × List ℕ)
fresh_names used capacity [] = []
fresh_names used capacity (x ∷ xs) =
    let new = fresh_name used x.1 capacity in
    (x.0, new) ∷ fresh_names (new ∷ used) capacity xs

-- a graph with new names for some of its nodes
abbrev pub with_names : List (ℕ × List ℕ) → Graph → Graph
with_names names g = map node_with_name (enumerate_from 0 g)
  where
    name_by : Node → Option (ℕ × List ℕ) → Node
    name_by x None = x
    name_by x (Some p) = with_name p.1 x

    node_with_name : ℕ × Node → Node
    node_with_name p = name_by p.1 (find (λ (x : ℕ × List ℕ). x.0 == p.0) names)

-- the names that are used in a source: those of its IDs but the placeholders
abbrev pub used_names : Source → List (List ℕ)
used_names a =
    let c = catalogue_in a in
    map (name_in a) (nodes_where a.nodes (λ x. node_is_id c x && not (is_placeholder c x)))

-- ---- append: the files A and B, and what of B is wanted

-- A, B, and the IDs of the roots' closure in B
pub record Merge : Type 0 where
  pub a : Source
  pub b : Source
  pub closure : List ℕ

-- A and B, and what roots of some names need of B
abbrev pub merge_of : Source → Source → List (List ℕ) → Merge
merge_of a b roots = record {
  a = a;
  b = b;
  closure = closure_of (catalogue_in b) b.nodes (filter_map (local_named b) roots);
}

-- file 0 is A, and any other is B
abbrev pub merge_file : Merge → ℕ → Source
merge_file m zero = m.a
merge_file m (suc i) = m.b

-- ---- libraries of the output, each with its placeholders

-- a library and its placeholders, each by file and node
pub record Branch : Type 0 where
  pub library : ℕ × ℕ
  pub placeholders : List (ℕ × ℕ)

-- of some elements the first of each sort: those that are like none before them
abbrev pub first_of_each : {X : Type 0} → (X → X → Bool) → List X → List X
first_of_each alike [] = []
first_of_each alike (x ∷ xs) = x ∷ filter (λ y. not (alike x y)) (first_of_each alike xs)

-- the libraries of the closure that name a file which A's don't, the first for each file
unfoldable pub new_libraries : Merge → List ℕ
new_libraries m = first_of_each same_file (filter is_new (libraries m.b))
  where
    same_file : ℕ → ℕ → Bool
    same_file k l = bytes_eq (file_in m.b k) (file_in m.b l)

    is_new : ℕ → Bool
    is_new l = contains m.closure l && not (is_some (library_named m.a (file_in m.b l)))

-- placeholder p belongs to a library that names a file
abbrev pub is_under : Source → List ℕ → ℕ → Bool
is_under b path p = list_any (λ l. bytes_eq (file_in b l) path) (option_to_list (placeholder_library b p))

-- the placeholders of the closure in a file that have none of some names, the first of each name
unfoldable pub new_placeholders : Merge → List ℕ → List (List ℕ) → List ℕ
new_placeholders m file names = first_of_each same_name (filter is_new (placeholders m.b))
  where
    same_name : ℕ → ℕ → Bool
    same_name p q = bytes_eq (name_in m.b p) (name_in m.b q)

    is_new : ℕ → Bool
    is_new p = contains m.closure p && is_under m.b file p && not (is_one_of (name_in m.b p) names)

-- the branch of library l of A: its own placeholders, and behind those of the first library of a file the
-- new ones in that file
abbrev pub old_branch : Merge → ℕ → Branch
old_branch m l =
    let file = file_in m.a l in
    let olds = placeholders_of m.a l in
    let is_first = contains (option_to_list (library_named m.a file)) l in
    let news = if is_first then new_placeholders m file (map (name_in m.a) olds) else [] in
    record { library = (0, l); placeholders = map (λ p. (0, p)) olds ++ map (λ p. (1, p)) news }

-- the branch of new library l of B: the new placeholders in its file
abbrev pub new_branch : Merge → ℕ → Branch
new_branch m l = record {
  library = (1, l);
  placeholders = map (λ p. (1, p)) (new_placeholders m (file_in m.b l) []);
}

-- the branches of the output: A's libraries, and then the new ones
unfoldable pub branches : Merge → List Branch
branches m = map (old_branch m) (libraries m.a) ++ map (new_branch m) (new_libraries m)

-- ---- the selection

-- the entries of a node's group: of A all of it, and of B what A's catalogue keeps
abbrev pub group_entries : Merge → ℕ × ℕ → List Entry
group_entries m (zero, n) = source_entries 0 (group_nodes m.a.nodes n)
group_entries m (suc i, n) = source_entries 1 (kept_group (catalogue_in m.a) m.b n)

-- the entries of a branch: the library's group, and then those of its placeholders
abbrev pub branch_entries : Merge → Branch → List Entry
branch_entries m x = group_entries m x.library ++ flat_map (group_entries m) x.placeholders

-- the entries of the output: A's groups that no library or placeholder heads, the groups of the local IDs
-- of the closure, and the branches
unfoldable pub appended_entries : Merge → List Branch → List Entry
appended_entries m bs =
    source_entries 0 (plain_nodes m.a)
    ++ flat_map (λ n. group_entries m (1, n)) (filter (contains m.closure) (local_ids m.b))
    ++ flat_map (branch_entries m) bs

-- the first branch whose library names a file
abbrev pub branch_named : Merge → List Branch → List ℕ → Option Branch
branch_named m bs file =
    find (λ (x : Branch). bytes_eq (file_in (merge_file m x.library.0) x.library.1) file) bs

-- the first placeholder of a name in a branch
abbrev pub placeholder_named : Merge → List ℕ → Branch → Option (ℕ × ℕ)
placeholder_named m name x =
    find (λ (p : ℕ × ℕ). bytes_eq (name_in (merge_file m p.0) p.1) name) x.placeholders

-- the node of the output that stands for node n of B: for a library the first one of its file, for a
-- placeholder the first of its name there, and any other node for itself
abbrev pub stand_in : Merge → List Branch → ℕ → Option (ℕ × ℕ)
stand_in m bs n =
    let c = catalogue_in m.b in
    let x = node_in m.b.nodes n in
    let branch_of = λ (l : ℕ). branch_named m bs (file_in m.b l) in
    let library_branch = option_and_then branch_of (placeholder_library m.b n) in
    if is_library c x then option_map (λ (y : Branch). y.library) (branch_of n) else
    if is_placeholder c x then option_and_then (placeholder_named m (name_in m.b n)) library_branch else
    Some (1, n)

-- the selection of append, before names, paths and users are set
unfoldable pub appended_draft : Merge → Draft
appended_draft m =
    let bs = branches m in
    let es = appended_entries m bs in
    let images_a = map (λ n. image_number es (0, n)) (numbers_below (length m.a.nodes)) in
    let images_b = map (λ n. image_number_by es (stand_in m bs n)) (numbers_below (length m.b.nodes)) in
    draft_of m.a.file.header (catalogue_in m.a) es (images_a ∷ images_b ∷ [])

-- ---- names and paths

-- the node of an entry, where a new library keeps its path and a new placeholder its name
abbrev pub with_old_text : Merge → Entry → Node → Node
with_old_text m (entries.Source (suc i) n) x =
    if is_library (catalogue_in m.a) x then with_path (catalogue_in m.a) (path_in m.b n) x else
    if is_placeholder (catalogue_in m.a) x then with_name (name_in m.b n) x else
    x
with_old_text m e x = x

-- a graph in which new libraries keep their paths and new placeholders their names
unfoldable pub with_old_texts : Merge → List Entry → Graph → Graph
with_old_texts m es g =
    map (λ (p : ℕ × Node). with_old_text m (get_or es p.0 (entries.Raw [] [])) p.1) (enumerate_from 0 g)

-- the appended graph: that of A, and of what roots of some names need of B
unfoldable pub appended_graph : File → File → List (List ℕ) → Graph
appended_graph file_a file_b roots =
    let m = merge_of (source file_a) (source file_b) roots in
    let c = catalogue_in m.a in
    let d = appended_draft m in
    let g = selection_graph (file_a ∷ file_b ∷ []) d in
    let new_ids = added_entries (merge_file m) d.entries g (is_local c) in
    let new_libs = added_entries (merge_file m) d.entries g (is_library c) in
    let names = fresh_names (used_names m.a) (name_capacity c) (new_ids ++ new_libs) in
    with_users c (with_names names (with_old_texts m d.entries g))
