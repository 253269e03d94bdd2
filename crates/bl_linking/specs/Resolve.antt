-- What resolve makes: the graph of a file, IN, in which what its placeholders stand for takes their place.
-- Which files are opened in which order, and what comes along, are this project's own.
use Rattle.std.specs.Prelude.{ℕ, zero, suc, ◌+◌, Bool, not, if◌then◌else◌, List, [], ◌∷◌, ◌++◌, length, take, drop, map, flat_map, filter, filter_map, sum, get_or, Option, Some, None, option_map, option_and_then, is_some}
use Rattle.std.specs.Str.{bytes_eq}
use Rattle.std.specs.Ordering.{is_lt, nat_cmp}
use Rattle.std.specs.Cmp.Lexicographic.{slice_cmp}
use Rattle.bl_selection.specs.declared.draft.Draft.{Draft}
use Rattle.bl_selection.specs.declared.draft.Entry.{Entry}
use Rattle.bl_format.specs.Words.{first_place, numbers_below, contains, numbers_reached}
use Rattle.bl_format.specs.Nodes.{File}
use Rattle.bl_selection.specs.Selection.{selection_graph, draft_of, no_file}
use Rattle.bl_linking.specs.References.{Graph, node_in, node_is_id, is_library, is_placeholder, group_nodes, references_of, name_capacity, with_users}
use Rattle.bl_linking.specs.Append.{Source, source, catalogue_in, name_in, local_ids, placeholders, local_named, file_in, placeholder_library, plain_nodes, kept_group, source_entries, image_number_by, added_entries, fresh_names, with_names}
use Rattle.bl_format.specs.Limits.{most_libraries}

-- the files that a shelf holds, by name
abbrev pub Shelf : Type 0
Shelf = List ℕ → Option File

-- a file that is open: its name, and what it holds. In a list of them file 0 is IN
pub record OpenFile : Type 0 where
  pub name : List ℕ
  pub at : Source

-- a file without nodes, where a number is out of range
abbrev pub no_open_file : OpenFile
no_open_file = record { name = []; at = record { file = no_file; nodes = [] } }

-- open file i
abbrev pub open_file_at : List OpenFile → ℕ → Source
open_file_at os i = (get_or os i no_open_file).at

-- ---- the nodes of all open files, numbered file after file

-- all nodes, each as file and node
abbrev pub all_nodes : List OpenFile → List (ℕ × ℕ)
all_nodes os = flat_map nodes_of (numbers_below (length os))
  where
    nodes_of : ℕ → List (ℕ × ℕ)
    nodes_of i = map (λ n. (i, n)) (numbers_below (length (open_file_at os i).nodes))

-- node k of all, as file and node
abbrev pub global_node : List OpenFile → ℕ → ℕ × ℕ
global_node os k = get_or (all_nodes os) k (0, 0)

-- the number of a node among all
abbrev pub global_number : List OpenFile → ℕ × ℕ → ℕ
global_number os p = sum (map (λ (o : OpenFile). length o.at.nodes) (take p.0 os)) + p.1

-- ---- what a placeholder stands for

-- the number of the open file of a name
abbrev pub file_named : List OpenFile → List ℕ → Option ℕ
file_named os name = first_place (λ (o : OpenFile). bytes_eq o.name name) os

-- what placeholder p of file i stands for: the first local ID of its full name in the file that its library
-- names, where that is open
unfoldable pub original_of : List OpenFile → ℕ → ℕ → Option (ℕ × ℕ)
original_of os i p = option_and_then id_in (option_and_then file_of (placeholder_library a p))
  where
    a : Source
    a = open_file_at os i

    file_of : ℕ → Option ℕ
    file_of l = file_named os (file_in a l)

    id_in : ℕ → Option (ℕ × ℕ)
    id_in j = option_map (λ n. (j, n)) (local_named (open_file_at os j) (name_in a p))

-- what node m of file i means: a placeholder means what it stands for, a library nothing, and any other
-- node itself
abbrev pub node_meant : List OpenFile → ℕ → ℕ → Option (ℕ × ℕ)
node_meant os i m =
    let c = catalogue_in (open_file_at os i) in
    let x = node_in (open_file_at os i).nodes m in
    if is_library c x then None else
    if is_placeholder c x then original_of os i m else
    Some (i, m)

-- the references of node n's group in its file
abbrev pub group_references : Source → ℕ → List ℕ
group_references a n = flat_map (references_of (catalogue_in a) a.nodes) (group_nodes a.nodes n)

-- a link over all open files: the group of x refers to y, or to a placeholder that stands for y
unfoldable pub leads_over : List OpenFile → ℕ → ℕ → Bool
leads_over os x y =
    let p = global_node os x in
    let meant = filter_map (node_meant os p.0) (group_references (open_file_at os p.0) p.1) in
    contains (map (global_number os) meant) y

-- the needed IDs: what IN's placeholders stand for, and all at the end of a chain of links from there
unfoldable pub needed_ids : List OpenFile → List ℕ
needed_ids os =
    let n = length (all_nodes os) in
    let roots = filter_map (original_of os 0) (placeholders (open_file_at os 0)) in
    numbers_reached (leads_over os) n n (map (global_number os) roots)

-- the placeholders to which the group of an ID refers, each as file and node
abbrev pub placeholders_from : List OpenFile → ℕ × ℕ → List (ℕ × ℕ)
placeholders_from os p =
    let a = open_file_at os p.0 in
    let found = filter (λ m. is_placeholder (catalogue_in a) (node_in a.nodes m)) (group_references a p.1) in
    map (λ m. (p.0, m)) found

-- the needed placeholders: those of IN, and those to which the group of a needed ID refers
unfoldable pub needed_placeholders : List OpenFile → List (ℕ × ℕ)
needed_placeholders os =
    map (λ p. (0, p)) (placeholders (open_file_at os 0))
    ++ flat_map (λ k. placeholders_from os (global_node os k)) (needed_ids os)

-- ---- opening

-- a text stands before another in byte order
abbrev pub path_less : List ℕ → List ℕ → Bool
path_less xs ys = is_lt (slice_cmp nat_cmp xs ys)

-- the least of some texts in byte order
abbrev pub least_path : List (List ℕ) → Option (List ℕ)
least_path [] = None
least_path (x ∷ xs) = Some (lesser x (least_path xs))
  where
    lesser : List ℕ → Option (List ℕ) → List ℕ
    lesser x None = x
    lesser x (Some y) = if path_less y x then y else x

-- the file that a placeholder's library names, by file and node
abbrev pub placeholder_path : List OpenFile → ℕ × ℕ → Option (List ℕ)
placeholder_path os p =
    option_map (file_in (open_file_at os p.0)) (placeholder_library (open_file_at os p.0) p.1)

-- the next file to open: the least in byte order that a needed placeholder's library names and that isn't
-- open
unfoldable pub next_path : List OpenFile → Option (List ℕ)
next_path os =
    let paths = filter_map (placeholder_path os) (needed_placeholders os) in
    least_path (filter (λ path. not (is_some (file_named os path))) paths)

-- the open files with one more, where one is needed and held
unfoldable pub with_next_file : Shelf → List OpenFile → List OpenFile
with_next_file held os = and_one (option_and_then file_of (next_path os))
  where
    file_of : List ℕ → Option OpenFile
    file_of path = option_map (λ f. record { name = path; at = source f }) (held path)

    and_one : Option OpenFile → List OpenFile
    and_one None = os
    and_one (Some o) = os ++ o ∷ []

-- the files that are open after so many steps
unfoldable pub files_opened_within : Shelf → ℕ → List OpenFile → List OpenFile
files_opened_within held zero os = os
files_opened_within held (suc n) os = with_next_file held (files_opened_within held n os)

-- the files that are open in the end: IN, and others as far as the limit goes
unfoldable pub opened_files : Shelf → List ℕ → List OpenFile
opened_files held name = from_in (held name)
  where
    from_in : Option File → List OpenFile
    from_in None = []
    from_in (Some f) = files_opened_within held most_libraries (record { name = name; at = source f } ∷ [])

-- ---- the output

-- a text put into texts that rise in byte order
abbrev pub with_name_in_order : List ℕ → List (List ℕ) → List (List ℕ)
with_name_in_order x [] = x ∷ []
with_name_in_order x (y ∷ ys) = if path_less x y then x ∷ y ∷ ys else y ∷ with_name_in_order x ys

-- some texts, rising in byte order
abbrev pub sorted_names : List (List ℕ) → List (List ℕ)
sorted_names [] = []
sorted_names (x ∷ xs) = with_name_in_order x (sorted_names xs)

-- the numbers of the open files beside IN, in the byte order of their names
abbrev pub other_files : List OpenFile → List ℕ
other_files os = filter_map (file_named os) (sorted_names (map (λ (o : OpenFile). o.name) (drop 1 os)))

-- the nodes of file i that are among some IDs of all
abbrev pub ids_in : List OpenFile → List ℕ → ℕ → List ℕ
ids_in os ids i =
    filter (λ n. contains ids (global_number os (i, n))) (numbers_below (length (open_file_at os i).nodes))

-- the entries of the output: IN's groups that no library or placeholder heads, and then, file by file, what
-- IN's catalogue keeps of the groups of the needed IDs
unfoldable pub resolved_entries : List OpenFile → List Entry
resolved_entries os =
    let ids = needed_ids os in
    source_entries 0 (plain_nodes (open_file_at os 0))
    ++ flat_map (λ i. source_entries i (flat_map (kept_in i) (ids_in os ids i))) (other_files os)
  where
    kept_in : ℕ → ℕ → List ℕ
    kept_in i n = kept_group (catalogue_in (open_file_at os 0)) (open_file_at os i) n

-- the selection of resolve, in which each node's image is that of what it means, before names and users are
-- set
unfoldable pub resolved_draft : List OpenFile → Draft
resolved_draft os =
    let a = open_file_at os 0 in
    draft_of a.file.header (catalogue_in a) es (map images_of (numbers_below (length os)))
  where
    es : List Entry
    es = resolved_entries os

    images_of : ℕ → List ℕ
    images_of i =
        map (λ n. image_number_by es (node_meant os i n)) (numbers_below (length (open_file_at os i).nodes))

-- the resolved graph over some open files: that of IN, and of what its placeholders need
unfoldable pub resolved_from : List OpenFile → Graph
resolved_from os =
    let a = open_file_at os 0 in
    let c = catalogue_in a in
    let d = resolved_draft os in
    let g = selection_graph (map (λ (o : OpenFile). o.at.file) os) d in
    let new_ids = added_entries (open_file_at os) d.entries g (node_is_id c) in
    let names = fresh_names (map (name_in a) (local_ids a)) (name_capacity c) new_ids in
    with_users c (with_names names g)

-- the resolved graph of the file of a name, over the files of a shelf
unfoldable pub resolved_graph : Shelf → List ℕ → Graph
resolved_graph held name = resolved_from (opened_files held name)
