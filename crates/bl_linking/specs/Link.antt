-- What link makes: the graph of a file with placeholders for datablocks of another, and the library that
-- they belong to. The structs are Blender's `Library` and `ID`; what is made of them is this project's own.
use Rattle.std.specs.Prelude.{ℕ, ◌+◌, ◌-◌, not, ◌==◌, if◌then◌else◌, List, [], ◌∷◌, ◌++◌, length, take, drop, map, flat_map, filter, Option, Some, None, option_map, option_and_then, unwrap_or, slice_get, codes}
use Rattle.std.specs.List.{after_last}
use Rattle.std.specs.Option.{option_or}
use Rattle.std.specs.Str.{bytes_eq, byte}
use Rattle.bl_num.specs.declared.number.Width.{Width}
use Rattle.bl_format.specs.declared.layout.Kind.{Kind}
use Rattle.bl_format.specs.declared.layout.Kind.TheVariants as kinds
use Rattle.bl_format.specs.declared.catalogue.Catalogue.{Catalogue}
use Rattle.bl_selection.specs.declared.draft.Draft.{Draft}
use Rattle.bl_selection.specs.declared.draft.Entry.{Entry}
use Rattle.bl_selection.specs.declared.draft.Entry.TheVariants as entries
use Rattle.bl_selection.specs.declared.draft.MadeTo.{MadeTo}
use Rattle.bl_selection.specs.declared.draft.MadeTo.TheVariants as to
use Rattle.bl_selection.specs.declared.draft.MadeValue.{MadeValue}
use Rattle.bl_selection.specs.declared.draft.Made.{Made}
use Rattle.bl_format.specs.Words.{first_place, numbers_below, is_one_of}
use Rattle.bl_format.specs.Layout.{NamedLeaf, named_leaves, struct_number}
use Rattle.bl_format.specs.Nodes.{File}
use Rattle.std.specs.List.{enumerate_from}
use Rattle.bl_format.specs.Graph.{Path, path_of}
use Rattle.bl_selection.specs.Selection.{selection_graph, draft_of}
use Rattle.bl_linking.specs.Fresh.{fresh_name}
use Rattle.bl_linking.specs.References.{Graph, element_at, path_eq, id_struct, name_capacity, path_array, group_nodes, with_users}
use Rattle.bl_linking.specs.Append.{Source, source, catalogue_in, name_in, libraries, file_in, library_named, placeholders_of, plain_nodes, source_entries, image_number, first_of_each, used_names}

-- ---- made nodes

-- the values that a function of kind and path gives to the elements of the leaves of struct s, in order
unfoldable pub given_values : Catalogue → Width → ℕ → (Kind → Path → Option MadeTo) → List MadeValue
given_values c w s value =
    flat_map (λ p. values_of p.0 p.1) (enumerate_from 0 (named_leaves c w s))
  where
    value_list : ℕ → ℕ → Option MadeTo → List MadeValue
    value_list j k None = []
    value_list j k (Some v) = record { leaf = j; element = k; value = v } ∷ []

    value_at : ℕ → NamedLeaf → ℕ → List MadeValue
    value_at j x k = value_list j k (value x.kind (path_of x.way k))

    values_of : ℕ → NamedLeaf → List MadeValue
    values_of j x = flat_map (value_at j x) (numbers_below x.count)

-- a text given to the `char` array of an identifier behind some steps
abbrev pub text_given : Path → List ℕ → List ℕ → Path → Option MadeTo
text_given way identifier text path =
    option_map to.Number (option_and_then (slice_get text) (element_at way identifier path))

-- an entry given to the first element of `lib`, where that is a pointer
abbrev pub lib_given : ℕ → Kind → Path → Option MadeTo
lib_given e (kinds.Pointer depth t) path =
    if path_eq path ((codes "lib", 0) ∷ []) then Some (to.Node e) else None
lib_given e kind path = None

-- a made placeholder of a name, whose library is an entry
unfoldable pub made_placeholder : Catalogue → Width → ℕ → List ℕ → Made
made_placeholder c w library name =
    let s = id_struct c in
    let name_given = text_given [] (codes "name") name in
    record {
      code = codes "ID" ++ (0 ∷ 0 ∷ []);
      s = s;
      values = given_values c w s (λ kind p. option_or (name_given p) (lib_given library kind p));
    }

-- a made library of a name and a path
unfoldable pub made_library : Catalogue → Width → List ℕ → List ℕ → Made
made_library c w name path =
    let s = struct_number c (codes "Library") in
    let array = unwrap_or (option_map (λ (p : List ℕ × ℕ). p.0) (path_array c)) [] in
    let name_given = text_given ((codes "id", 0) ∷ []) (codes "name") name in
    record {
      code = codes "LI" ++ (0 ∷ 0 ∷ []);
      s = s;
      values = given_values c w s (λ kind p. option_or (name_given p) (text_given [] array path p));
    }

-- ---- the selection

-- the part of a path behind its last `/`, or all of it
abbrev pub last_part : List ℕ → List ℕ
last_part path = after_last (λ b. b == byte "/") path

-- the library that is made in A for a file: `LI` and the last part of the file's name, made fresh, and the
-- path with `//` before it
abbrev pub library_for : Source → List ℕ → Made
library_for a path =
    let c = catalogue_in a in
    let name = fresh_name (used_names a) (codes "LI" ++ last_part path) (name_capacity c) in
    made_library c a.file.header.width name (codes "//" ++ path)

-- the root names that aren't there yet, each once
abbrev pub new_names : List (List ℕ) → List (List ℕ) → List (List ℕ)
new_names there roots = first_of_each bytes_eq (filter (λ r. not (is_one_of r there)) roots)

-- made placeholders of some names, whose library is an entry
abbrev pub made_placeholders : Source → ℕ → List (List ℕ) → List Entry
made_placeholders a library names =
    map (λ name. entries.Made (made_placeholder (catalogue_in a) a.file.header.width library name)) names

-- the entries of library l of A: its group, and then those of its placeholders
abbrev pub library_entries : Source → ℕ → List Entry
library_entries a l = source_entries 0 (flat_map (group_nodes a.nodes) (l ∷ placeholders_of a l))

-- the nodes that are made behind some entries: placeholders of a library among these, and else a library
-- too
abbrev pub made_entries : Source → List ℕ → List (List ℕ) → List Entry → Option ℕ → List Entry
made_entries a path roots before (Some l) =
    let there = map (name_in a) (placeholders_of a l) in
    made_placeholders a (image_number before (0, l) - 1) (new_names there roots)
made_entries a path roots before None =
    entries.Made (library_for a path) ∷ made_placeholders a (length before) (new_names [] roots)

-- the entries of the output: A in append's order, with the made nodes behind the first library of the path
-- and its placeholders, or at the end
unfoldable pub linked_entries : Source → List ℕ → List (List ℕ) → List Entry
linked_entries a path roots =
    let ls = libraries a in
    let i = unwrap_or (first_place (λ l. bytes_eq (file_in a l) path) ls) (length ls) in
    let before = source_entries 0 (plain_nodes a) ++ flat_map (library_entries a) (take (i + 1) ls) in
    before
    ++ made_entries a path roots before (library_named a path)
    ++ flat_map (library_entries a) (drop (i + 1) ls)

-- the selection of link, before users are set
unfoldable pub linked_draft : Source → List ℕ → List (List ℕ) → Draft
linked_draft a path roots =
    let es = linked_entries a path roots in
    let images = map (λ n. image_number es (0, n)) (numbers_below (length a.nodes)) in
    draft_of a.file.header (catalogue_in a) es (images ∷ [])

-- the linked graph: that of A, with a library of the path and placeholders of the root names
unfoldable pub linked_graph : File → List ℕ → List (List ℕ) → Graph
linked_graph file path roots =
    with_users file.catalogue (selection_graph (file ∷ []) (linked_draft (source file) path roots))
