-- Selections: which nodes of some files, and which nodes made here, an output has, under which catalogue,
-- and what stands for a node that others name; the graph of a selection; and the rebuilt graph, that of all
-- nodes of a file that a catalogue keeps. This project's own.
use Rattle.std.specs.Prelude.{ℕ, zero, suc, ◌*◌, ◌%◌, ◌^◌, Bool, true, false, not, ◌&&◌, ◌||◌, ◌==◌, if◌then◌else◌, List, [], ◌∷◌, length, take, map, flat_map, filter, count_by, get_or, Option, Some, None, option_map, option_and_then, codes}
use Rattle.std.specs.List.{find}
use Rattle.bl_num.specs.declared.number.Order.TheVariants.{Little}
use Rattle.bl_num.specs.declared.number.Width.TheVariants.{Eight}
use Rattle.bl_num.specs.Numbers.{number_meant}
use Rattle.bl_format.specs.declared.file.Header.{Header}
use Rattle.bl_format.specs.declared.file.Head.{Head}
use Rattle.bl_format.specs.declared.catalogue.Catalogue.{Catalogue}
use Rattle.bl_format.specs.declared.layout.Kind.{Kind}
use Rattle.bl_format.specs.declared.layout.Kind.TheVariants as kinds
use Rattle.bl_format.specs.declared.raw.View.{View}
use Rattle.bl_selection.specs.declared.draft.Draft.{Draft}
use Rattle.bl_selection.specs.declared.draft.Entry.{Entry}
use Rattle.bl_selection.specs.declared.draft.Entry.TheVariants as entries
use Rattle.bl_selection.specs.declared.draft.Made.{Made}
use Rattle.bl_selection.specs.declared.draft.MadeValue.{MadeValue}
use Rattle.bl_selection.specs.declared.draft.MadeTo.{MadeTo}
use Rattle.bl_selection.specs.declared.draft.MadeTo.TheVariants as to
use Rattle.bl_selection.specs.declared.draft.Override.{Override}
use Rattle.bl_format.specs.Words.{find_map, numbers_below, last_place}
use Rattle.bl_format.specs.Layout.{NamedLeaf, named_leaves, struct_name, struct_number}
use Rattle.bl_format.specs.Nodes.{File, payload, is_data, group_of, is_id, raw_kind}
use Rattle.std.specs.List.{enumerate_from}
use Rattle.bl_format.specs.Graph.{Target, Value, Number, Pattern, Points, Opaque, Node, Struct, Raw, Naming, Cell, cells, fields, node_elements, contents_by, views_of, form_of, file_codes, file_names}
use Rattle.bl_selection.specs.Fate.{zero_of, carried_value, first_clash}

-- ---- looking things up; out of range there is an empty file and an empty head

-- a file without blocks
abbrev pub no_file : File
no_file = record {
  header = record { width = Eight; order = Little; version = 250 };
  catalogue = record { names = []; types = []; structs = [] };
  nodes = [];
  bytes = [];
}

-- a head without a code
abbrev pub no_head : Head
no_head = record { code = []; len = 0; address = 0; index = 0; count = 0; at = 0 }

-- source file i
abbrev pub file_at : List File → ℕ → File
file_at files i = get_or files i no_file

-- the head of node n of source file i
abbrev pub node_at : List File → ℕ → ℕ → Head
node_at files i n = get_or (file_at files i).nodes n no_head

-- the number in catalogue c of the struct with the name of a struct of another catalogue; 0 where there is
-- none, and for raw data
abbrev pub index_under : Catalogue → Catalogue → ℕ → ℕ
index_under c from zero = 0
index_under c from (suc s) = struct_number c (struct_name from (suc s))

-- ---- the entries as nodes

-- the code of an entry
abbrev pub entry_code : List File → Entry → List ℕ
entry_code files (entries.Source i n) = (node_at files i n).code
entry_code files (entries.Made m) = m.code
entry_code files (entries.Raw code bytes) = code

-- how many elements an entry has
abbrev pub entry_count : List File → Entry → ℕ
entry_count files (entries.Source i n) = (node_at files i n).count
entry_count files (entries.Made m) = 1
entry_count files (entries.Raw code bytes) = 1

-- the number of an entry's struct in catalogue c, and 0 for raw data
abbrev pub entry_index : List File → Catalogue → Entry → ℕ
entry_index files c (entries.Source i n) = index_under c (file_at files i).catalogue (node_at files i n).index
entry_index files c (entries.Made m) = m.s
entry_index files c (entries.Raw code bytes) = 0

-- the codes of all entries
abbrev pub entry_codes : List File → Draft → List (List ℕ)
entry_codes files d = map (entry_code files) d.entries

-- the entry is node n of file i
abbrev pub is_source : ℕ → ℕ → Entry → Bool
is_source i n (entries.Source j m) = i == j && n == m
is_source i n e = false

-- entry e of a draft
abbrev pub entry_at : Draft → ℕ → Entry
entry_at d e = get_or d.entries e (entries.Raw [] [])

-- entry e is an ID under the draft's catalogue
unfoldable pub entry_is_id : List File → Draft → ℕ → Bool
entry_is_id files d e =
    let x = entry_at d e in
    is_id d.catalogue (entry_code files x) (entry_count files x) (entry_index files d.catalogue x)

-- ---- pointers

-- the entry that an image number means: 0 means none, and 1 more than an entry's number that entry
abbrev pub image_numbered : ℕ → Option ℕ
image_numbered zero = None
image_numbered (suc e) = Some e

-- the entry that stands for node n of file i, its image
abbrev pub image_of : Draft → ℕ → ℕ → Option ℕ
image_of d i n = image_numbered (get_or (get_or d.images i []) n 0)

-- the group of entry e in the output
abbrev pub entry_group : List File → Draft → ℕ → ℕ
entry_group files d e = group_of (entry_codes files d) e

-- an entry as a pointer in entry e may name it: one of e's own group, or an ID
abbrev pub target_in_scope : List File → Draft → ℕ → ℕ → Option ℕ
target_in_scope files d e to =
    if entry_group files d to == entry_group files d e || entry_is_id files d to then Some to else None

-- what an address in node n of file i names from entry e: the image of what it names there, where that is
-- in scope
unfoldable pub entry_names : List File → Draft → ℕ → ℕ → ℕ → Naming Target
entry_names files d e i n address =
    let f = file_at files i in
    let target = file_names f (group_of (file_codes f) n) address in
    option_and_then (target_in_scope files d e) (option_and_then (image_of d i) target)

-- ---- values

-- the value that is given to a leaf of a kind
abbrev pub value_given : Kind → MadeTo → Value Target
value_given (kinds.Whole w) (to.Number v) = Number (number_meant w v)
value_given (kinds.Bits n) (to.Number v) = Pattern (v % 2 ^ (8 * n))
value_given (kinds.Pointer depth t) (to.Node e) = Points (Some e)
value_given (kinds.Pointer depth t) (to.Number v) = Points None
value_given k v = Opaque []

-- the value that is given to a leaf's element, and else another
abbrev pub given_or : NamedLeaf → Value Target → Option MadeTo → Value Target
given_or x v None = v
given_or x v (Some m) = value_given x.kind m

-- what overrides element k of leaf j in element p of entry e
abbrev pub override_at : Draft → ℕ → ℕ → ℕ → ℕ → Option MadeTo
override_at d e p j k = option_map (λ (o : Override). o.value) (find is_it d.overrides)
  where
    is_it : Override → Bool
    is_it o = o.entry == e && o.part == p && o.leaf == j && o.element == k

-- what a made node gives to element k of leaf j
abbrev pub given_at : Made → ℕ → ℕ → Option MadeTo
given_at m j k =
    option_map (λ (v : MadeValue). v.value) (find (λ (v : MadeValue). v.leaf == j && v.element == k) m.values)

-- the cells of element p of entry e, of struct t, by what gives its values before overrides
abbrev pub overridden_cells : Draft → ℕ → ℕ → ℕ → (ℕ → NamedLeaf → ℕ → Value Target) → List Cell
overridden_cells d e p t value =
    let leaves = named_leaves d.catalogue d.header.width t in
    cells (λ j x k. given_or x (value j x k) (override_at d e p j k)) leaves

-- the cells of each element of entry e, which is node n of file i, a struct node
abbrev pub source_cells : List File → Draft → ℕ → ℕ → ℕ → List (List Cell)
source_cells files d e i n =
    let f = file_at files i in
    let x = node_at files i n in
    let from = named_leaves f.catalogue f.header.width x.index in
    let t = index_under d.catalogue f.catalogue x.index in
    let names = entry_names files d e i n in
    let value = λ (bytes : List ℕ) (j : ℕ). carried_value None names f.header.order from bytes in
    map (λ p. overridden_cells d e p.0 t (value p.1)) (enumerate_from 0 (node_elements f x))

-- the cells of each element of entry e; a raw one has none
unfoldable pub entry_cells : List File → Draft → ℕ → Entry → List (List Cell)
entry_cells files d e (entries.Source i n) =
    if (node_at files i n).index == 0 then [] else source_cells files d e i n
entry_cells files d e (entries.Made m) =
    overridden_cells d e 0 m.s (λ j y k. given_or y (zero_of None y) (given_at m j k)) ∷ []
entry_cells files d e (entries.Raw code bytes) = []

-- ---- the first refusal

-- the first float that an entry would carry to another number, by the target's struct and member
abbrev pub clash_of : List File → Draft → Entry → Option (ℕ × ℕ)
clash_of files d (entries.Source i n) =
    let f = file_at files i in
    let s = (node_at files i n).index in
    let t = index_under d.catalogue f.catalogue s in
    if s == 0 then None else
    first_clash (named_leaves f.catalogue f.header.width s) (named_leaves d.catalogue d.header.width t)
clash_of files d e = None

-- the first that any entry would carry so
unfoldable pub selection_clash : List File → Draft → Option (ℕ × ℕ)
selection_clash files d = find_map (clash_of files d) d.entries

-- ---- the graph

-- what the pointers of entry e say of the raw entries that they name
abbrev pub entry_views : List File → Draft → ℕ → Entry → List View
entry_views files d e x = flat_map (views_of d.catalogue) (entry_cells files d e x)

-- what all pointers of a draft say
unfoldable pub selection_views : List File → Draft → List View
selection_views files d = flat_map (λ p. entry_views files d p.0 p.1) (enumerate_from 0 d.entries)

-- entry e as a node, by what all pointers say
unfoldable pub entry_node : List File → Draft → List View → ℕ → Entry → Node
entry_node files d views e (entries.Source i n) =
    let f = file_at files i in
    let x = node_at files i n in
    let g = entry_group files d e in
    let kind = raw_kind views x.code x.len e in
    let bytes = payload f.header f.bytes x in
    let contents = contents_by kind (entry_names files d e i n) (form_of f.header) bytes in
    if x.index == 0 then Raw x.code g x.count kind contents else
    Struct x.code (struct_name f.catalogue x.index) g (map fields (entry_cells files d e (entries.Source i n)))
entry_node files d views e (entries.Made m) =
    let es = map fields (entry_cells files d e (entries.Made m)) in
    Struct m.code (struct_name d.catalogue m.s) (entry_group files d e) es
entry_node files d views e (entries.Raw code bytes) =
    let kind = raw_kind views code (length bytes) e in
    Raw code (entry_group files d e) 1 kind (contents_by kind (λ a. None) (form_of d.header) bytes)

-- the graph of a selection: one node for each entry, in order
unfoldable pub selection_graph : List File → Draft → List Node
selection_graph files d =
    let views = selection_views files d in
    map (λ p. entry_node files d views p.0 p.1) (enumerate_from 0 d.entries)

-- ---- the rebuilt graph

-- a node is raw, or of a struct that catalogue c has at a number other than 0
abbrev pub has_struct : Catalogue → Catalogue → Head → Bool
has_struct c from x = x.index == 0 || not (index_under c from x.index == 0)

-- the node that heads node k's group, by the codes of all nodes
abbrev pub head_of : List (List ℕ) → ℕ → Option ℕ
head_of codes k = last_place (λ code. not (is_data code)) (take (suc k) codes)

-- the head of a group, where there is one, is raw or of a struct that catalogue c has
abbrev pub head_has_struct : Catalogue → File → Option ℕ → Bool
head_has_struct c f None = true
head_has_struct c f (Some h) = has_struct c f.catalogue (get_or f.nodes h no_head)

-- node k of a file is kept under catalogue c: it and the head of its group are raw or of a struct there
unfoldable pub is_kept : Catalogue → File → ℕ → Bool
is_kept c f k =
    has_struct c f.catalogue (get_or f.nodes k no_head) && head_has_struct c f (head_of (file_codes f) k)

-- the nodes of a file that are kept under catalogue c
abbrev pub kept_nodes : Catalogue → File → List ℕ
kept_nodes c f = filter (is_kept c f) (numbers_below (length f.nodes))

-- images by which each of n nodes that is kept is its own image
abbrev pub own_images : (ℕ → Bool) → ℕ → List ℕ
own_images kept n = map (λ k. if kept k then suc (count_by kept (numbers_below k)) else 0) (numbers_below n)

-- a selection without overrides; the one place where a draft is made
abbrev pub draft_of : Header → Catalogue → List Entry → List (List ℕ) → Draft
draft_of h c es images = record { header = h; catalogue = c; entries = es; images = images; overrides = [] }

-- the selection of all kept nodes of a file, in order
abbrev pub whole_selection : File → Header → Catalogue → Draft
whole_selection f h c =
    draft_of h c (map (entries.Source 0) (kept_nodes c f)) (own_images (is_kept c f) (length f.nodes) ∷ [])

-- the rebuilt graph of a file under a header and a catalogue
unfoldable pub rebuilt_graph : File → Header → Catalogue → List Node
rebuilt_graph f h c = selection_graph (f ∷ []) (whole_selection f h c)
