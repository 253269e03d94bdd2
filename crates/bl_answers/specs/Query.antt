-- Paths to leaves, and the answer to a query: the values at the end of its path, read off the graph. This
-- project's own.
use Rattle.std.specs.Prelude.{ℕ, ◌+◌, ◌&&◌, nat_lt, if◌then◌else◌, List, [], ◌∷◌, length, map, flat_map, Option, Some, None, option_map, unwrap_or, zero, suc, Bool, not, ◌==◌, take, drop, get_or, Result, Ok, Err}
use Rattle.std.specs.List.{find, prefix_len, slice_split}
use Rattle.std.specs.Str.{bytes_eq, byte}
use Rattle.bl_num.specs.declared.number.Width.{Width}
use Rattle.bl_format.specs.declared.catalogue.Catalogue.{Catalogue}
use Rattle.bl_format.specs.declared.layout.Kind.{Kind}
use Rattle.bl_format.specs.declared.layout.Kind.TheVariants as kinds
use Rattle.bl_format.specs.Words.{numbers_below, first_place}
use Rattle.bl_format.specs.Layout.{NamedLeaf, named_leaves, member_numbers, name_of, member_size, struct_number, no_leaf, inner_struct}
use Rattle.bl_format.specs.Graph.{Target, Value, Points, Fields, Node, Struct, path_of, Path}
use Rattle.bl_format.specs.Members.{is_word_byte, extents}
use Rattle.bl_selection.specs.Fate.{is_char}
use Rattle.bl_linking.specs.References.{Graph, node_in, node_is_id, nodes_where, full_name, text_from, path_eq}
use Rattle.bl_commands.specs.declared.report.Value.{Value as Shown}
use Rattle.bl_commands.specs.declared.report.Value.TheVariants.{Chars}
use Rattle.bl_commands.specs.declared.path.Part.{Part}
use Rattle.bl_commands.specs.declared.path.Place.{Place}
use Rattle.bl_commands.specs.declared.path.PathFault.{PathFault}
use Rattle.bl_commands.specs.declared.path.PathFault.TheVariants.{Malformed, NoMember, NotArray, OutOfRange, NotLeaf}
use Rattle.bl_commands.specs.declared.path.PathFault.TheVariants as faults
use Rattle.bl_commands.specs.declared.path.QueryFault.TheVariants as query_faults
use Rattle.bl_commands.specs.declared.path.QueryFault.{QueryFault}
use Rattle.bl_commands.specs.declared.path.QueryFault.TheVariants.{NoDatablock, Path as BadPath, NotPointer, NullPointer, NotStruct}
use Rattle.bl_commands.specs.declared.ending.Ending.{Ending}
use Rattle.bl_commands.specs.declared.ending.Ending.TheVariants.{NoCommand, Absent, Device, Missing}
use Rattle.bl_commands.specs.declared.ending.Ending.TheVariants as endings
use Rattle.bl_commands.specs.declared.ending.Lack.TheVariants as lacks
use Rattle.bl_commands.specs.Texts.{Text, line, value_text}
use Rattle.bl_commands.specs.Commands.{is_step}
use Rattle.bl_answers.specs.Values.{value_at, shown_value}

-- ---- steps that may have a fault

-- what follows a first step, unless that has a fault
infixl 10 ◌>>=◌
abbrev pub ◌>>=◌ : {A B E : Type 0} → Result A E → (A → Result B E) → Result B E
(Ok x) >>= f = f x
(Err fault) >>= f = Err fault

-- what there is, and else a fault
abbrev pub or_fault : {A E : Type 0} → E → Option A → Result A E
or_fault fault None = Err fault
or_fault fault (Some x) = Ok x

-- a step that only may have a fault
abbrev pub unless_fault : {E : Type 0} → Option E → Result ℕ E
unless_fault None = Ok 0
unless_fault (Some fault) = Err fault

-- ---- texts as paths

-- pieces of a text with their places, from a first place on, with so many bytes between each two
abbrev pub pieces_with_places : ℕ → ℕ → List (List ℕ) → List (ℕ × List ℕ)
pieces_with_places gap at [] = []
pieces_with_places gap at (x ∷ xs) = (at, x) ∷ pieces_with_places gap (at + length x + gap) xs

-- the first of some numbers, where there are any
abbrev pub first_number : Option (List ℕ) → Option ℕ
first_number (Some (n ∷ ns)) = Some n
first_number _ = None

-- a step of a path at its place: an identifier, and the number of a bracket if there is one
abbrev pub part_of : ℕ × List ℕ → Part
part_of (at, step) =
    let n = prefix_len is_word_byte step in
    let rest = drop n step in
    record { identifier = take n step; index = first_number (extents (length rest) rest); at = at }

-- a path that begins at a place of a longer text: its steps, or the place of the first step without that
-- form
unfoldable pub parts_of : ℕ → List ℕ → Result (List Part) PathFault
parts_of at text = by_fault (find (λ (p : ℕ × List ℕ). not (is_step p.1)) steps)
  where
    steps : List (ℕ × List ℕ)
    steps = pieces_with_places 1 at (slice_split (λ b. b == byte ".") text)

    by_fault : Option (ℕ × List ℕ) → Result (List Part) PathFault
    by_fault None = Ok (map part_of steps)
    by_fault (Some p) = Err (Malformed p.0)

-- ---- the leaf that a path names

-- the member of an identifier in struct s that has a size above 0
abbrev pub member_at_path : Catalogue → Width → ℕ → List ℕ → Option ℕ
member_at_path c w s identifier = find is_it (member_numbers c s)
  where
    is_it : ℕ → Bool
    is_it k = bytes_eq (name_of c s k).identifier identifier && not (member_size c w s k == 0)

-- the fault of the index in a step to member k of struct s
abbrev pub index_fault : Catalogue → ℕ → ℕ → Part → Option PathFault
index_fault c s k p = by_index p.index
  where
    by_index : Option ℕ → Option PathFault
    by_index None = None
    by_index (Some i) =
        if not (name_of c s k).brackets then Some (NotArray p.at) else
        if nat_lt i (name_of c s k).count then None else
        Some (OutOfRange p.at)

-- the member that a step names in struct s, where its index is right
abbrev pub member_named : Catalogue → Width → ℕ → Part → Result ℕ PathFault
member_named c w s p = do
  k ← or_fault (NoMember p.at) (member_at_path c w s p.identifier)
  _ ← unless_fault (index_fault c s k p)
  Ok k

-- a step as a member and an element; an array without an index means its element 0
abbrev pub step_of : Part → List ℕ × ℕ
step_of p = (p.identifier, unwrap_or p.index 0)

-- the members and elements that some steps name in struct s, or the first fault of a step: the last one names a leaf,
-- and any other one a struct by value
unfoldable pub way_in : Catalogue → Width → ℕ → List Part → Result Path PathFault
way_in c w s [] = Ok []
way_in c w s (p ∷ []) = do
  k ← member_named c w s p
  _ ← unless_fault (option_map (λ t. NotLeaf p.at) (inner_struct c s k))
  Ok (step_of p ∷ [])
way_in c w s (p ∷ q ∷ ps) = do
  k ← member_named c w s p
  t ← or_fault (NoMember q.at) (inner_struct c s k)
  steps ← way_in c w t (q ∷ ps)
  Ok (step_of p ∷ steps)

-- the index in the last step
abbrev pub last_index : List Part → Option ℕ
last_index [] = None
last_index (p ∷ []) = p.index
last_index (p ∷ q ∷ ps) = last_index (q ∷ ps)

-- a path with element 0 of its last member
abbrev pub way_to_first : Path → Path
way_to_first [] = []
way_to_first (step ∷ []) = (step.0, 0) ∷ []
way_to_first (step ∷ next ∷ steps) = step ∷ way_to_first (next ∷ steps)

-- the leaf of struct s that some steps name, and the element that the last step gives, or the first fault
unfoldable pub place_in : Catalogue → Width → ℕ → List Part → Result Place PathFault
place_in c w s ps = do
  way ← way_in c w s ps
  Ok (record { leaf = leaf_of way; element = last_index ps })
  where
    leaf_of : Path → ℕ
    leaf_of way =
        let is_it = λ (x : NamedLeaf). path_eq (path_of x.way 0) (way_to_first way) in
        unwrap_or (first_place is_it (named_leaves c w s)) 0

-- ---- queries

-- what a query asks of a node: the number of its struct and the values of its element 0. A raw node or one
-- without elements has none
abbrev pub subject : Catalogue → Node → Option (ℕ × Fields)
subject c (Struct code name group (fs ∷ es)) = Some (struct_number c name, fs)
subject c x = None

-- the values of a leaf: of one element, of all, or the text of a `char` array
abbrev pub answer_at : Fields → NamedLeaf → Option ℕ → List Shown
answer_at fs x (Some k) = shown_value x.kind (value_at fs x k) ∷ []
answer_at fs x None =
    let values = map (value_at fs x) (numbers_below x.count) in
    if is_char x && nat_lt 1 x.count then Chars (text_from values) ∷ [] else map (shown_value x.kind) values

-- the node that a value names, as a leaf of a kind, or the fault of the arrow at a place that follows it
abbrev pub followed_node : ℕ → Kind → Value Target → Result ℕ QueryFault
followed_node arrow (kinds.Pointer depth t) (Points (Some m)) = Ok m
followed_node arrow (kinds.Pointer depth t) v = Err (NullPointer arrow)
followed_node arrow kind v = Err (NotPointer arrow)

-- what a path gives, where its fault is one of the query
abbrev pub of_path : {A : Type 0} → Result A PathFault → Result A QueryFault
of_path (Ok x) = Ok x
of_path (Err fault) = Err (BadPath fault)

-- the leaf of struct s that a path with its place names, and the element that its last step gives
abbrev pub leaf_named : Catalogue → Width → ℕ → ℕ × List ℕ → Result (NamedLeaf × Option ℕ) QueryFault
leaf_named c w s path = do
  parts ← of_path (parts_of path.0 path.1)
  place ← of_path (place_in c w s parts)
  Ok (get_or (named_leaves c w s) place.leaf no_leaf, place.element)

-- the struct number and the values behind a pointer, which is a value of a leaf of a kind, or the fault of the arrow at
-- a place
abbrev pub behind_pointer : Catalogue → Graph → ℕ → Kind → Value Target → Result (ℕ × Fields) QueryFault
behind_pointer c g arrow kind v = do
  m ← followed_node arrow kind v
  or_fault (NotStruct arrow) (subject c (node_in g m))

-- the answer to the rest of a query's paths, each with its place, from the values of an element of struct s
unfoldable pub answer_from : Catalogue → Width → Graph
    → ℕ → Fields → List (ℕ × List ℕ) → Result (List Shown) QueryFault
answer_from c w g s fs [] = Ok []
answer_from c w g s fs (path ∷ []) = do
  x ← leaf_named c w s path
  Ok (answer_at fs x.0 x.1)
answer_from c w g s fs (path ∷ next ∷ rest) = do
  x ← leaf_named c w s path
  inner ← behind_pointer c g (path.0 + length path.1) x.0.kind (value_at fs x.0 (unwrap_or x.1 0))
  answer_from c w g inner.0 inner.1 (next ∷ rest)

-- the paths of a query with their places; an arrow `->` stands between each two
abbrev pub query_steps : List ℕ → List (ℕ × List ℕ)
query_steps text = map without_arrow (pieces_with_places 1 0 (slice_split (λ b. b == byte "-") text))
  where
    without_arrow : ℕ × List ℕ → ℕ × List ℕ
    without_arrow (zero, piece) = (0, piece)
    without_arrow (suc at, piece) = (suc at + 1, drop 1 piece)

-- the answer to a query on the first ID of a full name, or its first fault
unfoldable pub query_answer : Catalogue → Width → Graph → List ℕ → List ℕ → Result (List Shown) QueryFault
query_answer c w g name text = do
  n ← or_fault NoDatablock (find has_name (nodes_where g (node_is_id c)))
  x ← or_fault NoDatablock (subject c (node_in g n))
  answer_from c w g x.0 x.1 (query_steps text)
  where
    has_name : ℕ → Bool
    has_name n = bytes_eq (full_name (node_in g n)) name

-- ---- what is printed

-- what query prints: one line for each value
abbrev pub answer_lines : List Shown → Text
answer_lines values = flat_map (λ v. line (value_text v ∷ [])) values

-- how a run ends by a fault of a path
abbrev pub path_ending : PathFault → Ending
path_ending (Malformed at) = NoCommand
path_ending (NoMember at) = Missing (lacks.NoMember at)
path_ending (NotArray at) = Missing (lacks.NotArray at)
path_ending (OutOfRange at) = Missing (lacks.OutOfRange at)
path_ending (NotLeaf at) = Missing (lacks.NotLeaf at)
path_ending faults.NoMemory = endings.NoMemory

-- how a run ends by a fault of a query, by the words IN and NAME
abbrev pub query_ending : List ℕ → List ℕ → QueryFault → Ending
query_ending file name NoDatablock = Missing (lacks.NoDatablock name)
query_ending file name (BadPath fault) = path_ending fault
query_ending file name (NotPointer at) = Missing (lacks.NotPointer at)
query_ending file name (NullPointer at) = Missing (lacks.NullPointer at)
query_ending file name (NotStruct at) = Missing (lacks.NotStruct at)
query_ending file name query_faults.Absent = Absent file
query_ending file name query_faults.Device = Device
query_ending file name query_faults.NoMemory = endings.NoMemory
