-- The IDs of a graph: their names, what refers to what, the closure of some roots, their users, and the
-- libraries. Names, users, the bit of a fake user and libraries are those of Blender's structs `ID` and
-- `Library`. This project's own: which slots are no references, closure, how users are counted, and where a
-- library's path stands.
use Rattle.std.specs.Prelude.{ℕ, ◌+◌, ◌-◌, ◌*◌, ◌/◌, ◌%◌, ◌^◌, min, Bool, true, false, not, ◌&&◌, ◌||◌, ◌==◌, nat_le, if◌then◌else◌, List, [], ◌∷◌, ◌++◌, length, take, drop, map, flat_map, filter, count_by, get_or, Option, Some, None, option_map, option_and_then, option_to_list, unwrap_or, is_some, pos, codes}
use Rattle.std.specs.List.{list_any, find}
use Rattle.std.specs.Option.{option_or}
use Rattle.std.specs.Str.{bytes_eq}
use Rattle.bl_num.specs.declared.number.Whole.{Whole}
use Rattle.bl_num.specs.Numbers.{bits_of, number_meant}
use Rattle.bl_format.specs.declared.catalogue.Catalogue.{Catalogue}
use Rattle.bl_format.specs.declared.layout.Kind.{Kind}
use Rattle.bl_format.specs.declared.layout.Kind.TheVariants as kinds
use Rattle.bl_format.specs.declared.raw.RawKind.TheVariants as raw
use Rattle.bl_format.specs.Words.{first_place, numbers_below, last_place, until_zero, numbers_reached, contains}
use Rattle.bl_format.specs.Layout.{member_numbers, struct_named, name_of, kind_of, member_entry, type_entry, struct_number}
use Rattle.bl_format.specs.Nodes.{is_id}
use Rattle.std.specs.List.{enumerate_from}
use Rattle.bl_format.specs.Graph.{Target, Value, Number, Points, Path, Fields, IsBytes, IsPointers, Node, Struct, Raw}

-- the nodes of a file, numbered from 0
abbrev pub Graph : Type 0
Graph = List Node

-- ---- nodes

-- a node that holds nothing, where a number is out of range
abbrev pub no_node : Node
no_node = Raw [] 0 0 raw.Bytes (IsBytes [])

-- node n of a graph
abbrev pub node_in : Graph → ℕ → Node
node_in g n = get_or g n no_node

-- a node's code
abbrev pub node_code : Node → List ℕ
node_code (Struct code name group es) = code
node_code (Raw code group n kind contents) = code

-- the number of a node's group
abbrev pub node_group : Node → ℕ
node_group (Struct code name group es) = group
node_group (Raw code group n kind contents) = group

-- the name of a node's struct, empty for a raw node
abbrev pub node_struct : Node → List ℕ
node_struct (Struct code name group es) = name
node_struct (Raw code group n kind contents) = []

-- the values of a node's first element, which an ID has alone
abbrev pub node_fields : Node → Fields
node_fields (Struct code name group es) = get_or es 0 []
node_fields (Raw code group n kind contents) = []

-- a node of a graph under catalogue c is an ID
unfoldable pub node_is_id : Catalogue → Node → Bool
node_is_id c (Struct code name group es) = is_id c code (length es) (struct_number c name)
node_is_id c (Raw code group n kind contents) = false

-- an ID of code `LI`
abbrev pub is_library : Catalogue → Node → Bool
is_library c x = node_is_id c x && bytes_eq (node_code x) (codes "LI" ++ (0 ∷ 0 ∷ []))

-- an ID of code `ID`, which stands for one of its name in a library's file
abbrev pub is_placeholder : Catalogue → Node → Bool
is_placeholder c x = node_is_id c x && bytes_eq (node_code x) (codes "ID" ++ (0 ∷ 0 ∷ []))

-- any other ID
abbrev pub is_local : Catalogue → Node → Bool
is_local c x = node_is_id c x && not (is_library c x) && not (is_placeholder c x)

-- the numbers of the nodes that pass
abbrev pub nodes_where : Graph → (Node → Bool) → List ℕ
nodes_where g p = filter (λ n. p (node_in g n)) (numbers_below (length g))

-- ---- members of the ID part

-- two steps of paths are the same
abbrev pub step_eq : (List ℕ × ℕ) → (List ℕ × ℕ) → Bool
step_eq x y = bytes_eq x.0 y.0 && x.1 == y.1

-- a path with its value
abbrev pub Field : Type 0
Field = Path × Value Target

-- which element a path names of the member of an identifier that stands behind some steps
abbrev pub element_at : Path → List ℕ → Path → Option ℕ
element_at [] identifier (x ∷ []) = if bytes_eq x.0 identifier then Some x.1 else None
element_at (step ∷ steps) identifier (x ∷ path) =
    if step_eq step x then element_at steps identifier path else None
element_at _ identifier _ = None

-- a path names an element of that member
abbrev pub is_element : Path → List ℕ → Path → Bool
is_element way identifier path = is_some (element_at way identifier path)

-- two paths are the same
abbrev pub path_eq : Path → Path → Bool
path_eq [] [] = true
path_eq (x ∷ xs) (y ∷ ys) = step_eq x y && path_eq xs ys
path_eq _ _ = false

-- the value at a path
abbrev pub value_at_path : Fields → Path → Option (Value Target)
value_at_path fs path = option_map (λ (x : Field). x.1) (find (λ (x : Field). path_eq x.0 path) fs)

-- the values of the elements of the member of an identifier behind some steps, in order
abbrev pub values_at : Path → List ℕ → Fields → List (Value Target)
values_at way identifier fs =
    map (λ (x : Field). x.1) (filter (λ (x : Field). is_element way identifier x.0) fs)

-- the steps to the ID part of a node: none in struct `ID`, and else its first member
abbrev pub id_way : Node → Path
id_way x = if bytes_eq (node_struct x) (codes "ID") then [] else (codes "id", 0) ∷ []

-- the member of an identifier in struct s
abbrev pub member_called : Catalogue → ℕ → List ℕ → Option ℕ
member_called c s identifier =
    first_place (λ k. bytes_eq (name_of c s k).identifier identifier) (member_numbers c s)

-- the number of struct `ID`; where there is none, a number that no struct has
abbrev pub id_struct : Catalogue → ℕ
id_struct c = unwrap_or (struct_named c (codes "ID")) (length c.structs)

-- the whole-number type that a leaf is of
abbrev pub whole_of : Kind → Option Whole
whole_of (kinds.Whole w) = Some w
whole_of k = None

-- the whole-number type of the member of an identifier in struct `ID`, where it is of one and has elements
unfoldable pub id_whole : Catalogue → List ℕ → Option Whole
id_whole c identifier = option_and_then whole_at (member_called c (id_struct c) identifier)
  where
    whole_at : ℕ → Option Whole
    whole_at k = if (name_of c (id_struct c) k).count == 0 then None else whole_of (kind_of c (id_struct c) k)

-- the byte of a `char`
abbrev pub byte_of : Value Target → ℕ
byte_of (Number z) = bits_of 1 z
byte_of v = 0

-- the bytes of the values of a `char` array, up to the first zero
abbrev pub text_from : List (Value Target) → List ℕ
text_from values = until_zero (map byte_of values)

-- the text in the `char` array of an identifier behind some steps
abbrev pub text_at : Path → List ℕ → Fields → List ℕ
text_at way identifier fs = text_from (values_at way identifier fs)

-- the name capacity: how many bytes `name` of struct `ID` has
abbrev pub name_capacity : Catalogue → ℕ
name_capacity c =
    let s = id_struct c in
    unwrap_or (option_map (λ k. (name_of c s k).count) (member_called c s (codes "name"))) 0

-- the full name of an ID
unfoldable pub full_name : Node → List ℕ
full_name x = text_at (id_way x) (codes "name") (node_fields x)

-- ---- references

-- the members of struct `ID` in which a file keeps its lists, whose slots are no references
abbrev pub bookkeeping : List (List ℕ)
bookkeeping = codes "next" ∷ codes "prev" ∷ codes "newid" ∷ codes "orig_id" ∷ codes "lib" ∷ []

-- a path in an ID names such a member of its own ID part
abbrev pub is_bookkeeping : Node → Path → Bool
is_bookkeeping x path = list_any (λ identifier. is_element (id_way x) identifier path) bookkeeping

-- the node that a value names
abbrev pub target_in : Value Target → Option ℕ
target_in (Points to) = to
target_in v = None

-- the nodes that the pointers of a node name, but for those of an ID's bookkeeping, slot by slot
unfoldable pub nodes_named_by : Catalogue → Node → List ℕ
nodes_named_by c (Struct code name group es) = flat_map (flat_map targets_of) es
  where
    x : Node
    x = Struct code name group es

    targets_of : Field → List ℕ
    targets_of f = if node_is_id c x && is_bookkeeping x f.0 then [] else option_to_list (target_in f.1)
nodes_named_by c (Raw code group n kind (IsPointers to)) = flat_map option_to_list to
nodes_named_by c (Raw code group n kind contents) = []

-- the references of a node: the IDs that it names, slot by slot
unfoldable pub references_of : Catalogue → Graph → ℕ → List ℕ
references_of c g n = filter (λ m. node_is_id c (node_in g m)) (nodes_named_by c (node_in g n))

-- all references of a graph in order, each as the node that refers and the ID that it names
unfoldable pub references : Catalogue → Graph → List (ℕ × ℕ)
references c g = flat_map (λ n. map (λ m. (n, m)) (references_of c g n)) (numbers_below (length g))

-- the nodes of node n's group
abbrev pub group_nodes : Graph → ℕ → List ℕ
group_nodes g n = nodes_where g (λ x. node_group x == node_group (node_in g n))

-- the library of placeholder n: the last one before it
unfoldable pub library_of : Catalogue → Graph → ℕ → Option ℕ
library_of c g n = last_place (is_library c) (take n g)

-- a link of the closure: the group of x refers to y, or x is a placeholder and y its library
unfoldable pub leads_to : Catalogue → Graph → ℕ → ℕ → Bool
leads_to c g x y =
    list_any (λ n. contains (references_of c g n) y) (group_nodes g x)
    || (is_placeholder c (node_in g x) && contains (option_to_list (library_of c g x)) y)

-- the IDs at the end of a chain of references that begins with a root, rising
unfoldable pub closure_of : Catalogue → Graph → List ℕ → List ℕ
closure_of c g roots = numbers_reached (leads_to c g) (length g) (length g) roots

-- ---- users

-- the greatest number that a whole-number type holds
abbrev pub greatest_number : Whole → ℕ
greatest_number w = if w.signed then 2 ^ (8 * w.bytes - 1) - 1 else 2 ^ (8 * w.bytes) - 1

-- the bit of `flag` that stands for a fake user, by which an ID is kept
abbrev pub fake_user_bit : ℕ
fake_user_bit = 512

-- that bit is set in the first of some values, among the bits of their type
abbrev pub has_fake_bit : Option Whole → List (Value Target) → Bool
has_fake_bit (Some w) (Number z ∷ vs) = bits_of w.bytes z / fake_user_bit % 2 == 1
has_fake_bit _ _ = false

-- an ID has a fake user, by the first element of `flag`
unfoldable pub is_fake : Catalogue → Node → Bool
is_fake c x =
    has_fake_bit (id_whole c (codes "flag")) (values_at (id_way x) (codes "flag") (node_fields x))

-- a number, at most the greatest of a type
abbrev pub number_that_fits : Option Whole → ℕ → ℕ
number_that_fits None n = n
number_that_fits (Some w) n = min n (greatest_number w)

-- the users of ID n: the references of the whole graph that name it, and one more where it has a fake user,
-- at most what `us` holds
unfoldable pub users_of : Catalogue → Graph → ℕ → ℕ
users_of c g n =
    let named = count_by (λ (r : ℕ × ℕ). r.1 == n) (references c g) in
    number_that_fits (id_whole c (codes "us")) (named + (if is_fake c (node_in g n) then 1 else 0))

-- ---- a graph with values set

-- a node with new values for some elements of the member of an identifier behind some steps
abbrev pub with_member : Path → List ℕ → (ℕ → Option (Value Target)) → Node → Node
with_member way identifier new (Struct code name group es) = Struct code name group (map (map with_new) es)
  where
    with_new : Field → Field
    with_new x = (x.0, unwrap_or (option_and_then new (element_at way identifier x.0)) x.1)
with_member way identifier new (Raw code group n kind contents) = Raw code group n kind contents

-- node n, which is x, with its number of users in the first element of `us`, where that is a whole number
unfoldable pub with_users_of : Catalogue → Graph → ℕ → Node → Node
with_users_of c g n x =
    let users = Number (pos (users_of c g n)) in
    if node_is_id c x && is_some (id_whole c (codes "us"))
    then with_member (id_way x) (codes "us") (λ k. if k == 0 then Some users else None) x
    else x

-- a graph in which every ID has its number of users
unfoldable pub with_users : Catalogue → Graph → Graph
with_users c g = map (λ p. with_users_of c g p.0 p.1) (enumerate_from 0 g)

-- element k of a `char` array that holds a text and then zeros
abbrev pub text_value : List ℕ → ℕ → Value Target
text_value text k = Number (number_meant (record { bytes = 1; signed = true }) (get_or text k 0))

-- an ID with a new name, which fills the array with zeros
unfoldable pub with_name : List ℕ → Node → Node
with_name name x = with_member (id_way x) (codes "name") (λ k. Some (text_value name k)) x

-- ---- libraries

-- the member of an identifier in struct s, where it is by value a `char` array of at least two elements:
-- the identifier, and how many elements it has
abbrev pub char_array : Catalogue → ℕ → List ℕ → Option (List ℕ × ℕ)
char_array c s identifier = option_and_then array_at (member_called c s identifier)
  where
    is_array : ℕ → Bool
    is_array k =
        not (name_of c s k).pointer
        && bytes_eq (type_entry c (member_entry c s k).type_number).name (codes "char")
        && nat_le 2 (name_of c s k).count

    array_at : ℕ → Option (List ℕ × ℕ)
    array_at k = if is_array k then Some (identifier, (name_of c s k).count) else None

-- the path array of struct `Library`: `name` where that is such an array, and else `filepath`
unfoldable pub path_array : Catalogue → Option (List ℕ × ℕ)
path_array c = option_and_then array_in (struct_named c (codes "Library"))
  where
    array_in : ℕ → Option (List ℕ × ℕ)
    array_in s = option_or (char_array c s (codes "name")) (char_array c s (codes "filepath"))

-- the path of a library, empty where there is no path array
unfoldable pub library_path : Catalogue → Node → List ℕ
library_path c x = path_by (path_array c)
  where
    path_by : Option (List ℕ × ℕ) → List ℕ
    path_by None = []
    path_by (Some a) = text_at [] a.0 (node_fields x)

-- a library with a new path, which fills the array with zeros
unfoldable pub with_path : Catalogue → List ℕ → Node → Node
with_path c path x = set_in (path_array c)
  where
    set_in : Option (List ℕ × ℕ) → Node
    set_in None = x
    set_in (Some a) = with_member [] a.0 (λ k. Some (text_value path k)) x

-- the name of a file on the shelf: a path without a leading `//`
abbrev pub shelf_name : List ℕ → List ℕ
shelf_name path = if bytes_eq (take 2 path) (codes "//") then drop 2 path else path
