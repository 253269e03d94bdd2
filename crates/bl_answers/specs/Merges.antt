-- What append, link and resolve refuse alike: files without the structs that they need, names that are
-- missing, texts that are too long, too many libraries. This project's own.
use Rattle.std.specs.Prelude.{ℕ, ◌&&◌, nat_lt, if◌then◌else◌, List, [], ◌∷◌, length, Option, Some, None, unwrap_or, codes, Bool, not, ◌==◌, get_or, ◌||◌, option_map, is_some, is_none}
use Rattle.std.specs.List.{find, list_any}
use Rattle.std.specs.Str.{bytes_eq}
use Rattle.bl_format.specs.declared.catalogue.Catalogue.{Catalogue}
use Rattle.bl_format.specs.Words.{first_place}
use Rattle.bl_format.specs.Layout.{struct_named, struct_number}
use Rattle.bl_format.specs.Nodes.{has_id_part, is_id}
use Rattle.bl_format.specs.Limits.{most_libraries}
use Rattle.bl_selection.specs.Selection.{index_under, no_head}
use Rattle.bl_linking.specs.References.{node_in, node_struct, id_struct, name_capacity, char_array, path_array}
use Rattle.bl_linking.specs.Append.{Source, catalogue_in, libraries, placeholders, placeholder_library, local_named}
use Rattle.bl_commands.specs.declared.ending.Ending.{Ending}
use Rattle.bl_commands.specs.declared.ending.Ending.TheVariants.{Missing, BadFile, PastLimit}
use Rattle.bl_commands.specs.declared.ending.FileFault.TheVariants.{StrayPlaceholder}
use Rattle.bl_commands.specs.declared.ending.Lack.TheVariants.{NoIdStruct, NoName, NoLibraryStruct, NoDatablock, NoStruct}
use Rattle.bl_commands.specs.declared.ending.Quantity.TheVariants.{PathBytes, NameBytes, Libraries}
use Rattle.bl_commands.specs.Checks.{ending_if, first_ending}

-- ---- a file by itself

-- a catalogue has no struct `ID`
abbrev pub lacks_id_struct : Catalogue → Bool
lacks_id_struct c = is_none (struct_named c (codes "ID"))

-- the fewest bytes that `name` of struct `ID` must have
abbrev pub least_name_capacity : ℕ
least_name_capacity = 16

-- its struct `ID` has no `name` that is by value a `char` array of so many elements
abbrev pub lacks_name : Catalogue → Bool
lacks_name c = is_none (char_array c (id_struct c) (codes "name")) || nat_lt (name_capacity c) least_name_capacity

-- the first placeholder without a library before it
abbrev pub stray_placeholder : Source → Option ℕ
stray_placeholder a = find (λ p. is_none (placeholder_library a p)) (placeholders a)

-- a file has a library whose struct isn't `Library`, or one and no path array
abbrev pub lacks_library_struct : Source → Bool
lacks_library_struct a = list_any lacks (libraries a)
  where
    lacks : ℕ → Bool
    lacks l =
        not (bytes_eq (node_struct (node_in a.nodes l)) (codes "Library"))
        || is_none (path_array (catalogue_in a))

-- why a file of a merge, of a name, is refused: for its catalogue, then its placeholders, then its
-- libraries
unfoldable pub file_refusal : List ℕ → Source → Option Ending
file_refusal name a =
    let stray = λ (p : ℕ). BadFile name (StrayPlaceholder (get_or a.file.nodes p no_head).at) in
    first_ending (
    ending_if (lacks_id_struct (catalogue_in a)) (Missing (NoIdStruct name))
    ∷ ending_if (lacks_name (catalogue_in a)) (Missing (NoName name))
    ∷ option_map stray (stray_placeholder a)
    ∷ ending_if (lacks_library_struct a) (Missing (NoLibraryStruct name))
    ∷ [])

-- ---- structs that are missing, by their names

-- a catalogue has struct `Library` at a number other than 0, and it has an ID part and a path array
abbrev pub has_library : Catalogue → Bool
has_library c =
    let s = struct_number c (codes "Library") in
    not (s == 0) && has_id_part c s && is_some (path_array c)

-- the struct that a new library or placeholder needs and a catalogue doesn't have
abbrev pub missing_struct : Catalogue → Option (List ℕ)
missing_struct c =
    if not (has_library c) then Some (codes "Library") else
    if struct_number c (codes "ID") == 0 then Some (codes "ID") else
    None

-- the struct of node n, an ID of its own file, where it is none under catalogue c
abbrev pub unfit_struct : Catalogue → Source → ℕ → Option (List ℕ)
unfit_struct c a n =
    let x = get_or a.file.nodes n no_head in
    if is_id c x.code x.count (index_under c (catalogue_in a) x.index) then None else
    Some (node_struct (node_in a.nodes n))

-- how a run ends for want of a struct
abbrev pub no_struct_ending : List ℕ → Ending
no_struct_ending name = Missing (NoStruct name)

-- ---- names, texts and values

-- the number of the first root name that no local ID has
abbrev pub missing_root : Source → List (List ℕ) → Option ℕ
missing_root b roots = first_place (λ name. is_none (local_named b name)) roots

-- how a run ends for want of root k
abbrev pub no_datablock_ending : List (List ℕ) → ℕ → Ending
no_datablock_ending roots k = Missing (NoDatablock (get_or roots k []))

-- the length of a text that doesn't fit an array with a zero
abbrev pub overlong_length : List ℕ → ℕ → Option ℕ
overlong_length text capacity = if nat_lt (length text) capacity then None else Some (length text)

-- the path capacity: how many bytes the path array has
abbrev pub path_capacity : Catalogue → ℕ
path_capacity c = unwrap_or (option_map (λ (p : List ℕ × ℕ). p.1) (path_array c)) 0

-- a text that is too long: a path or a name of so many bytes
pub data LongText : Type 0 where
  LongPath : (bytes : ℕ) → LongText
  LongName : (bytes : ℕ) → LongText

-- how a run ends by a text that is too long
abbrev pub long_text_ending : LongText → Ending
long_text_ending (LongPath n) = PastLimit PathBytes n
long_text_ending (LongName n) = PastLimit NameBytes n

-- how a run ends for so many libraries in its output, where they are too many
abbrev pub too_many_libraries : ℕ → Option Ending
too_many_libraries n = ending_if (nat_lt most_libraries n) (PastLimit Libraries n)
