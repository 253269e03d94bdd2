-- Why link is refused, of accepted files: each check by itself, and then one behind another in the order of
-- refusals. The opening of files is not in it. This project's own.
use Rattle.std.specs.Prelude.{ℕ, ◌+◌, nat_lt, if◌then◌else◌, List, [], ◌∷◌, ◌++◌, length, map, Option, Some, None, codes, ◌||◌, option_map, is_some, is_none}
use Rattle.std.specs.Option.{option_or}
use Rattle.bl_format.specs.Words.{find_map}
use Rattle.bl_linking.specs.References.{name_capacity}
use Rattle.bl_linking.specs.Append.{Source, catalogue_in, name_in, libraries, library_named, placeholders_of}
use Rattle.bl_linking.specs.Link.{new_names}
use Rattle.bl_commands.specs.declared.ending.Ending.{Ending}
use Rattle.bl_commands.specs.Checks.{first_ending}
use Rattle.bl_answers.specs.Merges.{missing_struct, no_struct_ending, missing_root, no_datablock_ending, overlong_length, path_capacity, LongText, LongPath, LongName, long_text_ending, too_many_libraries}

-- the names of the placeholders that link makes
abbrev pub names_to_make : Source → List ℕ → List (List ℕ) → List (List ℕ)
names_to_make a path roots = by_library (library_named a path)
  where
    by_library : Option ℕ → List (List ℕ)
    by_library None = new_names [] roots
    by_library (Some l) = new_names (map (name_in a) (placeholders_of a l)) roots

-- the struct that link misses: one that a made library or placeholder needs
unfoldable pub link_no_struct : Source → List ℕ → List (List ℕ) → Option (List ℕ)
link_no_struct a path roots =
    let makes = is_none (library_named a path) || nat_lt 0 (length (names_to_make a path roots)) in
    if makes then missing_struct (catalogue_in a) else None

-- the first text of link that is too long: the path of a made library, or a root name
unfoldable pub link_too_long : Source → List ℕ → List (List ℕ) → Option LongText
link_too_long a path roots =
    let c = catalogue_in a in
    let overlong = overlong_length (codes "//" ++ path) (path_capacity c) in
    let long_path = if is_some (library_named a path) then None else option_map LongPath overlong in
    let long_name = λ (name : List ℕ). option_map LongName (overlong_length name (name_capacity c)) in
    option_or long_path (find_map long_name (names_to_make a path roots))

-- how many libraries the output of link has
abbrev pub linked_libraries : Source → List ℕ → ℕ
linked_libraries a path = length (libraries a) + (if is_some (library_named a path) then 0 else 1)

-- why link is refused, of such files
unfoldable pub link_refusal : Source → Source → List ℕ → List (List ℕ) → Option Ending
link_refusal a b path roots =
    first_ending (
    option_map (no_datablock_ending roots) (missing_root b roots)
    ∷ option_map no_struct_ending (link_no_struct a path roots)
    ∷ option_map long_text_ending (link_too_long a path roots)
    ∷ too_many_libraries (linked_libraries a path)
    ∷ [])
