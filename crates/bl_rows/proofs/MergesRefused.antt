-- What append, link and resolve refuse.
use Rattle.std.proofs.Common.{◌≡◌, ℕ, List, [], ◌∷◌, Option, None, Some, refl}
use Rattle.std.specs.Prelude.{map, codes}
use Rattle.bl_format.specs.declared.catalogue.Catalogue.{Catalogue}
use Rattle.bl_selection.specs.Fate.{first_clash}
use Rattle.bl_selection.specs.Selection.{selection_clash}
use Rattle.bl_linking.specs.Append.{Source, source, merge_of}
use Rattle.bl_linking.specs.Resolve.{OpenFile}
use Rattle.bl_commands.specs.declared.ending.Ending.{Ending}
use Rattle.bl_commands.specs.declared.ending.Ending.TheVariants.{BadFile, Missing, FloatCast}
use Rattle.bl_commands.specs.declared.ending.FileFault.TheVariants.{StrayPlaceholder}
use Rattle.bl_commands.specs.declared.ending.Lack.TheVariants.{NoIdStruct, NoName, NoDatablock, MissingDatablock, NoStruct}
use Rattle.bl_answers.specs.Resolve.{missing_datablock, resolve_no_struct, resolve_refusal}
use Rattle.bl_answers.specs.Append.{append_no_struct, append_too_long, append_refusal}
use Rattle.bl_answers.specs.Link.{link_no_struct, link_too_long, link_refusal}
use Rattle.bl_answers.specs.Merges.{LongName, file_refusal}
use Rattle.bl_rows.proofs.Evaluation.{merging}
use Rattle.bl_rows.proofs.Literals.{code, catalogue, file, head, header_8}
use Rattle.bl_rows.proofs.Example.{example_8, rigs, with_float, without_mesh}
use Rattle.bl_rows.proofs.SmallFiles.{into, ring_a, ring_c}

unfoldable refusals : ℕ
unfolding merging missing_datablock append_no_struct link_no_struct resolve_no_struct append_too_long link_too_long file_refusal append_refusal link_refusal resolve_refusal first_clash selection_clash
refusals = 0

-- a file without nodes
abbrev empty : Catalogue → Source
empty c = source (file (header_8 405) c [] [])

-- ---- of one file

-- no struct `ID`, a name of 15 bytes, and the example
catalogues_refused : map (λ c. file_refusal (codes "f") (empty c)) (catalogue [] [] []
    ∷ catalogue (codes "name[15]" ∷ []) ((codes "char", 1) ∷ (codes "ID", 15) ∷ []) ((1, (0, 0) ∷ []) ∷ [])
    ∷ example_8 ∷ [])
    ≡ Some (Missing (NoIdStruct (codes "f"))) ∷ Some (Missing (NoName (codes "f"))) ∷ None ∷ []
unfolding refusals
catalogues_refused = refl

-- a placeholder before any library, with the place of its head
stray : file_refusal (codes "f") (source (file (header_8 405) example_8 [] (head (code "ID") 104 0 1 1 12
    ∷ [])))
    ≡ Some (BadFile (codes "f") (StrayPlaceholder 12))
unfolding refusals
stray = refl

-- ---- append and link

abbrev appended : Catalogue → List (List ℕ) → Option Ending
appended c roots = append_refusal (merge_of (empty c) (source rigs) roots) roots

-- a root that isn't there, also behind one that is; a mesh under a catalogue without `Mesh`; a mesh under
-- one where a number is a float; and nothing
append_refused : appended example_8 (codes "OBCube" ∷ codes "OBNone" ∷ [])
    ∷ appended without_mesh (codes "MECube" ∷ [])
    ∷ appended with_float (codes "OBCube" ∷ []) ∷ appended without_mesh (codes "OBCube" ∷ []) ∷ []
    ≡ Some (Missing (NoDatablock (codes "OBNone"))) ∷ Some (Missing (NoStruct (codes "Mesh")))
    ∷ Some (FloatCast (codes "Mesh") (codes "totco")) ∷ None ∷ []
unfolding refusals
append_refused = refl

-- a name of 16 bytes where there is room for 15 and a zero
link_refused : link_too_long (source into) (codes "p") (codes "OBabcdefghijklmn" ∷ [])
    ≡ Some (LongName 16)
unfolding refusals
link_refused = refl

-- ---- resolve

-- `ring_c` links `OBb` from `b`, which isn't open; that it has another placeholder of `b`, to which nothing
-- refers, is no matter
abbrev without_b : List OpenFile
without_b = record { name = codes "a"; at = source ring_a }
    ∷ record { name = codes "c"; at = source ring_c } ∷ []

resolve_refused : resolve_refusal without_b ≡ Some (Missing (MissingDatablock (codes "OBb") (codes "b")))
unfolding refusals
resolve_refused = refl
