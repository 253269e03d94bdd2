-- Queries, and what is printed for them.
use Rattle.std.proofs.Common.{◌≡◌, ℕ, List, [], ◌∷◌, ◌++◌, Result, Ok, Err, refl}
use Rattle.std.specs.Prelude.{flat_map, codes}
use Rattle.std.specs.Fmt.{digits}
use Rattle.bl_commands.specs.declared.path.QueryFault.{QueryFault}
use Rattle.bl_commands.specs.declared.report.Value.{Value}
use Rattle.bl_format.specs.Members.{extents}
use Rattle.bl_format.specs.Nodes.{File}
use Rattle.bl_format.specs.Graph.{graph}
use Rattle.bl_commands.specs.Texts.{value_text, fault_line}
use Rattle.bl_answers.specs.Query.{parts_of, way_in, place_in, answer_from, query_answer, answer_lines, query_ending}
use Rattle.bl_rows.proofs.Evaluation.{graphs, linking}
use Rattle.bl_rows.proofs.Literals.{lines}
use Rattle.bl_rows.proofs.Example.{three_objects, two_meshes}

unfoldable queries : ℕ
unfolding parts_of way_in place_in answer_from query_answer extents value_text fault_line digits
queries = 0

-- what is printed for an answer to a query of a name
abbrev printed : List ℕ → Result (List Value) QueryFault → List ℕ
printed name (Ok values) = answer_lines values
printed name (Err fault) = fault_line (query_ending (codes "f") name fault)

-- what is printed for some queries of a name
abbrev asked : File → List ℕ → List (List ℕ) → List ℕ
asked f name paths =
    let g = graph f in
    flat_map (λ path. printed name (query_answer f.catalogue f.header.width g name path)) paths

pointers : asked two_meshes (codes "MEa") (codes "index" ∷ codes "co" ∷ codes "users" ∷ codes "extra" ∷ [])
    ≡ lines (codes "null" ∷ codes "null" ∷ codes "null" ∷ codes "#1" ∷ [])
unfolding graphs linking queries
pointers = refl

behind_pointers : asked three_objects (codes "OBo2") (codes "parent->id.name" ∷ codes "data->totindex" ∷ [])
    ≡ lines (codes "\"OBo1\"" ∷ codes "2" ∷ [])
unfolding graphs linking queries
behind_pointers = refl

-- an array, a `char` array, and one element of it
arrays : asked three_objects (codes "OBo0") (codes "loc" ∷ codes "_pad" ∷ codes "_pad[1]" ∷ [])
    ≡ lines (codes "0x00000000" ∷ codes "0x00000000" ∷ codes "0x00000000" ∷ codes "\"\"" ∷ codes "0" ∷ [])
unfolding graphs linking queries
arrays = refl

query_faults : asked three_objects (codes "OBo9") (codes "type" ∷ [])
    ++ asked three_objects (codes "OBo0") (codes "dat" ∷ codes "type[0]" ∷ codes "loc[3]" ∷ codes "id"
    ∷ codes "type->x" ∷ codes "parent->type" ∷ codes "data->index->x" ∷ [])
    ≡ lines (codes "missing NoDatablock OBo9" ∷ codes "missing NoMember 0" ∷ codes "missing NotArray 0"
    ∷ codes "missing OutOfRange 0" ∷ codes "missing NotLeaf 0" ∷ codes "missing NotPointer 4"
    ∷ codes "missing NullPointer 6" ∷ codes "missing NotStruct 11" ∷ [])
unfolding graphs linking queries
query_faults = refl
