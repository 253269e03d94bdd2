-- References and users.
use Rattle.std.proofs.Common.{◌≡◌, [], ◌∷◌, refl}
use Rattle.std.specs.Prelude.{map, codes}
use Rattle.std.specs.Fmt.{digits}
use Rattle.bl_format.specs.Graph.{graph}
use Rattle.bl_selection.specs.Written.{written_form}
use Rattle.bl_linking.specs.References.{full_name, references, closure_of, with_users}
use Rattle.bl_answers.specs.ListIds.{list_text}
use Rattle.bl_rows.proofs.Evaluation.{graphs, linking, writing}
use Rattle.bl_rows.proofs.Literals.{header_4, lines}
use Rattle.bl_rows.proofs.Example.{example_8, three_objects, rigs}
use Rattle.bl_rows.proofs.SmallFiles.{small, counted, recounted_bytes}
use Rattle.bl_rows.proofs.OddFiles.{odd, bare, many_users, many_users_counted, uncounted, uncounted_bytes}

names : map full_name (graph three_objects)
    ≡ codes "OBo0" ∷ codes "MEm0" ∷ [] ∷ codes "OBo1" ∷ codes "MEm1" ∷ [] ∷ codes "OBo2" ∷ codes "MEm2" ∷ []
    ∷ []
unfolding graphs linking
names = refl

-- each object refers to its parent and to its mesh; the raw block that a mesh names is no ID
references_of_objects : references example_8 (graph three_objects)
    ≡ (0, 1) ∷ (3, 0) ∷ (3, 4) ∷ (6, 3) ∷ (6, 7) ∷ []
unfolding graphs linking
references_of_objects = refl

-- two parents of each other and a mesh; what only `id.next` names isn't reached
closure_of_a_rig : closure_of example_8 (graph rigs) (0 ∷ []) ≡ 0 ∷ 1 ∷ 2 ∷ []
unfolding graphs linking
closure_of_a_rig = refl

-- 7 users and a fake one, and no reference: one user
recounted : written_form (header_4 405) small (with_users small (graph counted)) ≡ recounted_bytes
unfolding graphs linking writing
recounted = refl

-- `us` of one byte holds 127 at most, and `flag` of one byte has no fake user
counted_in_one_byte : written_form (header_4 405) odd (with_users odd (graph many_users)) ≡ many_users_counted
unfolding graphs linking writing
counted_in_one_byte = refl

-- `us` without elements: nothing is cut, and nothing is written
listed_uncut : list_text bare (graph uncounted)
    ≡ lines (codes "#0 OB \"OBa\" Object users 0" ∷ codes "#2 OB \"OBb\" Object users 130" ∷ [])
unfolding graphs linking list_text digits
listed_uncut = refl

recounted_unchanged : written_form (header_4 405) bare (with_users bare (graph uncounted)) ≡ uncounted_bytes
unfolding graphs linking writing
recounted_unchanged = refl
