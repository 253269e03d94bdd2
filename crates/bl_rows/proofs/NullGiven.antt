-- Pointers that are given null, and other numbers.
use Rattle.std.proofs.Common.{◌≡◌, ℕ, List, [], ◌∷◌, ◌++◌, Bool, true, false, refl}
use Rattle.std.specs.Prelude.{map}
use Rattle.bl_format.specs.Words.{zeros}
use Rattle.bl_selection.specs.declared.draft.Draft.{Draft}
use Rattle.bl_selection.specs.declared.draft.Entry.TheVariants as entries
use Rattle.bl_selection.specs.declared.draft.MadeTo.{MadeTo}
use Rattle.bl_selection.specs.declared.draft.MadeTo.TheVariants as to
use Rattle.bl_selection.specs.declared.draft.MadeValue.{MadeValue}
use Rattle.bl_selection.specs.declared.draft.Override.{Override}
use Rattle.bl_selection.specs.Selection.{selection_graph}
use Rattle.bl_selection.specs.Written.{written_form}
use Rattle.bl_selection.specs.Drafts.{is_well_formed}
use Rattle.bl_rows.proofs.Literals.{hex, code, header_4}
use Rattle.bl_rows.proofs.Evaluation.{selecting, writing, drafts}
use Rattle.bl_rows.proofs.SmallFiles.{arrays, small, small_payload}

unfoldable nulling : ℕ
unfolding selecting writing drafts
nulling = 0

abbrev given : ℕ → ℕ → MadeTo → MadeValue
given leaf element value = record { leaf = leaf; element = element; value = value }

abbrev override : ℕ → ℕ → MadeTo → Override
override leaf element value = record { entry = 0; part = 0; leaf = leaf; element = element; value = value }

-- the mesh of `arrays` with its raw nodes, where the pointer to the pointers gets a value, and a made mesh whose
-- first pointer gets one
abbrev draft : MadeTo → MadeTo → Draft
draft a b = record {
  header = header_4 405;
  catalogue = small;
  entries = map (entries.Source 0) (0 ∷ 1 ∷ 2 ∷ 3 ∷ []) ++ entries.Made (record {
    code = code "ME";
    s = 4;
    values = given 4 0 (to.Number 77) ∷ given 4 1 (to.Number 69) ∷ given 4 2 (to.Number 110) ∷ given 7 0 b ∷ [];
  }) ∷ [];
  images = (1 ∷ 2 ∷ 3 ∷ 4 ∷ []) ∷ [];
  overrides = override 8 0 a ∷ [];
}

abbrev formed : MadeTo → MadeTo → Bool
formed a b = is_well_formed (arrays ∷ []) (draft a b)

-- null fits, other numbers don't; a node of the own group fits, a raw node of another group doesn't
null_fits : formed (to.Number 0) (to.Number 0) ∷ formed (to.Number 1) (to.Number 0)
    ∷ formed (to.Number 0) (to.Number 4294967296) ∷ formed (to.Node 2) (to.Number 0)
    ∷ formed (to.Number 0) (to.Node 2) ∷ formed (to.Number 0) (to.Node 0) ∷ []
    ≡ (true ∷ false ∷ false ∷ true ∷ false ∷ true ∷ [])
unfolding nulling
null_fits = refl

abbrev wanted : List ℕ
wanted =
    hex "424c454e4445525f763430354d45000032000000100000000400000001"
    ++ zeros 19
    ++ hex "4d4561"
    ++ zeros 19
    ++ hex "300000000000000040000000444154410e0000002000000000000000010000001000000000000000"
    ++ hex "10000000040044415441090000003000000000000000010000000100000002000000ff4441544104"
    ++ hex "000000400000000000000001000000010203044d45000032000000500000000400000001"
    ++ zeros 19
    ++ hex "4d456e"
    ++ zeros 31
    ++ hex "444e41315801"
    ++ zeros 10
    ++ hex "01000000"
    ++ small_payload
    ++ hex "454e4442"
    ++ zeros 16

-- null is written as 0, and the pointers that nothing names any more are bytes
null_written : written_form (header_4 405) small (selection_graph (arrays ∷ []) (draft (to.Number 0) (to.Number 0)))
    ≡ wanted
unfolding nulling
null_written = refl
