-- Fresh names. The first two bytes are a code.
use Rattle.std.proofs.Common.{◌≡◌, [], ◌∷◌, ◌++◌, refl}
use Rattle.std.specs.Prelude.{codes, map}
use Rattle.bl_linking.specs.Fresh.{fresh_name}
use Rattle.bl_rows.proofs.Evaluation.{naming}
use Rattle.bl_rows.proofs.Literals.{hex}

not_used : fresh_name [] (codes "OBCube") 66 ≡ codes "OBCube"
unfolding naming
not_used = refl

-- the least number that makes the name new
used : map (λ names. fresh_name names (codes "OBCube") 66) ((codes "OBCube" ∷ []) ∷ (codes "OBCube" ∷ codes "OBCube.001" ∷ []) ∷ (codes "OBCube" ∷ codes "OBCube.002" ∷ []) ∷ [])
    ≡ codes "OBCube.001" ∷ codes "OBCube.002" ∷ codes "OBCube.001" ∷ []
unfolding naming
used = refl

-- a number that the name has is replaced
used_with_a_number : map (λ names. fresh_name names (codes "OBCube.001") 66) ((codes "OBCube.001" ∷ []) ∷ (codes "OBCube.001" ∷ codes "OBCube.002" ∷ []) ∷ [])
    ≡ codes "OBCube.002" ∷ codes "OBCube.003" ∷ []
unfolding naming
used_with_a_number = refl

-- a `.` without digits is no number, and a number may stand right behind the code
odd_numbers : fresh_name (codes "OBa." ∷ []) (codes "OBa.") 66 ∷ fresh_name (codes "OB.001"
    ∷ []) (codes "OB.001") 66 ∷ []
    ≡ codes "OBa..001" ∷ codes "OB.002" ∷ []
unfolding naming
odd_numbers = refl

-- a capacity of 16 bytes holds 15 and a zero; a character of two bytes isn't cut
cut_names : fresh_name [] (codes "OBabcdefghijklmnop") 16 ∷ fresh_name (codes "OBabcdefghijklm"
    ∷ []) (codes "OBabcdefghijklmnop") 16 ∷ fresh_name [] (codes "OBabcdefghijkl" ++ hex "c3a9") 16 ∷ []
    ≡ codes "OBabcdefghijklm" ∷ codes "OBabcdefghi.001" ∷ codes "OBabcdefghijkl" ∷ []
unfolding naming
cut_names = refl
