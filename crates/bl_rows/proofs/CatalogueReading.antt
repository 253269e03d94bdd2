-- Catalogues: what is read from payloads, what is written, and what is wrong with other payloads.
use Rattle.std.proofs.Common.{◌≡◌, ℕ, List, [], ◌∷◌, ◌++◌, ◌+◌, length, Result, Ok, Err, refl}
use Rattle.std.specs.Prelude.{codes, take, drop, map}
use Rattle.bl_num.specs.declared.number.Order.TheVariants.{Little, Big}
use Rattle.bl_format.specs.declared.catalogue.Catalogue.{Catalogue}
use Rattle.bl_format.specs.declared.catalogue.SdnaFault.{SdnaFault}
use Rattle.bl_format.specs.declared.catalogue.SdnaFault.TheVariants.{BadTag, CutShort, BadIndex, TwoTypes, TwoStructs}
use Rattle.bl_format.specs.Schema.{catalogue_of, catalogue_written, padding_of, names_part, types_part, lengths_part, structs_part}
use Rattle.bl_rows.proofs.Evaluation.{payloads}
use Rattle.bl_rows.proofs.Literals.{hex, catalogue}
use Rattle.bl_rows.proofs.Example.{example_8, example_payload}

abbrev read : List ℕ → Result Catalogue SdnaFault
read p = catalogue_of Little p

-- the example's payload with other bytes from a place on
abbrev with_bytes : ℕ → List ℕ → List ℕ
with_bytes at new = take at example_payload ++ new ++ drop (at + length new) example_payload

-- ---- what is read and written

reads : read example_payload ≡ Ok example_8
unfolding payloads
reads = refl

writes : catalogue_written Little example_8 ≡ example_payload
unfolding payloads
writes = refl

highest_byte_first : catalogue_of Big (catalogue_written Big example_8) ≡ Ok example_8
unfolding payloads
highest_byte_first = refl

-- a catalogue of one struct with one member takes 56 bytes
abbrev one_member : Catalogue
one_member = catalogue (codes "x" ∷ []) ((codes "int", 4) ∷ (codes "P", 4) ∷ []) ((1, (0, 0) ∷ []) ∷ [])

writes_one_member : catalogue_written Little one_member
    ≡ codes "SDNANAME" ++ hex "010000007800" ++ hex "0000" ++ codes "TYPE" ++ hex "02000000696e74005000"
    ++ hex "0000" ++ codes "TLEN" ++ hex "04000400" ++ codes "STRC" ++ hex "010000000100010000000000"
unfolding payloads
writes_one_member = refl

-- the parts, with two bytes before the types and before the lengths, and none before the structs
parts : example_payload
    ≡ names_part Little example_8 ++ hex "0000" ++ types_part Little example_8 ++ hex "0000"
    ++ lengths_part Little example_8 ++ structs_part Little example_8
parts = refl

-- one type more: two bytes stand before the structs
abbrev with_a_type : Catalogue
with_a_type = record example_8 {
  types = example_8.types ++ record { name = codes "raw_data"; length = 0 }
      ∷ [];
}

paddings : map (λ c. padding_of (lengths_part Little c)) (example_8 ∷ with_a_type ∷ []) ≡ 0 ∷ 2 ∷ []
paddings = refl

reads_one_type_more : read (catalogue_written Little with_a_type) ≡ Ok with_a_type
unfolding payloads
reads_one_type_more = refl

-- padding and what stands behind the last struct may be anything
any_padding : read (with_bytes 142 (hex "0102") ++ codes "rest") ≡ Ok example_8
unfolding payloads
any_padding = refl

-- ---- what is wrong with others

wrong_tags : map read (with_bytes 0 (codes "SDNB") ∷ with_bytes 4 (codes "NAMF") ∷ [])
    ≡ Err (BadTag 0) ∷ Err (BadTag 4) ∷ []
unfolding payloads
wrong_tags = refl

-- nothing, three bytes, a last number that is gone, a count that is cut
payloads_cut_short : map read ([] ∷ take 3 example_payload ∷ take 390 example_payload
    ∷ take 363 example_payload ∷ [])
    ≡ Err (CutShort 0) ∷ Err (CutShort 0) ∷ Err (CutShort 390) ∷ Err (CutShort 362) ∷ []
unfolding payloads
payloads_cut_short = refl

-- a name without an end, a count that is too great, and a tag whose place lies past the end
names_cut_short : map (λ rest. read (codes "SDNANAME" ++ rest)) (hex "02000000610062" ∷ hex "ffffffff6100"
    ∷ hex "010000006100" ∷ [])
    ≡ Err (CutShort 14) ∷ Err (CutShort 14) ∷ Err (CutShort 16) ∷ []
unfolding payloads
names_cut_short = refl

-- a name's number and a struct's type number past the last one, and a member's type number before its name
-- is read
numbers_out_of_range : map read (with_bytes 390 (hex "1400") ∷ with_bytes 360 (hex "0e00")
    ∷ take 390 (with_bytes 388 (hex "0e00")) ∷ [])
    ≡ Err (BadIndex 390) ∷ Err (BadIndex 360) ∷ Err (BadIndex 388) ∷ []
unfolding payloads
numbers_out_of_range = refl

type_name_twice : read (with_bytes 169 (codes "short" ++ hex "0000")) ≡ Err (TwoTypes 169)
unfolding payloads
type_name_twice = refl

-- also where nothing follows the struct's type number
struct_type_twice : map read (with_bytes 360 (hex "0c00") ∷ take 362 (with_bytes 360 (hex "0c00")) ∷ [])
    ≡ Err (TwoStructs 360) ∷ Err (TwoStructs 360) ∷ []
unfolding payloads
struct_type_twice = refl
