-- Headers that are read, and what is wrong with others.
use Rattle.std.proofs.Common.{◌≡◌, [], ◌∷◌, Ok, Err, refl}
use Rattle.std.specs.Prelude.{codes, map}
use Rattle.bl_format.specs.declared.file.HeadFault.TheVariants.{Compressed, BadMagic, BadMark, BadVersion}
use Rattle.bl_format.specs.Blocks.{header_of, header_written}
use Rattle.bl_rows.proofs.Literals.{hex, header_4, header_8, header_4_big}

-- ends of the range of versions, and each mark
read_headers : map header_of (codes "BLENDER-v405" ∷ codes "BLENDER_V250rest" ∷ codes "BLENDER_v499" ∷ [])
    ≡ Ok (header_8 405) ∷ Ok (header_4_big 250) ∷ Ok (header_4 499) ∷ []
unfolding header_of
read_headers = refl

written_headers : map header_written (header_8 405 ∷ header_4_big 250 ∷ [])
    ≡ codes "BLENDER-v405" ∷ codes "BLENDER_V250" ∷ []
unfolding header_written
written_headers = refl

-- gzip and zstd, by their first bytes alone
compressed_files : map header_of (hex "1f8b08" ∷ hex "28b52ffd" ∷ []) ≡ Err Compressed ∷ Err Compressed ∷ []
unfolding header_of
compressed_files = refl

-- nothing, eleven bytes, and three of the four bytes of zstd
too_short : map header_of ([] ∷ codes "BLENDER-v40" ∷ hex "28b52f" ∷ [])
    ≡ Err BadMagic ∷ Err BadMagic ∷ Err BadMagic ∷ []
unfolding header_of
too_short = refl

-- the first place with a wrong byte: two marks, three digits, two wrong marks, and the longer header of new
-- versions
wrong_marks : map header_of (codes "BLENDER+v405" ∷ codes "BLENDER-x405" ∷ codes "BLENDER-v/05"
    ∷ codes "BLENDER-v4a5" ∷ codes "BLENDER-v40:" ∷ codes "BLENDER?x40?" ∷ codes "BLENDER17-01v0500" ∷ [])
    ≡ Err (BadMark 7) ∷ Err (BadMark 8) ∷ Err (BadMark 9) ∷ Err (BadMark 10) ∷ Err (BadMark 11)
    ∷ Err (BadMark 7) ∷ Err (BadMark 7) ∷ []
unfolding header_of
wrong_marks = refl

versions_not_read : map header_of (codes "BLENDER-v249" ∷ codes "BLENDER-v500" ∷ [])
    ≡ Err (BadVersion 249) ∷ Err (BadVersion 500) ∷ []
unfolding header_of
versions_not_read = refl
