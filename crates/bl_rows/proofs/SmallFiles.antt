-- Files of two small catalogues with pointers of 4 bytes, whose libraries keep their paths in members of
-- different names; and what is to come of them.
use Rattle.std.specs.Prelude.{ℕ, List, [], ◌∷◌, ◌++◌, codes}
use Rattle.bl_format.specs.declared.catalogue.Catalogue.{Catalogue}
use Rattle.bl_format.specs.Words.{zeros}
use Rattle.bl_format.specs.Nodes.{File}
use Rattle.bl_rows.proofs.Literals.{hex, code, header_4, head, file, catalogue}

-- names of 16 bytes, and a library path in `name`
abbrev pub small : Catalogue
small = catalogue
    (codes "*next" ∷ codes "*prev" ∷ codes "*newid" ∷ codes "*lib" ∷ codes "name[16]" ∷ codes "flag"
    ∷ codes "us" ∷ codes "id" ∷ codes "*parent" ∷ codes "*data" ∷ codes "*index" ∷ codes "**users"
    ∷ codes "*extra" ∷ [])
    ((codes "char", 1) ∷ (codes "uchar", 1) ∷ (codes "short", 2) ∷ (codes "ushort", 2)
    ∷ (codes "int", 4) ∷ (codes "long", 4) ∷ (codes "ulong", 4) ∷ (codes "float", 4)
    ∷ (codes "double", 8) ∷ (codes "int64_t", 8) ∷ (codes "uint64_t", 8) ∷ (codes "void", 0)
    ∷ (codes "int8_t", 1) ∷ (codes "Zero", 0) ∷ (codes "ID", 38) ∷ (codes "Library", 54)
    ∷ (codes "Object", 46) ∷ (codes "Mesh", 50) ∷ [])
    ((13, []) ∷ (14, (11, 0) ∷ (11, 1) ∷ (14, 2) ∷ (15, 3) ∷ (0, 4) ∷ (2, 5) ∷ (4, 6) ∷ [])
    ∷ (15, (14, 7) ∷ (0, 4) ∷ []) ∷ (16, (14, 7) ∷ (16, 8) ∷ (17, 9) ∷ [])
    ∷ (17, (14, 7) ∷ (4, 10) ∷ (16, 11) ∷ (11, 12) ∷ []) ∷ [])

-- names of 20 bytes, a pointer `orig_id`, and a library path in `filepath`
abbrev pub other : Catalogue
other = catalogue
    (codes "*next" ∷ codes "*prev" ∷ codes "*newid" ∷ codes "*lib" ∷ codes "name[20]" ∷ codes "flag"
    ∷ codes "us" ∷ codes "*orig_id" ∷ codes "id" ∷ codes "filepath[24]" ∷ codes "*parent"
    ∷ codes "*data" ∷ codes "*index" ∷ codes "**users" ∷ codes "*extra" ∷ [])
    ((codes "char", 1) ∷ (codes "uchar", 1) ∷ (codes "short", 2) ∷ (codes "ushort", 2)
    ∷ (codes "int", 4) ∷ (codes "long", 4) ∷ (codes "ulong", 4) ∷ (codes "float", 4)
    ∷ (codes "double", 8) ∷ (codes "int64_t", 8) ∷ (codes "uint64_t", 8) ∷ (codes "void", 0)
    ∷ (codes "int8_t", 1) ∷ (codes "Zero", 0) ∷ (codes "ID", 44) ∷ (codes "Library", 68)
    ∷ (codes "Object", 52) ∷ (codes "Mesh", 56) ∷ [])
    ((13, []) ∷ (14, (11, 0) ∷ (11, 1) ∷ (14, 2) ∷ (15, 3) ∷ (0, 4) ∷ (2, 5) ∷ (2, 6) ∷ (14, 7) ∷ [])
    ∷ (15, (14, 8) ∷ (0, 9) ∷ []) ∷ (16, (14, 8) ∷ (16, 10) ∷ (17, 11) ∷ [])
    ∷ (17, (14, 8) ∷ (4, 12) ∷ (16, 13) ∷ (11, 14) ∷ []) ∷ [])

-- the payload of `small`
abbrev pub small_payload : List ℕ
small_payload =
    hex "53444e41"
    ++ hex "4e414d450d000000"
    ++ hex "2a6e657874002a70726576002a6e65776964002a6c6962006e616d655b31365d00666c616700757300696400"
    ++ hex "2a706172656e74002a64617461002a696e646578002a2a7573657273002a657874726100"
    ++ hex "5459504512000000636861720075636861720073686f7274007573686f727400696e74006c6f6e6700756c6f"
    ++ hex "6e6700666c6f617400646f75626c6500696e7436345f740075696e7436345f7400766f696400696e74385f74"
    ++ hex "005a65726f004944004c696272617279004f626a656374004d65736800000000"
    ++ hex "544c454e01000100020002000400040004000400080008000800000001000000260036002e003200"
    ++ hex "53545243050000000d0000000e0007000b0000000b0001000e0002000f000300000004000200050004000600"
    ++ hex "0f0002000e00070000000400100003000e0007001000080011000900110004000e00070004000a0010000b00"
    ++ hex "0b000c00"

-- the payload of `other`
abbrev pub other_payload : List ℕ
other_payload =
    hex "53444e41"
    ++ hex "4e414d450f000000"
    ++ hex "2a6e657874002a70726576002a6e65776964002a6c6962006e616d655b32305d00666c6167007573002a6f72"
    ++ hex "69675f69640069640066696c65706174685b32345d002a706172656e74002a64617461002a696e646578002a"
    ++ hex "2a7573657273002a6578747261000000"
    ++ hex "5459504512000000636861720075636861720073686f7274007573686f727400696e74006c6f6e6700756c6f"
    ++ hex "6e6700666c6f617400646f75626c6500696e7436345f740075696e7436345f7400766f696400696e74385f74"
    ++ hex "005a65726f004944004c696272617279004f626a656374004d65736800000000"
    ++ hex "544c454e010001000200020004000400040004000800080008000000010000002c00440034003800"
    ++ hex "53545243050000000d0000000e0008000b0000000b0001000e0002000f000300000004000200050002000600"
    ++ hex "0e0007000f0002000e00080000000900100003000e00080010000a0011000b00110004000e00080004000c00"
    ++ hex "10000d000b000e00"

-- the bytes of a mesh whose pointers name an array of numbers, one of floats, one of pointers with a tail,
-- and bytes
abbrev pub arrays_bytes : List ℕ
arrays_bytes =
    codes "BLENDER_v405"
    ++ hex "4d45000032000000100000000400000001000000"
    ++ zeros 16 ++ hex "4d4561" ++ zeros 20 ++ hex "0200000001000000030000"
    ++ hex "444154410e000000000100000000000001000000"
    ++ hex "1000000000000000100000000400"
    ++ hex "4441544109000000000200000000000001000000"
    ++ hex "0100000002000000ff"
    ++ hex "4441544104000000000300000000000001000000"
    ++ hex "01020304"
    ++ hex "444e413158010000000000000000000001000000"
    ++ small_payload
    ++ codes "ENDB" ++ zeros 16

-- a mesh whose pointers name an array of numbers, one of floats, one of pointers with a tail, and bytes
abbrev pub arrays : File
arrays = file (header_4 405) small arrays_bytes
    (head (code "ME") 50 16 4 1 12 ∷ head (code "DATA") 14 256 0 1 82
    ∷ head (code "DATA") 9 512 0 1 116 ∷ head (code "DATA") 4 768 0 1 145 ∷ [])

-- `arrays` with the highest byte first: numbers are turned, bytes stay, and the tail of the pointers is
-- gone
abbrev pub arrays_big : List ℕ
arrays_big =
    codes "BLENDER_V405"
    ++ hex "00004d4500000032000000100000000400000001"
    ++ zeros 16 ++ hex "4d4561" ++ zeros 22 ++ hex "300000002000000040"
    ++ hex "444154410000000c000000200000000000000001"
    ++ hex "000000100000000000000010"
    ++ hex "4441544100000009000000300000000000000001"
    ++ hex "0000000100000002ff"
    ++ hex "4441544100000004000000400000000000000001"
    ++ hex "01020304"
    ++ hex "444e413100000158000000000000000000000001"
    ++ hex "53444e414e414d450000000d2a6e657874002a70726576002a6e65776964002a6c6962006e616d655b31365d"
    ++ hex "00666c6167007573006964002a706172656e74002a64617461002a696e646578002a2a7573657273002a6578"
    ++ hex "747261005459504500000012636861720075636861720073686f7274007573686f727400696e74006c6f6e67"
    ++ hex "00756c6f6e6700666c6f617400646f75626c6500696e7436345f740075696e7436345f7400766f696400696e"
    ++ hex "74385f74005a65726f004944004c696272617279004f626a656374004d65736800000000544c454e00010001"
    ++ hex "00020002000400040004000400080008000800000001000000260036002e00325354524300000005000d0000"
    ++ hex "000e0007000b0000000b0001000e0002000f0003000000040002000500040006000f0002000e000700000004"
    ++ hex "00100003000e0007001000080011000900110004000e00070004000a0010000b000b000c"
    ++ codes "ENDB" ++ zeros 16

-- the bytes of an object with 7 users and a fake user, whom nothing refers to
abbrev pub counted_bytes : List ℕ
counted_bytes =
    codes "BLENDER_v405"
    ++ hex "4f4200002e000000100000000300000001000000"
    ++ zeros 16 ++ hex "4f4261" ++ zeros 14 ++ hex "02070000000000000000000000"
    ++ hex "4f4200002e000000200000000300000001000000"
    ++ zeros 16 ++ hex "4f4262" ++ zeros 15 ++ hex "090000001000000000000000"
    ++ hex "444e413158010000000000000000000001000000"
    ++ small_payload
    ++ codes "ENDB" ++ zeros 16

-- an object with 7 users and a fake user, whom nothing refers to
abbrev pub counted : File
counted = file (header_4 405) small counted_bytes
    (head (code "OB") 46 16 3 1 12 ∷ head (code "OB") 46 32 3 1 78 ∷ [])

-- `counted` with one user
abbrev pub recounted_bytes : List ℕ
recounted_bytes =
    codes "BLENDER_v405"
    ++ hex "4f4200002e000000100000000300000001000000"
    ++ zeros 16 ++ hex "4f4261" ++ zeros 14 ++ hex "02020000000000000000000000"
    ++ hex "4f4200002e000000200000000300000001000000"
    ++ zeros 16 ++ hex "4f4262" ++ zeros 19 ++ hex "1000000000000000"
    ++ hex "444e413158010000000000000000000001000000"
    ++ small_payload
    ++ codes "ENDB" ++ zeros 16

-- the bytes of objects, and two libraries of one path with a placeholder each
abbrev pub into_bytes : List ℕ
into_bytes =
    codes "BLENDER_v405"
    ++ hex "4f4200002e000000100000000300000001000000"
    ++ zeros 16 ++ hex "4f4261" ++ zeros 19 ++ hex "4000000000000000"
    ++ hex "4c49000036000000200000000200000001000000"
    ++ zeros 16 ++ hex "4c4970" ++ zeros 19 ++ hex "2f2f70" ++ zeros 13
    ++ hex "4944000026000000300000000100000001000000"
    ++ zeros 12 ++ hex "200000004f4278" ++ zeros 19
    ++ hex "4944000026000000400000000100000001000000"
    ++ zeros 12 ++ hex "200000004f4279" ++ zeros 19
    ++ hex "4c49000036000000500000000200000001000000"
    ++ zeros 16 ++ hex "4c497032" ++ zeros 18 ++ hex "70" ++ zeros 15
    ++ hex "4944000026000000600000000100000001000000"
    ++ zeros 12 ++ hex "500000004f427a" ++ zeros 19
    ++ hex "444e413158010000000000000000000001000000"
    ++ small_payload
    ++ codes "ENDB" ++ zeros 16

-- objects, and two libraries of one path with a placeholder each
abbrev pub into : File
into = file (header_4 405) small into_bytes
    (head (code "OB") 46 16 3 1 12 ∷ head (code "LI") 54 32 2 1 78 ∷ head (code "ID") 38 48 1 1 152
    ∷ head (code "ID") 38 64 1 1 210 ∷ head (code "LI") 54 80 2 1 268 ∷ head (code "ID") 38 96 1 1 342 ∷ [])

-- the bytes of objects, meshes and raw blocks, and libraries whose paths and placeholders are partly those
-- of `into`
abbrev pub lib_bytes : List ℕ
lib_bytes =
    codes "BLENDER_v405"
    ++ hex "4f42000034000000100000000300000001000000"
    ++ zeros 16 ++ hex "4f4261" ++ zeros 25 ++ hex "4000000090000000"
    ++ hex "4f42000034000000180000000300000001000000"
    ++ zeros 16 ++ hex "4f4262" ++ zeros 25 ++ hex "7000000000000000"
    ++ hex "4c49000044000000200000000200000001000000"
    ++ zeros 16 ++ hex "4c4970" ++ zeros 25 ++ hex "70" ++ zeros 23
    ++ hex "494400002c000000300000000100000001000000"
    ++ zeros 12 ++ hex "200000004f4278006a756e6b" ++ zeros 20
    ++ hex "494400002c000000400000000100000001000000"
    ++ zeros 12 ++ hex "200000004f427a" ++ zeros 25
    ++ hex "4441544103000000480000000000000001000000"
    ++ hex "616263"
    ++ hex "4c49000044000000500000000200000001000000"
    ++ zeros 16 ++ hex "4c4971006a756e6b" ++ zeros 20 ++ hex "2f2f710072657374" ++ zeros 16
    ++ hex "494400002c000000600000000100000001000000"
    ++ zeros 12 ++ hex "500000004f426b" ++ zeros 25
    ++ hex "4c49000044000000680000000200000001000000"
    ++ zeros 16 ++ hex "4c4971" ++ zeros 25 ++ hex "71" ++ zeros 23
    ++ hex "494400002c000000700000000100000001000000"
    ++ zeros 12 ++ hex "680000004f426b" ++ zeros 25
    ++ hex "494400002c000000800000000100000001000000"
    ++ zeros 12 ++ hex "680000004f426d" ++ zeros 25
    ++ hex "4d45000038000000900000000400000001000000"
    ++ hex "20" ++ zeros 15 ++ hex "4d4561" ++ zeros 21 ++ hex "60000000000000009900000098000000"
    ++ hex "4441544108000000980000000000000001000000"
    ++ hex "1000000060000000"
    ++ hex "444154410c000000990000000000000001000000"
    ++ hex "800000007000000018000000"
    ++ hex "444e413174010000000000000000000001000000"
    ++ other_payload
    ++ codes "ENDB" ++ zeros 16

-- objects, meshes and raw blocks, and libraries whose paths and placeholders are partly those of `into`
abbrev pub lib : File
lib = file (header_4 405) other lib_bytes
    (head (code "OB") 52 16 3 1 12 ∷ head (code "OB") 52 24 3 1 84 ∷ head (code "LI") 68 32 2 1 156
    ∷ head (code "ID") 44 48 1 1 244 ∷ head (code "ID") 44 64 1 1 308
    ∷ head (code "DATA") 3 72 0 1 372 ∷ head (code "LI") 68 80 2 1 395
    ∷ head (code "ID") 44 96 1 1 483 ∷ head (code "LI") 68 104 2 1 547
    ∷ head (code "ID") 44 112 1 1 635 ∷ head (code "ID") 44 128 1 1 699
    ∷ head (code "ME") 56 144 4 1 763 ∷ head (code "DATA") 8 152 0 1 839
    ∷ head (code "DATA") 12 153 0 1 867 ∷ [])

-- `into` with `OBa` of `lib`
abbrev pub appended_bytes : List ℕ
appended_bytes =
    codes "BLENDER_v405"
    ++ hex "4f4200002e000000100000000300000001000000"
    ++ zeros 16 ++ hex "4f4261" ++ zeros 19 ++ hex "9000000000000000"
    ++ hex "4f4200002e000000200000000300000001000000"
    ++ zeros 16 ++ hex "4f42612e303031" ++ zeros 15 ++ hex "a000000040000000"
    ++ hex "4f4200002e000000300000000300000001000000"
    ++ zeros 16 ++ hex "4f4262" ++ zeros 15 ++ hex "01000000f000000000000000"
    ++ hex "4d45000032000000400000000400000001000000"
    ++ hex "70" ++ zeros 15 ++ hex "4d4561" ++ zeros 15 ++ hex "01000000000000006000000050000000"
    ++ hex "4441544108000000500000000000000001000000"
    ++ hex "1000000060000000"
    ++ hex "444154410c000000600000000000000001000000"
    ++ hex "00010000f000000030000000"
    ++ hex "4c49000036000000700000000200000001000000"
    ++ zeros 16 ++ hex "4c4970" ++ zeros 19 ++ hex "2f2f70" ++ zeros 13
    ++ hex "4944000026000000800000000100000001000000"
    ++ zeros 12 ++ hex "700000004f4278" ++ zeros 19
    ++ hex "4944000026000000900000000100000001000000"
    ++ zeros 12 ++ hex "700000004f4279" ++ zeros 15 ++ hex "01000000"
    ++ hex "4944000026000000a00000000100000001000000"
    ++ zeros 12 ++ hex "700000004f427a" ++ zeros 15 ++ hex "01000000"
    ++ hex "4441544103000000b00000000000000001000000"
    ++ hex "616263"
    ++ hex "4c49000036000000c00000000200000001000000"
    ++ zeros 16 ++ hex "4c497032" ++ zeros 18 ++ hex "70" ++ zeros 15
    ++ hex "4944000026000000d00000000100000001000000"
    ++ zeros 12 ++ hex "c00000004f427a" ++ zeros 19
    ++ hex "4c49000036000000e00000000200000001000000"
    ++ zeros 16 ++ hex "4c4971" ++ zeros 19 ++ hex "71" ++ zeros 15
    ++ hex "4944000026000000f00000000100000001000000"
    ++ zeros 12 ++ hex "e00000004f426b" ++ zeros 15 ++ hex "02000000"
    ++ hex "4944000026000000000100000100000001000000"
    ++ zeros 12 ++ hex "e00000004f426d" ++ zeros 15 ++ hex "01000000"
    ++ hex "444e413158010000000000000000000001000000"
    ++ small_payload
    ++ codes "ENDB" ++ zeros 16

-- `into` with links to `OBn`, `OBz` and `OBx` of `p`
abbrev pub linked_bytes : List ℕ
linked_bytes =
    codes "BLENDER_v405"
    ++ hex "4f4200002e000000100000000300000001000000"
    ++ zeros 16 ++ hex "4f4261" ++ zeros 19 ++ hex "4000000000000000"
    ++ hex "4c49000036000000200000000200000001000000"
    ++ zeros 16 ++ hex "4c4970" ++ zeros 19 ++ hex "2f2f70" ++ zeros 13
    ++ hex "4944000026000000300000000100000001000000"
    ++ zeros 12 ++ hex "200000004f4278" ++ zeros 19
    ++ hex "4944000026000000400000000100000001000000"
    ++ zeros 12 ++ hex "200000004f4279" ++ zeros 15 ++ hex "01000000"
    ++ hex "4944000026000000500000000100000001000000"
    ++ zeros 12 ++ hex "200000004f426e" ++ zeros 19
    ++ hex "4944000026000000600000000100000001000000"
    ++ zeros 12 ++ hex "200000004f427a" ++ zeros 19
    ++ hex "4c49000036000000700000000200000001000000"
    ++ zeros 16 ++ hex "4c497032" ++ zeros 18 ++ hex "70" ++ zeros 15
    ++ hex "4944000026000000800000000100000001000000"
    ++ zeros 12 ++ hex "700000004f427a" ++ zeros 19
    ++ hex "444e413158010000000000000000000001000000"
    ++ small_payload
    ++ codes "ENDB" ++ zeros 16

-- the bytes of an object whose name has fewer than two bytes
abbrev pub short_into_bytes : List ℕ
short_into_bytes =
    codes "BLENDER_v405"
    ++ hex "4f4200002e000000000000000300000001000000"
    ++ zeros 16 ++ hex "4f42" ++ zeros 28
    ++ hex "4f4200002e000000100000000300000001000000"
    ++ zeros 46
    ++ hex "444e413158010000000000000000000001000000"
    ++ small_payload
    ++ codes "ENDB" ++ zeros 16

-- an object whose name has fewer than two bytes
abbrev pub short_into : File
short_into = file (header_4 405) small short_into_bytes
    (head (code "OB") 46 0 3 1 12 ∷ head (code "OB") 46 16 3 1 78 ∷ [])

-- the bytes of objects whose names have fewer than two bytes, or are cut within a character
abbrev pub short_lib_bytes : List ℕ
short_lib_bytes =
    codes "BLENDER_v405"
    ++ hex "4f42000034000000100000000300000001000000"
    ++ zeros 16 ++ hex "4f" ++ zeros 27 ++ hex "2000000030000000"
    ++ hex "4f42000034000000200000000300000001000000"
    ++ zeros 16 ++ hex "4f426162636465666768696a6b6cc3a9" ++ zeros 20
    ++ hex "4d45000038000000300000000400000001000000"
    ++ zeros 56
    ++ hex "444e413174010000000000000000000001000000"
    ++ other_payload
    ++ codes "ENDB" ++ zeros 16

-- objects whose names have fewer than two bytes, or are cut within a character
abbrev pub short_lib : File
short_lib = file (header_4 405) other short_lib_bytes
    (head (code "OB") 52 16 3 1 12 ∷ head (code "OB") 52 32 3 1 84 ∷ head (code "ME") 56 48 4 1 156 ∷ [])

-- `short_into` with the first object of `short_lib`
abbrev pub short_bytes : List ℕ
short_bytes =
    codes "BLENDER_v405"
    ++ hex "4f4200002e000000100000000300000001000000"
    ++ zeros 16 ++ hex "4f42" ++ zeros 28
    ++ hex "4f4200002e000000200000000300000001000000"
    ++ zeros 46
    ++ hex "4f4200002e000000300000000300000001000000"
    ++ zeros 16 ++ hex "4f422e303031" ++ zeros 16 ++ hex "4000000050000000"
    ++ hex "4f4200002e000000400000000300000001000000"
    ++ zeros 16 ++ hex "4f426162636465666768696a6b6c00000000010000000000000000000000"
    ++ hex "4d45000032000000500000000400000001000000"
    ++ zeros 16 ++ hex "4d45" ++ zeros 16 ++ hex "01" ++ zeros 15
    ++ hex "444e413158010000000000000000000001000000"
    ++ small_payload
    ++ codes "ENDB" ++ zeros 16

-- the bytes of an object with a mesh
abbrev pub scene_bytes : List ℕ
scene_bytes =
    codes "BLENDER_v405"
    ++ hex "4f4200002e000000100000000300000001000000"
    ++ zeros 16 ++ hex "4f4261" ++ zeros 14 ++ hex "02" ++ zeros 12
    ++ hex "4f4200002e000000000000000300000001000000"
    ++ zeros 16 ++ hex "4f42622e303031" ++ zeros 23
    ++ hex "4441544101000000000000000000000001000000"
    ++ hex "78"
    ++ hex "444e413158010000000000000000000001000000"
    ++ small_payload
    ++ codes "ENDB" ++ zeros 16

-- an object with a mesh
abbrev pub scene : File
scene = file (header_4 405) small scene_bytes
    (head (code "OB") 46 16 3 1 12 ∷ head (code "OB") 46 0 3 1 78 ∷ head (code "DATA") 1 0 0 1 144 ∷ [])

-- the bytes of objects that name each other in a ring, and meshes
abbrev pub parts_bytes : List ℕ
parts_bytes =
    codes "BLENDER_v405"
    ++ hex "4f42000034000000200000000300000001000000"
    ++ zeros 16 ++ hex "4f4262" ++ zeros 25 ++ hex "1000000000000000"
    ++ hex "4f42000034000000100000000300000001000000"
    ++ zeros 16 ++ hex "4f4261" ++ zeros 25 ++ hex "2000000030000000"
    ++ hex "4d45000038000000300000000400000001000000"
    ++ zeros 16 ++ hex "4d4563" ++ zeros 29 ++ hex "4000000000000000"
    ++ hex "4441544109000000400000000000000001000000"
    ++ hex "200000001000000001"
    ++ hex "4f42000034000000500000000300000001000000"
    ++ zeros 16 ++ hex "4f4264" ++ zeros 25 ++ hex "1000000000000000"
    ++ hex "444e413174010000000000000000000001000000"
    ++ other_payload
    ++ codes "ENDB" ++ zeros 16

-- objects that name each other in a ring, and meshes
abbrev pub parts : File
parts = file (header_4 405) other parts_bytes
    (head (code "OB") 52 32 3 1 12 ∷ head (code "OB") 52 16 3 1 84 ∷ head (code "ME") 56 48 4 1 156
    ∷ head (code "DATA") 9 64 0 1 232 ∷ head (code "OB") 52 80 3 1 261 ∷ [])

-- `scene` with `OBa` and `MEc` of `parts`
abbrev pub scene_with_parts_bytes : List ℕ
scene_with_parts_bytes =
    codes "BLENDER_v405"
    ++ hex "4f4200002e000000100000000300000001000000"
    ++ zeros 16 ++ hex "4f4261" ++ zeros 14 ++ hex "02010000000000000000000000"
    ++ hex "4f4200002e000000200000000300000001000000"
    ++ zeros 16 ++ hex "4f42622e303031" ++ zeros 23
    ++ hex "4441544101000000300000000000000001000000"
    ++ hex "78"
    ++ hex "4f4200002e000000400000000300000001000000"
    ++ zeros 16 ++ hex "4f4262" ++ zeros 15 ++ hex "020000005000000000000000"
    ++ hex "4f4200002e000000500000000300000001000000"
    ++ zeros 16 ++ hex "4f42612e3030310000000000000000000000020000004000000060000000"
    ++ hex "4d45000032000000600000000400000001000000"
    ++ zeros 16 ++ hex "4d4563" ++ zeros 15 ++ hex "01000000000000007000000000000000"
    ++ hex "4441544108000000700000000000000001000000"
    ++ hex "4000000050000000"
    ++ hex "444e413158010000000000000000000001000000"
    ++ small_payload
    ++ codes "ENDB" ++ zeros 16

-- the bytes of `scene` with links to `OBa` and `MEc` of `parts`
abbrev pub linked_scene_bytes : List ℕ
linked_scene_bytes =
    codes "BLENDER_v405"
    ++ hex "4f4200002e000000100000000300000001000000"
    ++ zeros 16 ++ hex "4f4261" ++ zeros 14 ++ hex "02010000000000000000000000"
    ++ hex "4f4200002e000000200000000300000001000000"
    ++ zeros 16 ++ hex "4f42622e303031" ++ zeros 23
    ++ hex "4441544101000000300000000000000001000000"
    ++ hex "78"
    ++ hex "4c49000036000000400000000200000001000000"
    ++ zeros 16 ++ hex "4c4962" ++ zeros 19 ++ hex "2f2f62" ++ zeros 13
    ++ hex "4944000026000000500000000100000001000000"
    ++ zeros 12 ++ hex "400000004f4261" ++ zeros 19
    ++ hex "4944000026000000600000000100000001000000"
    ++ zeros 12 ++ hex "400000004d4563" ++ zeros 19
    ++ hex "444e413158010000000000000000000001000000"
    ++ small_payload
    ++ codes "ENDB" ++ zeros 16

-- `scene` with links to `OBa` and `MEc` of `parts`
abbrev pub linked_scene : File
linked_scene = file (header_4 405) small linked_scene_bytes
    (head (code "OB") 46 16 3 1 12 ∷ head (code "OB") 46 32 3 1 78 ∷ head (code "DATA") 1 48 0 1 144
    ∷ head (code "LI") 54 64 2 1 165 ∷ head (code "ID") 38 80 1 1 239 ∷ head (code "ID") 38 96 1 1 297 ∷ [])

-- the bytes of an object whose parent is linked from `c`
abbrev pub ring_a_bytes : List ℕ
ring_a_bytes =
    codes "BLENDER_v405"
    ++ hex "4f4200002e000000100000000300000001000000"
    ++ zeros 16 ++ hex "4f4261" ++ zeros 19 ++ hex "4000000000000000"
    ++ hex "4c49000036000000200000000200000001000000"
    ++ zeros 16 ++ hex "4c4963" ++ zeros 19 ++ hex "2f2f63" ++ zeros 13
    ++ hex "4944000026000000400000000100000001000000"
    ++ zeros 12 ++ hex "200000004f4263" ++ zeros 19
    ++ hex "444e413158010000000000000000000001000000"
    ++ small_payload
    ++ codes "ENDB" ++ zeros 16

-- an object whose parent is linked from `c`
abbrev pub ring_a : File
ring_a = file (header_4 405) small ring_a_bytes
    (head (code "OB") 46 16 3 1 12 ∷ head (code "LI") 54 32 2 1 78 ∷ head (code "ID") 38 64 1 1 152 ∷ [])

-- the bytes of objects that `c` links, one of which links `a`
abbrev pub ring_b_bytes : List ℕ
ring_b_bytes =
    codes "BLENDER_v405"
    ++ hex "4f4200002e000000100000000300000001000000"
    ++ zeros 16 ++ hex "4f4262" ++ zeros 19 ++ hex "3000000040000000"
    ++ hex "4c49000036000000200000000200000001000000"
    ++ zeros 16 ++ hex "4c4961" ++ zeros 19 ++ hex "2f2f61" ++ zeros 13
    ++ hex "4944000026000000300000000100000001000000"
    ++ zeros 12 ++ hex "200000004f4261" ++ zeros 19
    ++ hex "4d45000032000000400000000400000001000000"
    ++ zeros 16 ++ hex "4d4562" ++ zeros 27 ++ hex "48000000"
    ++ hex "4441544108000000480000000000000001000000"
    ++ hex "3132333435363738"
    ++ hex "444e413158010000000000000000000001000000"
    ++ small_payload
    ++ codes "ENDB" ++ zeros 16

-- objects that `c` links, one of which links `a`
abbrev pub ring_b : File
ring_b = file (header_4 405) small ring_b_bytes
    (head (code "OB") 46 16 3 1 12 ∷ head (code "LI") 54 32 2 1 78 ∷ head (code "ID") 38 48 1 1 152
    ∷ head (code "ME") 50 64 4 1 210 ∷ head (code "DATA") 8 72 0 1 280 ∷ [])

-- the bytes of objects that `a` links, one of them with a parent in `b`, and a placeholder and a library
-- that nothing needs
abbrev pub ring_c_bytes : List ℕ
ring_c_bytes =
    codes "BLENDER_v405"
    ++ hex "4f42000034000000100000000300000001000000"
    ++ hex "300000004000000000000000000000004f4263" ++ zeros 25 ++ hex "4000000060000000"
    ++ hex "4c49000044000000200000000200000001000000"
    ++ zeros 16 ++ hex "4c4962" ++ zeros 25 ++ hex "62" ++ zeros 23
    ++ hex "494400002c000000300000000100000001000000"
    ++ zeros 12 ++ hex "200000004f42756e6e6565646564" ++ zeros 18
    ++ hex "494400002c000000400000000100000001000000"
    ++ zeros 12 ++ hex "200000004f4262" ++ zeros 25
    ++ hex "4c49000044000000500000000200000001000000"
    ++ zeros 16 ++ hex "4c497a" ++ zeros 25 ++ hex "2f2f7a" ++ zeros 21
    ++ hex "4d45000038000000600000000400000001000000"
    ++ zeros 16 ++ hex "4d4563" ++ zeros 29 ++ hex "7000000000000000"
    ++ hex "444154410c000000700000000000000001000000"
    ++ hex "100000004000000050000000"
    ++ hex "4f42000034000000800000000300000001000000"
    ++ zeros 16 ++ hex "4f426c617374" ++ zeros 22 ++ hex "1000000000000000"
    ++ hex "444e413174010000000000000000000001000000"
    ++ other_payload
    ++ codes "ENDB" ++ zeros 16

-- objects that `a` links, one of them with a parent in `b`, and a placeholder and a library that nothing
-- needs
abbrev pub ring_c : File
ring_c = file (header_4 405) other ring_c_bytes
    (head (code "OB") 52 16 3 1 12 ∷ head (code "LI") 68 32 2 1 84 ∷ head (code "ID") 44 48 1 1 172
    ∷ head (code "ID") 44 64 1 1 236 ∷ head (code "LI") 68 80 2 1 300 ∷ head (code "ME") 56 96 4 1 388
    ∷ head (code "DATA") 12 112 0 1 464 ∷ head (code "OB") 52 128 3 1 496 ∷ [])

-- `ring_a` with all that its links need
abbrev pub ring_bytes : List ℕ
ring_bytes =
    codes "BLENDER_v405"
    ++ hex "4f4200002e000000100000000300000001000000"
    ++ zeros 16 ++ hex "4f4261" ++ zeros 15 ++ hex "010000005000000000000000"
    ++ hex "4f4200002e000000200000000300000001000000"
    ++ zeros 16 ++ hex "4f4262" ++ zeros 15 ++ hex "020000001000000030000000"
    ++ hex "4d45000032000000300000000400000001000000"
    ++ zeros 16 ++ hex "4d4562" ++ zeros 15 ++ hex "01000000000000000000000040000000"
    ++ hex "4441544108000000400000000000000001000000"
    ++ hex "3132333435363738"
    ++ hex "4f4200002e000000500000000300000001000000"
    ++ hex "000000002000000000000000000000004f4263" ++ zeros 15 ++ hex "020000002000000060000000"
    ++ hex "4d45000032000000600000000400000001000000"
    ++ zeros 16 ++ hex "4d4563" ++ zeros 15 ++ hex "01000000000000007000000000000000"
    ++ hex "444154410c000000700000000000000001000000"
    ++ hex "500000002000000000000000"
    ++ hex "444e413158010000000000000000000001000000"
    ++ small_payload
    ++ codes "ENDB" ++ zeros 16
