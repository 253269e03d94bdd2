-- The example catalogue, with pointers of 8 bytes and of 4, and small files of it. Objects have a parent
-- and a mesh; a mesh has arrays of numbers, of pointers and of bytes behind its pointers. The literals are
-- written by a program that knows nothing of these definitions.
use Rattle.std.specs.Prelude.{ℕ, List, [], ◌∷◌, ◌++◌, codes}
use Rattle.bl_format.specs.declared.catalogue.Catalogue.{Catalogue}
use Rattle.bl_format.specs.Words.{zeros}
use Rattle.bl_format.specs.Nodes.{File}
use Rattle.bl_rows.proofs.Literals.{hex, code, header_8, header_4, head, file, catalogue}

-- the example catalogue for pointers of 8 bytes
abbrev pub example_8 : Catalogue
example_8 = catalogue
    (codes "*next" ∷ codes "*prev" ∷ codes "*newid" ∷ codes "*lib" ∷ codes "name[66]" ∷ codes "flag"
    ∷ codes "us" ∷ codes "id" ∷ codes "name[1024]" ∷ codes "*parent" ∷ codes "*data" ∷ codes "loc[3]"
    ∷ codes "type" ∷ codes "_pad[2]" ∷ codes "*index" ∷ codes "*co" ∷ codes "**users" ∷ codes "*extra"
    ∷ codes "totindex" ∷ codes "totco" ∷ [])
    ((codes "char", 1) ∷ (codes "uchar", 1) ∷ (codes "short", 2) ∷ (codes "ushort", 2)
    ∷ (codes "int", 4) ∷ (codes "int64_t", 8) ∷ (codes "float", 4) ∷ (codes "double", 8)
    ∷ (codes "void", 0) ∷ (codes "Link", 16) ∷ (codes "ID", 104) ∷ (codes "Library", 1128)
    ∷ (codes "Object", 136) ∷ (codes "Mesh", 144) ∷ [])
    ((9, (9, 0) ∷ (9, 1) ∷ [])
    ∷ (10, (8, 0) ∷ (8, 1) ∷ (10, 2) ∷ (11, 3) ∷ (0, 4) ∷ (2, 5) ∷ (4, 6) ∷ [])
    ∷ (11, (10, 7) ∷ (0, 8) ∷ [])
    ∷ (12, (10, 7) ∷ (12, 9) ∷ (13, 10) ∷ (6, 11) ∷ (2, 12) ∷ (0, 13) ∷ [])
    ∷ (13, (10, 7) ∷ (4, 14) ∷ (6, 15) ∷ (12, 16) ∷ (8, 17) ∷ (4, 18) ∷ (4, 19) ∷ []) ∷ [])

-- the same for pointers of 4 bytes
abbrev pub example_4 : Catalogue
example_4 = catalogue
    (codes "*next" ∷ codes "*prev" ∷ codes "*newid" ∷ codes "*lib" ∷ codes "name[66]" ∷ codes "flag"
    ∷ codes "us" ∷ codes "id" ∷ codes "name[1024]" ∷ codes "*parent" ∷ codes "*data" ∷ codes "loc[3]"
    ∷ codes "type" ∷ codes "_pad[2]" ∷ codes "*index" ∷ codes "*co" ∷ codes "**users" ∷ codes "*extra"
    ∷ codes "totindex" ∷ codes "totco" ∷ [])
    ((codes "char", 1) ∷ (codes "uchar", 1) ∷ (codes "short", 2) ∷ (codes "ushort", 2)
    ∷ (codes "int", 4) ∷ (codes "int64_t", 8) ∷ (codes "float", 4) ∷ (codes "double", 8)
    ∷ (codes "void", 0) ∷ (codes "Link", 8) ∷ (codes "ID", 88) ∷ (codes "Library", 1112)
    ∷ (codes "Object", 112) ∷ (codes "Mesh", 112) ∷ [])
    ((9, (9, 0) ∷ (9, 1) ∷ [])
    ∷ (10, (8, 0) ∷ (8, 1) ∷ (10, 2) ∷ (11, 3) ∷ (0, 4) ∷ (2, 5) ∷ (4, 6) ∷ [])
    ∷ (11, (10, 7) ∷ (0, 8) ∷ [])
    ∷ (12, (10, 7) ∷ (12, 9) ∷ (13, 10) ∷ (6, 11) ∷ (2, 12) ∷ (0, 13) ∷ [])
    ∷ (13, (10, 7) ∷ (4, 14) ∷ (6, 15) ∷ (12, 16) ∷ (8, 17) ∷ (4, 18) ∷ (4, 19) ∷ []) ∷ [])

-- the payload in which `example_8` is written, the lowest byte first
abbrev pub example_payload : List ℕ
example_payload =
    hex "53444e41"
    ++ hex "4e414d4514000000"
    ++ hex "2a6e657874002a70726576002a6e65776964002a6c6962006e616d655b36365d00666c616700757300696400"
    ++ hex "6e616d655b313032345d002a706172656e74002a64617461006c6f635b335d0074797065005f7061645b325d"
    ++ hex "002a696e646578002a636f002a2a7573657273002a657874726100746f74696e64657800746f74636f000000"
    ++ hex "545950450e000000636861720075636861720073686f7274007573686f727400696e7400696e7436345f7400"
    ++ hex "666c6f617400646f75626c6500766f6964004c696e6b004944004c696272617279004f626a656374004d6573"
    ++ hex "68000000"
    ++ hex "544c454e01000100020002000400080004000800000010006800680488009000"
    ++ hex "53545243050000000900020009000000090001000a00070008000000080001000a0002000b00030000000400"
    ++ hex "02000500040006000b0002000a000700000008000c0006000a0007000c0009000d000a0006000b0002000c00"
    ++ hex "00000d000d0007000a00070004000e0006000f000c001000080011000400120004001300"

-- the payload of `example_4`
abbrev pub narrow_payload : List ℕ
narrow_payload =
    hex "53444e41"
    ++ hex "4e414d4514000000"
    ++ hex "2a6e657874002a70726576002a6e65776964002a6c6962006e616d655b36365d00666c616700757300696400"
    ++ hex "6e616d655b313032345d002a706172656e74002a64617461006c6f635b335d0074797065005f7061645b325d"
    ++ hex "002a696e646578002a636f002a2a7573657273002a657874726100746f74696e64657800746f74636f000000"
    ++ hex "545950450e000000636861720075636861720073686f7274007573686f727400696e7400696e7436345f7400"
    ++ hex "666c6f617400646f75626c6500766f6964004c696e6b004944004c696272617279004f626a656374004d6573"
    ++ hex "68000000"
    ++ hex "544c454e01000100020002000400080004000800000008005800580470007000"
    ++ hex "53545243050000000900020009000000090001000a00070008000000080001000a0002000b00030000000400"
    ++ hex "02000500040006000b0002000a000700000008000c0006000a0007000c0009000d000a0006000b0002000c00"
    ++ hex "00000d000d0007000a00070004000e0006000f000c001000080011000400120004001300"

-- the bytes of an object, the mesh that it names, and three numbers that the mesh names
abbrev pub one_object_bytes : List ℕ
one_object_bytes =
    codes "BLENDER-v405"
    ++ hex "4f4200008800000010000000000000000300000001000000"
    ++ zeros 32 ++ hex "4f426f30" ++ zeros 76 ++ hex "20" ++ zeros 19 ++ hex "01000000"
    ++ hex "4d4500009000000020000000000000000400000001000000"
    ++ zeros 32 ++ hex "4d456d30" ++ zeros 64 ++ hex "0100000030" ++ zeros 31 ++ hex "0300000000000000"
    ++ hex "444154410c00000030000000000000000000000001000000"
    ++ hex "c6410000c7410000c8410000"
    ++ hex "444e41318801" ++ zeros 14 ++ hex "01000000"
    ++ example_payload
    ++ codes "ENDB" ++ zeros 20

-- an object, the mesh that it names, and three numbers that the mesh names
abbrev pub one_object : File
one_object = file (header_8 405) example_8 one_object_bytes
    (head (code "OB") 136 16 3 1 12 ∷ head (code "ME") 144 32 4 1 172
    ∷ head (code "DATA") 12 48 0 1 340 ∷ [])

-- the bytes of three objects, each with a mesh of its own; the second and third have a parent
abbrev pub three_objects_bytes : List ℕ
three_objects_bytes =
    codes "BLENDER-v405"
    ++ hex "4f4200008800000010000000000000000300000001000000"
    ++ zeros 32 ++ hex "4f426f30" ++ zeros 64 ++ hex "01000000000000000000000020" ++ zeros 19
    ++ hex "01000000"
    ++ hex "4d4500009000000020000000000000000400000001000000"
    ++ zeros 32 ++ hex "4d456d30" ++ zeros 64 ++ hex "0100000030" ++ zeros 31 ++ hex "0300000000000000"
    ++ hex "444154410c00000030000000000000000000000001000000"
    ++ hex "c6410000c7410000c8410000"
    ++ hex "4f4200008800000040000000000000000300000001000000"
    ++ zeros 32 ++ hex "4f426f31" ++ zeros 64 ++ hex "01000000100000000000000050" ++ zeros 19
    ++ hex "01000000"
    ++ hex "4d4500009000000050000000000000000400000001000000"
    ++ zeros 32 ++ hex "4d456d31" ++ zeros 64 ++ hex "0100000060" ++ zeros 31 ++ hex "0300000000000000"
    ++ hex "444154410c00000060000000000000000000000001000000"
    ++ hex "7e1600007f16000080160000"
    ++ hex "4f4200008800000070000000000000000300000001000000"
    ++ zeros 32 ++ hex "4f426f32" ++ zeros 68 ++ hex "400000000000000080" ++ zeros 19 ++ hex "01000000"
    ++ hex "4d4500009000000080000000000000000400000001000000"
    ++ zeros 32 ++ hex "4d456d32" ++ zeros 64 ++ hex "0100000090" ++ zeros 31 ++ hex "0200000000000000"
    ++ hex "444154410800000090000000000000000000000001000000"
    ++ hex "8127000082270000"
    ++ hex "444e41318801" ++ zeros 14 ++ hex "01000000"
    ++ example_payload
    ++ codes "ENDB" ++ zeros 20

-- three objects, each with a mesh of its own; the second and third have a parent
abbrev pub three_objects : File
three_objects = file (header_8 405) example_8 three_objects_bytes
    (head (code "OB") 136 16 3 1 12 ∷ head (code "ME") 144 32 4 1 172
    ∷ head (code "DATA") 12 48 0 1 340 ∷ head (code "OB") 136 64 3 1 376
    ∷ head (code "ME") 144 80 4 1 536 ∷ head (code "DATA") 12 96 0 1 704
    ∷ head (code "OB") 136 112 3 1 740 ∷ head (code "ME") 144 128 4 1 900
    ∷ head (code "DATA") 8 144 0 1 1068 ∷ [])

-- the bytes of a catalogue alone, cut behind the four bytes `ENDB`
abbrev pub no_nodes_bytes : List ℕ
no_nodes_bytes =
    codes "BLENDER-v405"
    ++ hex "444e41318801" ++ zeros 14 ++ hex "01000000"
    ++ example_payload
    ++ codes "ENDB"

-- a catalogue alone, cut behind the four bytes `ENDB`
abbrev pub no_nodes : File
no_nodes = file (header_8 405) example_8 no_nodes_bytes
    []

-- the bytes of two meshes with a raw block each; the pointers of the first lead inside its block, nowhere,
-- to the block of the second, and to its own
abbrev pub two_meshes_bytes : List ℕ
two_meshes_bytes =
    codes "BLENDER-v405"
    ++ hex "4d4500009000000000010000000000000400000001000000"
    ++ zeros 32 ++ hex "4d4561" ++ zeros 69 ++ hex "0402000000000000990900000000000000040000000000000002"
    ++ zeros 14
    ++ hex "444154410800000000020000000000000000000001000000"
    ++ hex "0000000000000000"
    ++ hex "4d4500009000000000030000000000000400000001000000"
    ++ zeros 32 ++ hex "4d4562" ++ zeros 109
    ++ hex "444154410800000000040000000000000000000001000000"
    ++ hex "0000000000000000"
    ++ hex "444e41318801" ++ zeros 14 ++ hex "01000000"
    ++ example_payload
    ++ codes "ENDB" ++ zeros 20

-- two meshes with a raw block each; the pointers of the first lead inside its block, nowhere, to the block
-- of the second, and to its own
abbrev pub two_meshes : File
two_meshes = file (header_8 405) example_8 two_meshes_bytes
    (head (code "ME") 144 256 4 1 12 ∷ head (code "DATA") 8 512 0 1 180
    ∷ head (code "ME") 144 768 4 1 212 ∷ head (code "DATA") 8 1024 0 1 380 ∷ [])

-- the bytes of a raw block before any head, a mesh with two raw blocks that unlike pointers name, a raw
-- `TEST` and a short raw `REND`, and an object whose pointers name addresses that several nodes have
abbrev pub odd_groups_bytes : List ℕ
odd_groups_bytes =
    codes "BLENDER-v405"
    ++ hex "444154410400000050000000000000000000000001000000"
    ++ hex "61626364"
    ++ hex "4d4500009000000000010000000000000400000001000000"
    ++ zeros 32 ++ hex "4d4561" ++ zeros 70 ++ hex "02000000000000000300000000000000020000000000000003"
    ++ zeros 14
    ++ hex "444154410900000000020000000000000000000001000000"
    ++ hex "000102030405060708"
    ++ hex "444154410900000000030000000000000000000001000000"
    ++ hex "000102030405060708"
    ++ hex "544553540900000000040000000000000000000007000000"
    ++ hex "000102030405060708"
    ++ hex "52454e440700000000010000000000000000000001000000"
    ++ hex "00010203040506"
    ++ hex "4f4200008800000050000000000000000300000001000000"
    ++ zeros 32 ++ hex "4f4261" ++ zeros 69 ++ hex "50000000000000000001" ++ zeros 22
    ++ hex "444e41318801" ++ zeros 14 ++ hex "01000000"
    ++ example_payload
    ++ codes "ENDB" ++ zeros 20

-- a raw block before any head, a mesh with two raw blocks that unlike pointers name, a raw `TEST` and a
-- short raw `REND`, and an object whose pointers name addresses that several nodes have
abbrev pub odd_groups : File
odd_groups = file (header_8 405) example_8 odd_groups_bytes
    (head (code "DATA") 4 80 0 1 12 ∷ head (code "ME") 144 256 4 1 40
    ∷ head (code "DATA") 9 512 0 1 208 ∷ head (code "DATA") 9 768 0 1 241
    ∷ head (code "TEST") 9 1024 0 7 274 ∷ head (code "REND") 7 256 0 1 307
    ∷ head (code "OB") 136 80 3 1 338 ∷ [])

-- the bytes of two objects, `OBCube` and `OBCube.001`
abbrev pub cubes_bytes : List ℕ
cubes_bytes =
    codes "BLENDER-v405"
    ++ hex "4f4200008800000000010000000000000300000001000000"
    ++ zeros 32 ++ hex "4f4243756265" ++ zeros 98
    ++ hex "4f4200008800000000020000000000000300000001000000"
    ++ zeros 32 ++ hex "4f42437562652e303031" ++ zeros 94
    ++ hex "444e41318801" ++ zeros 14 ++ hex "01000000"
    ++ example_payload
    ++ codes "ENDB" ++ zeros 20

-- two objects, `OBCube` and `OBCube.001`
abbrev pub cubes : File
cubes = file (header_8 405) example_8 cubes_bytes
    (head (code "OB") 136 256 3 1 12 ∷ head (code "OB") 136 512 3 1 172 ∷ [])

-- the bytes of objects `OBCube` and `OBRig`, each the parent of the other, the mesh of the first, and an
-- object that only a bookkeeping pointer names
abbrev pub rigs_bytes : List ℕ
rigs_bytes =
    codes "BLENDER-v405"
    ++ hex "4f4200008800000000010000000000000300000001000000"
    ++ zeros 32 ++ hex "4f4243756265" ++ zeros 67 ++ hex "020000000000000003" ++ zeros 22
    ++ hex "4f4200008800000000020000000000000300000001000000"
    ++ hex "0004" ++ zeros 30 ++ hex "4f42526967" ++ zeros 68 ++ hex "01" ++ zeros 30
    ++ hex "4d4500009000000000030000000000000400000001000000"
    ++ zeros 32 ++ hex "4d4543756265" ++ zeros 106
    ++ hex "4f4200008800000000040000000000000300000001000000"
    ++ zeros 32 ++ hex "4f424f74686572" ++ zeros 97
    ++ hex "444e41318801" ++ zeros 14 ++ hex "01000000"
    ++ example_payload
    ++ codes "ENDB" ++ zeros 20

-- objects `OBCube` and `OBRig`, each the parent of the other, the mesh of the first, and an object that
-- only a bookkeeping pointer names
abbrev pub rigs : File
rigs = file (header_8 405) example_8 rigs_bytes
    (head (code "OB") 136 256 3 1 12 ∷ head (code "OB") 136 512 3 1 172
    ∷ head (code "ME") 144 768 4 1 332 ∷ head (code "OB") 136 1024 3 1 500 ∷ [])

-- the bytes of a mesh with an array of three pointers and four bytes more
abbrev pub pointers_bytes : List ℕ
pointers_bytes =
    codes "BLENDER-v405"
    ++ hex "4d4500009000000010000000000000000400000001000000"
    ++ zeros 32 ++ hex "4d4561" ++ zeros 85 ++ hex "20" ++ zeros 23
    ++ hex "444154411c00000020000000000000000000000001000000"
    ++ hex "1000000000000000200000000000000010000000000000007461696c"
    ++ hex "444e41318801" ++ zeros 14 ++ hex "01000000"
    ++ example_payload
    ++ codes "ENDB" ++ zeros 20

-- a mesh with an array of three pointers and four bytes more
abbrev pub pointers : File
pointers = file (header_8 405) example_8 pointers_bytes
    (head (code "ME") 144 16 4 1 12 ∷ head (code "DATA") 28 32 0 1 180 ∷ [])

-- the bytes of the same with pointers of 4 bytes
abbrev pub pointers_narrow_bytes : List ℕ
pointers_narrow_bytes =
    codes "BLENDER_v405"
    ++ hex "4d45000070000000100000000400000001000000"
    ++ zeros 16 ++ hex "4d4561" ++ zeros 77 ++ hex "20" ++ zeros 15
    ++ hex "444154410c000000200000000000000001000000"
    ++ hex "100000002000000010000000"
    ++ hex "444e413188010000000000000000000001000000"
    ++ narrow_payload
    ++ codes "ENDB" ++ zeros 16

-- the same with pointers of 4 bytes
abbrev pub pointers_narrow : File
pointers_narrow = file (header_4 405) example_4 pointers_narrow_bytes
    (head (code "ME") 112 16 4 1 12 ∷ head (code "DATA") 12 32 0 1 144 ∷ [])

-- the bytes of and back with pointers of 8 bytes; the four bytes are gone
abbrev pub pointers_wide_bytes : List ℕ
pointers_wide_bytes =
    codes "BLENDER-v405"
    ++ hex "4d4500009000000010000000000000000400000001000000"
    ++ zeros 32 ++ hex "4d4561" ++ zeros 85 ++ hex "20" ++ zeros 23
    ++ hex "444154411800000020000000000000000000000001000000"
    ++ hex "100000000000000020000000000000001000000000000000"
    ++ hex "444e41318801" ++ zeros 14 ++ hex "01000000"
    ++ example_payload
    ++ codes "ENDB" ++ zeros 20

-- and back with pointers of 8 bytes; the four bytes are gone
abbrev pub pointers_wide : File
pointers_wide = file (header_8 405) example_8 pointers_wide_bytes
    (head (code "ME") 144 16 4 1 12 ∷ head (code "DATA") 24 32 0 1 180 ∷ [])

-- the bytes of an object, the mesh that it names, and a raw block of the mesh
abbrev pub object_and_mesh_bytes : List ℕ
object_and_mesh_bytes =
    codes "BLENDER-v405"
    ++ hex "4f4200008800000020000000000000000300000001000000"
    ++ zeros 32 ++ hex "4f4261" ++ zeros 77 ++ hex "10" ++ zeros 23
    ++ hex "4d4500009000000010000000000000000400000001000000"
    ++ zeros 32 ++ hex "4d4561" ++ zeros 69 ++ hex "30" ++ zeros 39
    ++ hex "444154410800000030000000000000000000000001000000"
    ++ hex "0000000000000000"
    ++ hex "444e41318801" ++ zeros 14 ++ hex "01000000"
    ++ example_payload
    ++ codes "ENDB" ++ zeros 20

-- an object, the mesh that it names, and a raw block of the mesh
abbrev pub object_and_mesh : File
object_and_mesh = file (header_8 405) example_8 object_and_mesh_bytes
    (head (code "OB") 136 32 3 1 12 ∷ head (code "ME") 144 16 4 1 172
    ∷ head (code "DATA") 8 48 0 1 340 ∷ [])

-- the example catalogue without struct `Mesh`
abbrev pub without_mesh : Catalogue
without_mesh = catalogue
    (codes "*next" ∷ codes "*prev" ∷ codes "*newid" ∷ codes "*lib" ∷ codes "name[66]" ∷ codes "flag"
    ∷ codes "us" ∷ codes "id" ∷ codes "name[1024]" ∷ codes "*parent" ∷ codes "*data" ∷ codes "loc[3]"
    ∷ codes "type" ∷ codes "_pad[2]" ∷ codes "*index" ∷ codes "*co" ∷ codes "**users" ∷ codes "*extra"
    ∷ codes "totindex" ∷ codes "totco" ∷ [])
    ((codes "char", 1) ∷ (codes "uchar", 1) ∷ (codes "short", 2) ∷ (codes "ushort", 2)
    ∷ (codes "int", 4) ∷ (codes "int64_t", 8) ∷ (codes "float", 4) ∷ (codes "double", 8)
    ∷ (codes "void", 0) ∷ (codes "Link", 16) ∷ (codes "ID", 104) ∷ (codes "Library", 1128)
    ∷ (codes "Object", 136) ∷ (codes "Mesh", 144) ∷ [])
    ((9, (9, 0) ∷ (9, 1) ∷ [])
    ∷ (10, (8, 0) ∷ (8, 1) ∷ (10, 2) ∷ (11, 3) ∷ (0, 4) ∷ (2, 5) ∷ (4, 6) ∷ [])
    ∷ (11, (10, 7) ∷ (0, 8) ∷ [])
    ∷ (12, (10, 7) ∷ (12, 9) ∷ (8, 10) ∷ (6, 11) ∷ (2, 12) ∷ (0, 13) ∷ []) ∷ [])

-- what is to be left of it under a catalogue without struct `Mesh`
abbrev pub object_alone_bytes : List ℕ
object_alone_bytes =
    codes "BLENDER-v405"
    ++ hex "4f4200008800000010000000000000000300000001000000"
    ++ zeros 32 ++ hex "4f4261" ++ zeros 101
    ++ hex "444e41316801" ++ zeros 14 ++ hex "01000000"
    ++ hex "53444e414e414d45140000002a6e657874002a70726576002a6e65776964002a6c6962006e616d655b36365d"
    ++ hex "00666c6167007573006964006e616d655b313032345d002a706172656e74002a64617461006c6f635b335d00"
    ++ hex "74797065005f7061645b325d002a696e646578002a636f002a2a7573657273002a657874726100746f74696e"
    ++ hex "64657800746f74636f000000545950450e000000636861720075636861720073686f7274007573686f727400"
    ++ hex "696e7400696e7436345f7400666c6f617400646f75626c6500766f6964004c696e6b004944004c6962726172"
    ++ hex "79004f626a656374004d657368000000544c454e010001000200020004000800040008000000100068006804"
    ++ hex "8800900053545243040000000900020009000000090001000a00070008000000080001000a0002000b000300"
    ++ hex "0000040002000500040006000b0002000a000700000008000c0006000a0007000c00090008000a0006000b00"
    ++ hex "02000c0000000d00"
    ++ codes "ENDB" ++ zeros 20

-- the example catalogue with a float in place of a number of `Mesh`
abbrev pub with_float : Catalogue
with_float = catalogue
    (codes "*next" ∷ codes "*prev" ∷ codes "*newid" ∷ codes "*lib" ∷ codes "name[66]" ∷ codes "flag"
    ∷ codes "us" ∷ codes "id" ∷ codes "name[1024]" ∷ codes "*parent" ∷ codes "*data" ∷ codes "loc[3]"
    ∷ codes "type" ∷ codes "_pad[2]" ∷ codes "*index" ∷ codes "*co" ∷ codes "**users" ∷ codes "*extra"
    ∷ codes "totindex" ∷ codes "totco" ∷ [])
    ((codes "char", 1) ∷ (codes "uchar", 1) ∷ (codes "short", 2) ∷ (codes "ushort", 2)
    ∷ (codes "int", 4) ∷ (codes "int64_t", 8) ∷ (codes "float", 4) ∷ (codes "double", 8)
    ∷ (codes "void", 0) ∷ (codes "Link", 16) ∷ (codes "ID", 104) ∷ (codes "Library", 1128)
    ∷ (codes "Object", 136) ∷ (codes "Mesh", 144) ∷ [])
    ((9, (9, 0) ∷ (9, 1) ∷ [])
    ∷ (10, (8, 0) ∷ (8, 1) ∷ (10, 2) ∷ (11, 3) ∷ (0, 4) ∷ (2, 5) ∷ (4, 6) ∷ [])
    ∷ (11, (10, 7) ∷ (0, 8) ∷ [])
    ∷ (12, (10, 7) ∷ (12, 9) ∷ (13, 10) ∷ (6, 11) ∷ (2, 12) ∷ (0, 13) ∷ [])
    ∷ (13, (10, 7) ∷ (4, 14) ∷ (6, 15) ∷ (12, 16) ∷ (8, 17) ∷ (4, 18) ∷ (6, 19) ∷ []) ∷ [])

-- the example catalogue with a shorter name, a `short` in place of an `int`, and a new pointer in `ID`
abbrev pub with_changes : Catalogue
with_changes = catalogue
    (codes "*next" ∷ codes "*prev" ∷ codes "*newid" ∷ codes "*lib" ∷ codes "name[24]" ∷ codes "flag"
    ∷ codes "us" ∷ codes "id" ∷ codes "name[1024]" ∷ codes "*parent" ∷ codes "*data" ∷ codes "loc[3]"
    ∷ codes "type" ∷ codes "_pad[2]" ∷ codes "*index" ∷ codes "*co" ∷ codes "**users" ∷ codes "*extra"
    ∷ codes "totindex" ∷ codes "totco" ∷ codes "*orig_id" ∷ [])
    ((codes "char", 1) ∷ (codes "uchar", 1) ∷ (codes "short", 2) ∷ (codes "ushort", 2)
    ∷ (codes "int", 4) ∷ (codes "int64_t", 8) ∷ (codes "float", 4) ∷ (codes "double", 8)
    ∷ (codes "void", 0) ∷ (codes "Link", 16) ∷ (codes "ID", 68) ∷ (codes "Library", 1092)
    ∷ (codes "Object", 100) ∷ (codes "Mesh", 108) ∷ [])
    ((9, (9, 0) ∷ (9, 1) ∷ [])
    ∷ (10, (8, 0) ∷ (8, 1) ∷ (10, 2) ∷ (11, 3) ∷ (0, 4) ∷ (2, 5) ∷ (2, 6) ∷ (10, 20) ∷ [])
    ∷ (11, (10, 7) ∷ (0, 8) ∷ [])
    ∷ (12, (10, 7) ∷ (12, 9) ∷ (13, 10) ∷ (6, 11) ∷ (2, 12) ∷ (0, 13) ∷ [])
    ∷ (13, (10, 7) ∷ (4, 14) ∷ (6, 15) ∷ (12, 16) ∷ (8, 17) ∷ (4, 18) ∷ (4, 19) ∷ []) ∷ [])
