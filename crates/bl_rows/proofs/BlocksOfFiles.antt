-- The blocks of files: what is read, what is wrong with others, and which files are accepted.
use Rattle.std.proofs.Common.{◌≡◌, arith, ℕ, List, [], ◌∷◌, ◌++◌, Result, Ok, Err, Some, None, Option, refl, inl}
use Rattle.std.specs.Prelude.{codes, map, take, drop}
use Rattle.bl_num.specs.declared.number.Order.TheVariants.{Big}
use Rattle.bl_format.specs.declared.file.Head.{Head}
use Rattle.bl_format.specs.declared.file.BlockFault.{BlockFault}
use Rattle.bl_format.specs.declared.file.BlockFault.TheVariants.{Truncated, NegativeLength, NegativeIndex, NegativeCount}
use Rattle.bl_format.specs.Blocks.{header_written, code_meant, code_written, blocks_of, IsFile}
use Rattle.bl_format.specs.Nodes.{NodeFault, Accepted, BadStruct, ShortBlock, node_fault, InBlocks, NoCatalogue, TwoCatalogues, IsRefused}
use Rattle.bl_rows.proofs.Evaluation.{blocks, payloads, faults}
use Rattle.bl_rows.proofs.Literals.{hex, code, head, header_8, header_4_big}
use Rattle.bl_rows.proofs.Example.{example_8, example_payload, no_nodes, no_nodes_bytes}

-- ---- codes

-- two letters behind two zeros are turned; one letter, and a letter behind three zeros, aren't
codes_meant : map code_meant (hex "00004f42" ∷ hex "00004f00" ∷ hex "00000042" ∷ [])
    ≡ code "OB" ∷ hex "00004f00" ∷ hex "00000042" ∷ []
codes_meant = refl

codes_written : map (code_written Big) (code "OB" ∷ hex "4f000000" ∷ codes "DATA" ∷ [])
    ≡ hex "00004f42" ∷ hex "4f000000" ∷ codes "DATA" ∷ []
codes_written = refl

-- ---- blocks of pointers of 8 bytes, the lowest byte first

-- the head of a raw block of so many bytes, at address 0x1000, as it stands in a file
abbrev raw_head : List ℕ → List ℕ
raw_head len = codes "DATA" ++ len ++ hex "00100000000000000000000001000000"

abbrev read : List ℕ → Result (List Head) BlockFault
read behind = blocks_of (header_8 405) (codes "BLENDER-v405" ++ behind)

-- one raw block of four bytes, and the catalogue behind it
abbrev with_one_block : List ℕ
with_one_block =
    raw_head (hex "04000000") ++ hex "01020304"
    ++ codes "DNA1" ++ hex "8801000000000000000000000000000001000000" ++ example_payload
    ++ codes "ENDB"

one_block_and_catalogue : read with_one_block
    ≡ Ok (head (codes "DATA") 4 0x1000 0 1 12 ∷ head (codes "DNA1") 392 0 0 1 40 ∷ [])
unfolding blocks
one_block_and_catalogue = refl

-- the four bytes `ENDB` are enough, and nothing behind them is read
end_alone : map read (codes "ENDB" ∷ codes "ENDBxyz" ∷ []) ≡ Ok [] ∷ Ok [] ∷ []
unfolding blocks
end_alone = refl

-- nothing behind the header, three bytes, half a head, a payload of which one byte is missing
blocks_cut_short : map read ([] ∷ codes "END" ∷ take 23 (raw_head (hex "00000000"))
    ∷ (raw_head (hex "04000000") ++ hex "010203") ∷ [])
    ≡ Err (Truncated 12) ∷ Err (Truncated 12) ∷ Err (Truncated 12) ∷ Err (Truncated 12) ∷ []
unfolding blocks
blocks_cut_short = refl

-- a second block that is cut short is told by its own place
second_block_cut_short : read (raw_head (hex "00000000") ++ raw_head (hex "01000000")) ≡ Err (Truncated 36)
unfolding blocks
second_block_cut_short = refl

-- a head of a length, a struct number and a count, each with the payload that four bytes have
abbrev numbers_head : List ℕ → List ℕ → List ℕ → List ℕ
numbers_head len index count = codes "DATA" ++ len ++ hex "0010000000000000" ++ index ++ count
    ++ hex "01020304" ++ codes "ENDB"

negative_numbers : map read (numbers_head (hex "ffffffff") (hex "00000000") (hex "01000000")
    ∷ numbers_head (hex "04000000") (hex "ffffffff") (hex "01000000")
    ∷ numbers_head (hex "04000000") (hex "00000000") (hex "00000080") ∷ [])
    ≡ Err (NegativeLength 12) ∷ Err (NegativeIndex 12) ∷ Err (NegativeCount 12) ∷ []
unfolding blocks
negative_numbers = refl

-- length, struct number, count, and only then the payload's end
order_of_faults : map read (numbers_head (hex "ffffffff") (hex "ffffffff") (hex "ffffffff")
    ∷ numbers_head (hex "00010000") (hex "ffffffff") (hex "ffffffff")
    ∷ numbers_head (hex "00010000") (hex "00000000") (hex "ffffffff") ∷ [])
    ≡ Err (NegativeLength 12) ∷ Err (NegativeIndex 12) ∷ Err (NegativeCount 12) ∷ []
unfolding blocks
order_of_faults = refl

-- pointers of 4 bytes, the highest byte first: the code's zeros stand first
abbrev big_block : List ℕ
big_block = codes "BLENDER_V300" ++ hex "00004f42" ++ hex "00000003010203040000000000000005" ++ codes "abc"
    ++ codes "ENDB"

abbrev big_block_head : Head
big_block_head = head (code "OB") 3 0x01020304 0 5 12

highest_byte_first : blocks_of (header_4_big 300) big_block ≡ Ok (big_block_head ∷ [])
unfolding blocks
highest_byte_first = refl

-- by the grammar of files
is_a_file : IsFile (big_block ++ codes "rest") (header_4_big 300) (big_block_head ∷ [])
unfolding header_written
is_a_file = record {
  version = (omega arith, omega arith);
  spellings = take 23 (drop 12 big_block);
  rest = codes "rest";
  blocks_spelled = (
    refl,
    record {
      code = hex "00004f42";
      payload = codes "abc";
      code_len = refl;
      no_end = refl;
      means = refl;
      len = omega arith;
      address = omega arith;
      index = omega arith;
      count = omega arith;
      payload_len = refl;
      text_is = refl;
    },
    refl,
  );
  text = refl;
}

-- ---- which files are accepted

abbrev catalogue_head : ℕ → Head
catalogue_head at = head (codes "DNA1") 392 0 0 1 at

-- a catalogue alone
accepted : Accepted no_nodes_bytes no_nodes
unfolding blocks payloads faults
accepted = record {
  blocks = catalogue_head 12 ∷ [];
  reads = record {
    reads = record { header = refl; end = 428; blocks_stand = (refl, refl); ends = refl };
    place = catalogue_head 12;
    one_catalogue = refl;
    catalogue = refl;
  };
  no_layout_fault = refl;
  nodes = refl;
  no_node_fault = refl;
  bytes = refl;
}

header_alone : IsRefused (codes "BLENDER-v405") (InBlocks (Truncated 12))
unfolding blocks
header_alone =
    (header_8 405, inl (record { header = refl; blocks = []; end = 12; blocks_stand = refl; fails = refl }, omega arith))

no_catalogue : IsRefused (codes "BLENDER-v405ENDB") NoCatalogue
unfolding blocks
no_catalogue = record {
  header = header_8 405;
  blocks = [];
  reads = record { header = refl; end = 12; blocks_stand = refl; ends = refl };
  few = omega arith;
  fact = refl;
}

abbrev two_catalogues : List ℕ
two_catalogues = take 428 no_nodes_bytes ++ take 416 (drop 12 no_nodes_bytes) ++ codes "ENDB"

-- with the place of the second one
second_catalogue : IsRefused two_catalogues (TwoCatalogues 428)
unfolding blocks
second_catalogue = record {
  header = header_8 405;
  blocks = catalogue_head 12 ∷ catalogue_head 428 ∷ [];
  reads = record { header = refl; end = 844; blocks_stand = (refl, (refl, refl)); ends = refl };
  few = omega arith;
  fact = refl;
}

-- ---- nodes

abbrev object : ℕ → ℕ → ℕ → Option NodeFault
object index count len = node_fault example_8 (head (code "OB") len 0 index count 12)

-- a number past the last struct, also where nothing would fit
unknown_structs : object 5 1 4 ∷ object 5 9 0 ∷ [] ≡ Some (BadStruct 12) ∷ Some (BadStruct 12) ∷ []
unknown_structs = refl

one_byte_short : object 3 1 135 ≡ Some (ShortBlock 12)
one_byte_short = refl

-- bytes behind the last element, no elements at all, and raw data, whose count says nothing
nodes_that_fit : object 3 2 273 ∷ object 3 0 0 ∷ object 0 2147483647 0 ∷ [] ≡ None ∷ None ∷ None ∷ []
nodes_that_fit = refl
