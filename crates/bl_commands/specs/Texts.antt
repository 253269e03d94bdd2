-- The printed texts, and what a reporter says of a row.
use Rattle.std.specs.Prelude.{ℕ, zero, suc, ◌+◌, ◌-◌, ◌*◌, ◌/◌, ◌%◌, Bool, not, ◌&&◌, ◌==◌, nat_le, nat_lt, if◌then◌else◌, List, [], ◌∷◌, ◌++◌, length, take, flat_map, Option, Some, None, ℤ, pos, negsuc, codes, decimal}
use Rattle.std.specs.List.{suffix_len}
use Rattle.bl_format.specs.declared.file.HeadFault.{HeadFault}
use Rattle.bl_format.specs.declared.file.HeadFault.TheVariants as head
use Rattle.bl_format.specs.declared.file.BlockFault.{BlockFault}
use Rattle.bl_format.specs.declared.file.BlockFault.TheVariants as block
use Rattle.bl_format.specs.declared.catalogue.SdnaFault.{SdnaFault}
use Rattle.bl_format.specs.declared.catalogue.SdnaFault.TheVariants as sdna
use Rattle.bl_format.specs.declared.layout.LayoutFault.{LayoutFault}
use Rattle.bl_format.specs.declared.layout.LayoutFault.TheVariants as layout
use Rattle.bl_commands.specs.declared.report.Row.{Row}
use Rattle.bl_commands.specs.declared.report.Value.{Value}
use Rattle.bl_commands.specs.declared.report.Value.TheVariants.{Whole, Bits, Node, Bytes, Chars}
use Rattle.bl_commands.specs.declared.ending.FileFault.{FileFault}
use Rattle.bl_commands.specs.declared.ending.FileFault.TheVariants as faults
use Rattle.bl_commands.specs.declared.ending.Lack.{Lack}
use Rattle.bl_commands.specs.declared.ending.Lack.TheVariants as lacks
use Rattle.bl_commands.specs.declared.ending.Quantity.{Quantity}
use Rattle.bl_commands.specs.declared.ending.Quantity.TheVariants as quantities
use Rattle.bl_commands.specs.declared.ending.Ending.{Ending}
use Rattle.bl_commands.specs.declared.ending.Ending.TheVariants.{NoCommand, Absent, Device, BadFile, Missing, FloatCast, PastLimit, Sink}
use Rattle.bl_commands.specs.declared.ending.Ending.TheVariants as endings

-- ---- numbers and shown bytes

-- a printed text, as its bytes
abbrev pub Text : Type 0
Text = List ℕ

-- 0 to 9, a to f
abbrev pub hex_digit : ℕ → ℕ
hex_digit n = if nat_lt n 10 then 48 + n else 87 + n

-- so many hexadecimal digits
abbrev pub hex : ℕ → ℕ → Text
hex zero v = []
hex (suc k) v = hex k (v / 16) ++ hex_digit (v % 16) ∷ []

-- a decimal number without leading zeros, with `-` where it is negative
abbrev pub whole_text : ℤ → Text
whole_text (pos n) = decimal n
whole_text (negsuc n) = 45 ∷ decimal (n + 1)

-- from 20 to 7E but for `"` and `\`
abbrev pub is_plain : ℕ → Bool
is_plain b = nat_le 0x20 b && nat_le b 0x7e && not (b == 34) && not (b == 92)

-- itself, or `\x` and its two digits
abbrev pub shown_byte : ℕ → Text
shown_byte b = if is_plain b then b ∷ [] else 92 ∷ 120 ∷ hex 2 b

-- how bytes of names, codes and paths are printed
abbrev pub shown_bytes : List ℕ → Text
shown_bytes bytes = flat_map shown_byte bytes

-- a block's code, without the zero bytes at its end
abbrev pub shown_code : List ℕ → Text
shown_code code = shown_bytes (take (length code - suffix_len (λ b. b == 0) code) code)

-- ---- pieces joined

-- one blank
abbrev pub space : Text
space = codes " "

-- shown bytes between two `"`
abbrev pub quoted_bytes : List ℕ → Text
quoted_bytes bytes = 34 ∷ (shown_bytes bytes ++ 34 ∷ [])

-- words with one space between each two
abbrev pub joined_by_spaces : List Text → Text
joined_by_spaces [] = []
joined_by_spaces (w ∷ []) = w
joined_by_spaces (w ∷ v ∷ ws) = w ++ (32 ∷ joined_by_spaces (v ∷ ws))

-- words with one space between each two, and the byte 0A behind them
abbrev pub line : List Text → Text
line [] = 10 ∷ []
line (w ∷ []) = w ++ 10 ∷ []
line (w ∷ v ∷ ws) = w ++ (32 ∷ line (v ∷ ws))

-- what a command that writes puts: the nodes and the bytes of its output
unfoldable pub summary_line : ℕ → ℕ → Text
summary_line blocks bytes = line (codes "blocks" ∷ decimal blocks ∷ codes "bytes" ∷ decimal bytes ∷ [])

-- ---- values and rows

-- `null`, or `#` and the number of a node
abbrev pub node_text : Option ℕ → Text
node_text None = codes "null"
node_text (Some n) = codes "#" ++ decimal n

-- how a row shows a value
unfoldable pub value_text : Value → Text
value_text (Whole v) = whole_text v
value_text (Bits n v) = codes "0x" ++ hex (2 * n) v
value_text (Node to) = node_text to
value_text (Bytes bytes) = flat_map (hex 2) bytes
value_text (Chars bytes) = quoted_bytes bytes

-- a piece of a reporter's form: bytes, or a field of the row
pub data Piece : Type 0 where
  IsText : (text : Text) → Piece
  IsNode : Piece
  IsCode : Piece
  IsStruct : Piece
  IsElement : Piece
  IsPath : Piece
  IsValue : Piece

-- what a piece stands for in a row
abbrev pub piece_text : Row → Piece → Text
piece_text row (IsText text) = text
piece_text row IsNode = decimal row.node
piece_text row IsCode = shown_code row.code
piece_text row IsStruct = shown_bytes row.struct_name
piece_text row IsElement = decimal row.element
piece_text row IsPath = shown_bytes row.path
piece_text row IsValue = value_text row.value

-- what a reporter of a form says of a row
unfoldable pub row_text : List Piece → Row → Text
row_text form row = flat_map (piece_text row) form

-- kind 1: `#NODE CODE STRUCT[ELEMENT] PATH = VALUE`
abbrev pub plain_form : List Piece
plain_form =
    IsText (codes "#") ∷ IsNode ∷ IsText space ∷ IsCode ∷ IsText space ∷ IsStruct
    ∷ IsText (codes "[") ∷ IsElement ∷ IsText (codes "] ") ∷ IsPath
    ∷ IsText (codes " = ") ∷ IsValue ∷ IsText (10 ∷ []) ∷ []

-- kind 2: the fields with one byte 09 between each two
abbrev pub tab_form : List Piece
tab_form =
    let tab = IsText (9 ∷ []) in
    IsNode ∷ tab ∷ IsCode ∷ tab ∷ IsStruct ∷ tab ∷ IsElement ∷ tab ∷ IsPath ∷ tab ∷ IsValue
    ∷ IsText (10 ∷ []) ∷ []

-- ---- faults of a file

-- a name with a place or a number
abbrev pub with_place : Text → ℕ → Text
with_place name place = joined_by_spaces (name ∷ decimal place ∷ [])

-- a name with those of a struct and its member
abbrev pub with_member : Text → List ℕ → List ℕ → Text
with_member name owner member = joined_by_spaces (name ∷ shown_bytes owner ∷ shown_bytes member ∷ [])

-- what a line says of a file that is refused
abbrev pub file_fault_text : FileFault → Text
file_fault_text faults.Compressed = codes "Compressed"
file_fault_text faults.BadMagic = codes "BadMagic"
file_fault_text (faults.BadMark place) = with_place (codes "BadMark") place
file_fault_text (faults.BadVersion version) = with_place (codes "BadVersion") version
file_fault_text (faults.Truncated place) = with_place (codes "Truncated") place
file_fault_text (faults.NegativeLength place) = with_place (codes "NegativeLength") place
file_fault_text (faults.NegativeIndex place) = with_place (codes "NegativeIndex") place
file_fault_text (faults.NegativeCount place) = with_place (codes "NegativeCount") place
file_fault_text faults.NoCatalogue = codes "NoCatalogue"
file_fault_text (faults.TwoCatalogues place) = with_place (codes "TwoCatalogues") place
file_fault_text (faults.BadTag place) = with_place (codes "BadTag") place
file_fault_text (faults.CutShort place) = with_place (codes "CutShort") place
file_fault_text (faults.BadIndex place) = with_place (codes "BadIndex") place
file_fault_text (faults.TwoTypes place) = with_place (codes "TwoTypes") place
file_fault_text (faults.TwoStructs place) = with_place (codes "TwoStructs") place
file_fault_text (faults.BadName owner member) = with_member (codes "BadName") owner member
file_fault_text (faults.DuplicateMember owner member) = with_member (codes "DuplicateMember") owner member
file_fault_text (faults.BasicLength owner member) = with_member (codes "BasicLength") owner member
file_fault_text (faults.Cyclic owner member) = with_member (codes "Cyclic") owner member
file_fault_text (faults.Overrun owner member) = with_member (codes "Overrun") owner member
file_fault_text (faults.BadStruct place) = with_place (codes "BadStruct") place
file_fault_text (faults.ShortBlock place) = with_place (codes "ShortBlock") place
file_fault_text (faults.StrayPlaceholder place) = with_place (codes "StrayPlaceholder") place
file_fault_text faults.NotBuilt = codes "NotBuilt"

-- ---- what is missing

-- a name, and a shown text behind it
abbrev pub with_text : Text → List ℕ → Text
with_text name text = joined_by_spaces (name ∷ shown_bytes text ∷ [])

-- a name, and the file in which it is missing
abbrev pub in_file : Text → List ℕ → Text
in_file name file = joined_by_spaces (name ∷ codes "in" ∷ shown_bytes file ∷ [])

-- a placeholder's full name, and the path of the library's file that doesn't have it
abbrev pub missing_datablock_text : List ℕ → List ℕ → Text
missing_datablock_text name path =
    joined_by_spaces (codes "MissingDatablock" ∷ shown_bytes name ∷ codes "in" ∷ shown_bytes path ∷ [])

-- what a line says of what is missing
abbrev pub lack_text : Lack → Text
lack_text (lacks.NoIdStruct file) = in_file (codes "NoIdStruct") file
lack_text (lacks.NoName file) = in_file (codes "NoName") file
lack_text (lacks.NoLibraryStruct file) = in_file (codes "NoLibraryStruct") file
lack_text (lacks.NoDatablock name) = with_text (codes "NoDatablock") name
lack_text (lacks.MissingDatablock name path) = missing_datablock_text name path
lack_text (lacks.NoStruct name) = with_text (codes "NoStruct") name
lack_text (lacks.BadLibraryPath path) = with_text (codes "BadLibraryPath") path
lack_text (lacks.NoMember place) = with_place (codes "NoMember") place
lack_text (lacks.NotArray place) = with_place (codes "NotArray") place
lack_text (lacks.OutOfRange place) = with_place (codes "OutOfRange") place
lack_text (lacks.NotLeaf place) = with_place (codes "NotLeaf") place
lack_text (lacks.NotPointer place) = with_place (codes "NotPointer") place
lack_text (lacks.NullPointer place) = with_place (codes "NullPointer") place
lack_text (lacks.NotStruct place) = with_place (codes "NotStruct") place

-- ---- quantities

-- what has a limit, in words
abbrev pub quantity_text : Quantity → Text
quantity_text quantities.InputBytes = codes "input bytes"
quantity_text quantities.Blocks = codes "blocks"
quantity_text quantities.Depth = codes "depth"
quantity_text quantities.Leaves = codes "leaves"
quantity_text quantities.TypeBytes = codes "type bytes"
quantity_text quantities.PathBytes = codes "path bytes"
quantity_text quantities.NameBytes = codes "name bytes"
quantity_text quantities.Libraries = codes "libraries"
quantity_text quantities.OutputBlocks = codes "output blocks"
quantity_text quantities.BlockBytes = codes "block bytes"
quantity_text quantities.FileBytes = codes "file bytes"

-- ---- how a run ends

-- the status of the process
abbrev pub status_of : Ending → ℕ
status_of NoCommand = 2
status_of endings.NoMemory = 3
status_of (Absent file) = 4
status_of Device = 5
status_of (BadFile file fault) = 6
status_of (Missing lack) = 7
status_of (FloatCast owner member) = 8
status_of (PastLimit quantity count) = 9
status_of Sink = 10

-- the line that tells of it; a failed sink has none
unfoldable pub fault_line : Ending → Text
fault_line NoCommand = line (codes "usage" ∷ [])
fault_line endings.NoMemory = line (codes "out of memory" ∷ [])
fault_line (Absent file) = line (codes "absent" ∷ shown_bytes file ∷ [])
fault_line Device = line (codes "device" ∷ [])
fault_line (BadFile file fault) =
    codes "bad file " ++ (shown_bytes file ++ (codes ": " ++ (file_fault_text fault ++ 10 ∷ [])))
fault_line (Missing lack) = line (codes "missing" ∷ lack_text lack ∷ [])
fault_line (FloatCast owner member) =
    codes "float cast " ++ (shown_bytes owner ++ (codes "." ++ (shown_bytes member ++ 10 ∷ [])))
fault_line (PastLimit quantity count) = line (codes "limit" ∷ quantity_text quantity ∷ decimal count ∷ [])
fault_line Sink = []

-- ---- how the faults of single layers end a run, by the file's shelf name

-- a header that isn't read
abbrev pub head_ending : List ℕ → HeadFault → Ending
head_ending file head.Compressed = BadFile file faults.Compressed
head_ending file head.BadMagic = BadFile file faults.BadMagic
head_ending file (head.BadMark place) = BadFile file (faults.BadMark place)
head_ending file (head.BadVersion version) = BadFile file (faults.BadVersion version)

-- blocks that aren't read
abbrev pub block_ending : List ℕ → BlockFault → Ending
block_ending file (block.Truncated place) = BadFile file (faults.Truncated place)
block_ending file (block.NegativeLength place) = BadFile file (faults.NegativeLength place)
block_ending file (block.NegativeIndex place) = BadFile file (faults.NegativeIndex place)
block_ending file (block.NegativeCount place) = BadFile file (faults.NegativeCount place)
block_ending file (block.TooManyBlocks count) = PastLimit quantities.Blocks count
block_ending file block.NoMemory = endings.NoMemory

-- a catalogue that isn't read
abbrev pub sdna_ending : List ℕ → SdnaFault → Ending
sdna_ending file (sdna.BadTag place) = BadFile file (faults.BadTag place)
sdna_ending file (sdna.CutShort place) = BadFile file (faults.CutShort place)
sdna_ending file (sdna.BadIndex place) = BadFile file (faults.BadIndex place)
sdna_ending file (sdna.TwoTypes place) = BadFile file (faults.TwoTypes place)
sdna_ending file (sdna.TwoStructs place) = BadFile file (faults.TwoStructs place)
sdna_ending file sdna.NoMemory = endings.NoMemory

-- a catalogue without a layout, with the names of the struct and the member at fault
abbrev pub layout_ending : List ℕ → List ℕ → List ℕ → LayoutFault → Ending
layout_ending file owner member (layout.BadName s k) = BadFile file (faults.BadName owner member)
layout_ending file owner member (layout.BasicLength s k) = BadFile file (faults.BasicLength owner member)
layout_ending file owner member (layout.Overrun s k) = BadFile file (faults.Overrun owner member)
layout_ending file owner member (layout.Cyclic s k) = BadFile file (faults.Cyclic owner member)
layout_ending file owner member (layout.DuplicateMember s k) = BadFile file (faults.DuplicateMember owner member)
layout_ending file owner member (layout.TooDeep count) = PastLimit quantities.Depth count
layout_ending file owner member (layout.TooManyLeaves count) = PastLimit quantities.Leaves count
layout_ending file owner member (layout.TooLong count) = PastLimit quantities.TypeBytes count
layout_ending file owner member layout.NoMemory = endings.NoMemory
