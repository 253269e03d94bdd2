-- A file's header and its list of blocks, as they are read and as they are written; and the grammar of a
-- file, which says the same without places. The header and the heads are Blender's (`BHead`, `readfile`,
-- `writefile`). This project's own: the order of the checks, which versions are read, how a code of two
-- letters is spelled where the highest byte comes first, and the limit on blocks.
use Rattle.std.specs.Prelude.{◌≡◌, ◌⊎◌, ℕ, zero, suc, ◌+◌, ◌-◌, ◌*◌, ◌/◌, ◌%◌, ◌^◌, ◌<◌, ◌≤◌, Bool, false, not, ◌&&◌, ◌||◌, ◌==◌, nat_le, nat_lt, if◌then◌else◌, List, [], ◌∷◌, ◌++◌, length, take, drop, Option, Some, None, Result, Ok, Err, codes, slice_index}
use Rattle.std.specs.List.{list_all}
use Rattle.std.specs.Str.{bytes_eq, byte}
use Rattle.std.specs.Char.{is_ascii_digit}
use Rattle.bl_num.specs.declared.number.Order.{Order}
use Rattle.bl_num.specs.declared.number.Order.TheVariants.{Little, Big}
use Rattle.bl_num.specs.declared.number.Width.{Width}
use Rattle.bl_num.specs.declared.number.Width.TheVariants.{Four, Eight}
use Rattle.bl_num.specs.Numbers.{pointer_bytes, bytes_of}
use Rattle.bl_format.specs.declared.file.Header.{Header}
use Rattle.bl_format.specs.declared.file.Head.{Head}
use Rattle.bl_format.specs.declared.file.HeadFault.{HeadFault}
use Rattle.bl_format.specs.declared.file.HeadFault.TheVariants.{Compressed, BadMagic, BadMark, BadVersion}
use Rattle.bl_format.specs.declared.file.BlockFault.{BlockFault}
use Rattle.bl_format.specs.declared.file.BlockFault.TheVariants.{Truncated, NegativeLength, NegativeIndex, NegativeCount, TooManyBlocks}
use Rattle.bl_format.specs.declared.file.Step.{Step}
use Rattle.bl_format.specs.declared.file.Step.TheVariants.{Block, End}
use Rattle.bl_format.specs.Words.{part, number_at}
pub use Rattle.bl_format.specs.Limits.{first_version, last_version, most_blocks}

-- ---- the header

-- the bytes of a classic header, the one form that is read
abbrev pub classic_header_size : ℕ
classic_header_size = 12

-- the bytes of a header
abbrev pub header_size : Header → ℕ
header_size h = classic_header_size

-- `_` for pointers of 4 bytes, `-` for pointers of 8
abbrev pub width_mark : Width → ℕ
width_mark Four = byte "_"
width_mark Eight = byte "-"

-- `v` for the lowest byte first, `V` for the highest first
abbrev pub order_mark : Order → ℕ
order_mark Little = byte "v"
order_mark Big = byte "V"

-- a byte is a mark of a width
abbrev pub is_width_mark : ℕ → Bool
is_width_mark x = x == width_mark Four || x == width_mark Eight

-- a byte is a mark of an order
abbrev pub is_order_mark : ℕ → Bool
is_order_mark x = x == order_mark Little || x == order_mark Big

-- the number of a decimal digit
abbrev pub digit_value : ℕ → ℕ
digit_value d = d - byte "0"

-- the number that three decimal digits spell
abbrev pub digits_value : List ℕ → ℕ
digits_value ds =
    100 * digit_value (slice_index ds 0) + 10 * digit_value (slice_index ds 1) + digit_value (slice_index ds 2)

-- the first place from 7 on whose byte isn't as it should be: two marks and three digits
abbrev pub bad_mark : List ℕ → Option ℕ
bad_mark b =
    if not (is_width_mark (slice_index b 7)) then Some 7 else
    if not (is_order_mark (slice_index b 8)) then Some 8 else
    if not (is_ascii_digit (slice_index b 9)) then Some 9 else
    if not (is_ascii_digit (slice_index b 10)) then Some 10 else
    if not (is_ascii_digit (slice_index b 11)) then Some 11 else
    None

-- the header that twelve bytes without a bad mark spell, unless its version isn't read
abbrev pub marked_header : List ℕ → Result Header HeadFault
marked_header b =
    let version = digits_value (part b 9 3) in
    if nat_lt version first_version || nat_lt last_version version then Err (BadVersion version) else
    Ok (record {
      width = if slice_index b 7 == width_mark Four then Four else Eight;
      order = if slice_index b 8 == order_mark Little then Little else Big;
      version = version;
    })

-- a bad mark where there is one, and else the header
abbrev pub unless_bad_mark : Option ℕ → Result Header HeadFault → Result Header HeadFault
unless_bad_mark (Some at) h = Err (BadMark at)
unless_bad_mark None h = h

-- the first bytes of a file that gzip wrote
abbrev pub gzip_mark : List ℕ
gzip_mark = 0x1f ∷ 0x8b ∷ []

-- the first bytes of a file that zstd wrote
abbrev pub zstd_mark : List ℕ
zstd_mark = 0x28 ∷ 0xb5 ∷ 0x2f ∷ 0xfd ∷ []

-- a file is compressed, by its first bytes
abbrev pub is_compressed : List ℕ → Bool
is_compressed b = bytes_eq (take 2 b) gzip_mark || bytes_eq (take 4 b) zstd_mark

-- a file is shorter than a header, or doesn't begin as one
abbrev pub lacks_magic : List ℕ → Bool
lacks_magic b = nat_lt (length b) classic_header_size || not (bytes_eq (take 7 b) (codes "BLENDER"))

-- the header of a file, or the first check that fails: compression, the first seven bytes, marks, version
unfoldable pub header_of : List ℕ → Result Header HeadFault
header_of b =
    if is_compressed b then Err Compressed else
    if lacks_magic b then Err BadMagic else
    unless_bad_mark (bad_mark b) (marked_header b)

-- ---- one block

-- what the four bytes of a code mean: two letters behind two zeros are a code of two letters, and any other
-- code is itself
abbrev pub code_meant : List ℕ → List ℕ
code_meant code =
    if bytes_eq (take 2 code) (0 ∷ 0 ∷ []) && list_all (λ b. not (b == 0)) (drop 2 code)
    then drop 2 code ++ (0 ∷ 0 ∷ [])
    else code

-- a code of two letters: two bytes that aren't zero, and two zeros
abbrev pub is_two_letter : List ℕ → Bool
is_two_letter code = list_all (λ b. not (b == 0)) (take 2 code) && bytes_eq (drop 2 code) (0 ∷ 0 ∷ [])

-- how a code is written: one of two letters with its zeros first where the highest byte comes first
abbrev pub code_written : Order → List ℕ → List ℕ
code_written Little code = code
code_written Big code = if is_two_letter code then (0 ∷ 0 ∷ []) ++ take 2 code else code

-- the bytes of a block's head: code, length, old address, struct number and count
abbrev pub head_size : Header → ℕ
head_size h = 16 + pointer_bytes h.width

-- as a signed number of 32 bits it is negative
abbrev pub is_negative : ℕ → Bool
is_negative n = nat_le (2 ^ 31) n

-- the head with which some bytes begin that stand at a place of the file
unfoldable pub head_in : Header → List ℕ → ℕ → Head
head_in h b at =
    let w = pointer_bytes h.width in
    record {
      code = code_meant (take 4 b);
      len = number_at h.order b 4 4;
      address = number_at h.order b 8 w;
      index = number_at h.order b (8 + w) 4;
      count = number_at h.order b (12 + w) 4;
      at = at;
    }

-- a head in a file of some size, or the first check that it fails
abbrev pub checked_head : Header → Head → ℕ → Result Step BlockFault
checked_head h x size =
    if is_negative x.len then Err (NegativeLength x.at) else
    if is_negative x.index then Err (NegativeIndex x.at) else
    if is_negative x.count then Err (NegativeCount x.at) else
    if nat_lt size (x.at + head_size h + x.len) then Err (Truncated x.at) else
    Ok (Block x)

-- what begins at a place, by the bytes from there on and the size of the file: a block, the end, or a fault
unfoldable pub step_in : Header → List ℕ → ℕ → ℕ → Result Step BlockFault
step_in h b at size =
    if nat_lt size (at + 4) then Err (Truncated at) else
    if bytes_eq (take 4 b) (codes "ENDB") then Ok End else
    if nat_lt size (at + head_size h) then Err (Truncated at) else
    checked_head h (head_in h b at) size

-- what begins at a place of a whole file
abbrev pub step_at : Header → List ℕ → ℕ → Result Step BlockFault
step_at h b at = step_in h (drop at b) at (length b)

-- ---- all blocks

-- the blocks with one before them, where there is no fault
abbrev pub with_block : Head → Result (List Head) BlockFault → Result (List Head) BlockFault
with_block x (Ok xs) = Ok (x ∷ xs)
with_block x (Err fault) = Err fault

-- the blocks from a place up to the end, or the first check that fails; n blocks are too many
unfoldable pub blocks_within : ℕ → Header → List ℕ → ℕ → Result (List Head) BlockFault
blocks_within zero h b at = Err (TooManyBlocks (most_blocks + 1))
blocks_within (suc n) h b at = by_step (step_at h b at) (λ x. blocks_within n h b (at + head_size h + x.len))
  where
    by_step : Result Step BlockFault → (Head → Result (List Head) BlockFault) → Result (List Head) BlockFault
    by_step (Err fault) rest = Err fault
    by_step (Ok End) rest = Ok []
    by_step (Ok (Block x)) rest = with_block x (rest x)

-- the blocks of a file behind its header, or the first check that fails
unfoldable pub blocks_of : Header → List ℕ → Result (List Head) BlockFault
blocks_of h b = blocks_within (most_blocks + 1) h b (header_size h)

-- these blocks stand one after another, from one place up to another
abbrev pub AreBlocks : Header → List ℕ → ℕ → List Head → ℕ → Type 0
AreBlocks h b at [] end = at ≡ end
AreBlocks h b at (x ∷ xs) end =
    (step_at h b at ≡ Ok (Block x)) × AreBlocks h b (at + head_size h + x.len) xs end

-- the file reads as this header and these blocks, behind which it ends
pub record Reads (b : List ℕ) (h : Header) (blocks : List Head) : Type 0 where
  pub header : header_of b ≡ Ok h
  pub end : ℕ
  pub blocks_stand : AreBlocks h b (header_size h) blocks end
  pub ends : step_at h b end ≡ Ok End

-- the file has this header, and behind the longest list of leading blocks this check fails first
pub record Breaks (b : List ℕ) (h : Header) (fault : BlockFault) : Type 0 where
  pub header : header_of b ≡ Ok h
  pub blocks : List Head
  pub end : ℕ
  pub blocks_stand : AreBlocks h b (header_size h) blocks end
  pub fails : step_at h b end ≡ Err fault

-- the file has this header, and one block more than the limit stands behind it
pub record HasTooManyBlocks (b : List ℕ) (h : Header) : Type 0 where
  pub header : header_of b ≡ Ok h
  pub blocks : List Head
  pub end : ℕ
  pub blocks_stand : AreBlocks h b (header_size h) blocks end
  pub too_many : length blocks ≡ most_blocks + 1

-- why the blocks behind a file's header can't be read: a check fails behind no more blocks than the limit, or
-- there is one block more than the limit
abbrev pub HasBlockFault : List ℕ → Header → BlockFault → Type 0
HasBlockFault b h fault =
    ((x : Breaks b h fault) × (length x.blocks ≤ most_blocks))
    ⊎ (HasTooManyBlocks b h × (fault ≡ TooManyBlocks (most_blocks + 1)))

-- ---- what is written

-- a head's bytes, with its code as it is written
unfoldable pub head_written : Header → Head → List ℕ
head_written h x =
    code_written h.order x.code
    ++ bytes_of h.order 4 x.len
    ++ bytes_of h.order (pointer_bytes h.width) x.address
    ++ bytes_of h.order 4 x.index
    ++ bytes_of h.order 4 x.count

-- the digit of a number below ten
abbrev pub digit_of : ℕ → ℕ
digit_of n = byte "0" + n

-- a header's bytes: a word, two marks and three digits
unfoldable pub header_written : Header → List ℕ
header_written h =
    codes "BLENDER"
    ++ (width_mark h.width ∷ order_mark h.order
    ∷ digit_of (h.version / 100) ∷ digit_of (h.version / 10 % 10) ∷ digit_of (h.version % 10) ∷ [])

-- ---- the grammar of a file

-- a number that 32 bits with a sign can hold
abbrev pub IsCount : ℕ → Type 0
IsCount n = n < 2 ^ 31

-- a block's spelling: four bytes that mean its code, its numbers, and its payload
pub record IsSpelling (h : Header) (x : Head) (text : List ℕ) : Type 0 where
  pub code : List ℕ
  pub payload : List ℕ
  pub code_len : length code ≡ 4
  pub no_end : bytes_eq code (codes "ENDB") ≡ false
  pub means : code_meant code ≡ x.code
  pub len : IsCount x.len
  pub address : x.address < 256 ^ pointer_bytes h.width
  pub index : IsCount x.index
  pub count : IsCount x.count
  pub payload_len : length payload ≡ x.len
  pub text_is : text ≡ code ++ bytes_of h.order 4 x.len ++ bytes_of h.order (pointer_bytes h.width) x.address
      ++ bytes_of h.order 4 x.index ++ bytes_of h.order 4 x.count ++ payload

-- a text is the spellings of some blocks, one after another, from a place on
abbrev pub AreSpellings : Header → ℕ → List Head → List ℕ → Type 0
AreSpellings h at [] text = text ≡ []
AreSpellings h at (x ∷ xs) text =
    let size = head_size h + x.len in
    (x.at ≡ at) × IsSpelling h x (take size text) × AreSpellings h (at + size) xs (drop size text)

-- a file of a header and some blocks: the header's bytes, the blocks' spellings, `ENDB`, and any bytes
pub record IsFile (b : List ℕ) (h : Header) (blocks : List Head) : Type 0 where
  pub version : (first_version ≤ h.version) × (h.version ≤ last_version)
  pub spellings : List ℕ
  pub rest : List ℕ
  pub blocks_spelled : AreSpellings h (header_size h) blocks spellings
  pub text : b ≡ header_written h ++ spellings ++ codes "ENDB" ++ rest
