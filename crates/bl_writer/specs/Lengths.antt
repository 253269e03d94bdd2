-- How long the blocks of an output are, and how much of a node is read before it is written. This project's own.
use Rattle.std.specs.Prelude.{◌≡◌, ℕ, zero, suc, ◌+◌, ◌==◌, ◌≤◌, ◌<◌, Bool, true, false, if◌then◌else◌, length, Option, Some, None, Result, Ok, Err, ⊤}
use Rattle.bl_format.specs.declared.file.Header.{Header}
use Rattle.bl_format.specs.declared.file.Head.{Head}
use Rattle.bl_format.specs.declared.raw.RawKind.{RawKind}
use Rattle.bl_format.specs.declared.raw.RawKind.TheVariants.{Bytes, Numbers, Pointers, Pair}
use Rattle.bl_format.specs.Blocks.{header_size, head_size}
use Rattle.bl_format.specs.Schema.{catalogue_written}
use Rattle.bl_selection.specs.OutputSizes.{OutputFault, LongPayload, LongOutput, output_length, size_fault}
use Rattle.bl_ptrarrays.specs.Carried.{is_other}
use Rattle.bl_writer.specs.declared.buffer.OutBuffer.{OutBuffer}
use Rattle.bl_writer.specs.declared.fault.WriteFault.{WriteFault}
use Rattle.bl_writer.specs.declared.fault.WriteFault.TheVariants as faults
use Rattle.bl_writer.specs.declared.measure.Lengths.{Lengths}
use Rattle.bl_writer.specs.declared.output_staged.Measured.{Measured}
use Rattle.bl_writer.specs.declared.output.Output.{Output}
use Rattle.bl_writer.specs.Outputs.{ArePayloadsShort, kind_of, head_of, block_length, payload_lengths, target_of}

-- ---- blocks

-- the bytes of the first k blocks
unfoldable pub blocks_length : Output → ℕ → ℕ
blocks_length o zero = 0
blocks_length o (suc k) = blocks_length o k + block_length o k

-- each block fits so many bytes
abbrev pub OutputFits : Output → ℕ → Type 0
OutputFits o n = (k : ℕ) → k < length o.nodes.now → block_length o k ≤ n

-- all bytes, by those of the blocks and of the catalogue
abbrev pub form_length : Header → ℕ → ℕ → ℕ
form_length h blocks catalogue = header_size h + blocks + (head_size h + catalogue) + head_size h

-- ---- what is read before it is written

-- elements of structs are read in pieces of so many bytes at most
abbrev pub piece_size : ℕ
piece_size = 65536

-- an output has another order of bytes than its source
abbrev pub turns : Output → Bool
turns o = is_other o.from.order o.header.order

-- a raw payload of a kind is read before it is carried: pointers are, and numbers that turn
unfoldable pub is_read_first : Output → RawKind → Bool
is_read_first o Bytes = false
is_read_first o (Numbers n) = turns o
is_read_first o Pointers = true
is_read_first o Pair = turns o

-- how many of so many bytes of a raw payload are read so: all or none
abbrev pub raw_scratch : Output → RawKind → ℕ → ℕ
raw_scratch o kind len = if is_read_first o kind then len else 0

-- the bytes of a node that are read before they are written, by its kind and its head
abbrev pub scratch_of : Output → RawKind → Head → ℕ
scratch_of o kind x = if x.index == 0 then raw_scratch o kind x.len else piece_size

-- those of node k
abbrev pub node_scratch : Output → ℕ → ℕ
node_scratch o k = scratch_of o (kind_of o k) (head_of o k)

-- what is read of each node fits so many bytes
abbrev pub OutputScratchFits : Output → ℕ → Type 0
OutputScratchFits o n = (k : ℕ) → k < length o.nodes.now → node_scratch o k ≤ n

-- ---- all of it

-- all bytes of an output
abbrev pub output_size : Output → ℕ
output_size o = output_length o.header (target_of o) (payload_lengths o)

-- the first limit that an output passes
abbrev pub output_fault : Output → Option OutputFault
output_fault o = size_fault (length o.nodes.now) (payload_lengths o) (output_size o)

-- an output keeps all limits, and these are its lengths
pub record AreLengths (o : Output) (x : Lengths) : Type 0 where
  pub passes : output_fault o ≡ None
  pub short : ArePayloadsShort o
  pub block : OutputFits o x.block
  pub scratch : OutputScratchFits o x.scratch
  pub bytes : x.bytes ≡ output_size o
  pub parts : x.bytes
      ≡ form_length o.header (blocks_length o (length o.nodes.now)) (length (catalogue_written o.header.order (target_of o)))

-- a fault is that of the first limit that an output passes
abbrev pub IsSizeFault : Output → WriteFault → Type 0
IsSizeFault o (faults.BlockTooLong n) = output_fault o ≡ Some (LongPayload n)
IsSizeFault o (faults.FileTooLarge n) = output_fault o ≡ Some (LongOutput n)
IsSizeFault o _ = ⊥

-- a catalogue is written and an output is measured
pub record IsMeasured (o : Output) (x : Measured) : Type 0 where
  pub catalogue : x.catalogue.items ≡ catalogue_written o.header.order (target_of o)
  pub lengths : AreLengths o x.lengths

-- a fault is that of the first limit that an output passes, or that of memory
abbrev pub IsMeasureFault : Output → WriteFault → Type 0
IsMeasureFault o faults.NoMemory = ⊤
IsMeasureFault o fault = IsSizeFault o fault

-- an answer to an output: what is staged keeps the limits, and what isn't passes the one that is told, or a device
-- failed, the file is gone or memory ended
abbrev pub KeepsOutputLimits : {T : Type 0} → Output → Result T WriteFault → Type 0
KeepsOutputLimits o (Ok _) = output_fault o ≡ None
KeepsOutputLimits o (Err faults.Absent) = ⊤
KeepsOutputLimits o (Err faults.Device) = ⊤
KeepsOutputLimits o (Err fault) = IsMeasureFault o fault

-- ---- the buffer

-- a buffer holds nothing back, and each block and so many bytes fit it
pub record IsReady (o : Output) (n : ℕ) (b : OutBuffer) : Type 0 where
  pub empty : b.filled ≡ 0
  pub blocks : OutputFits o (length b.bytes.items)
  pub fits : n ≤ length b.bytes.items
