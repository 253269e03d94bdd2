-- What is said of a file's header and blocks that are read through a payload, whatever the bytes are, and of the bytes
-- where the shelf tells them.
use Rattle.std.specs.Prelude.{◌≡◌, ℕ, ◌+◌, ◌^◌, ◌<◌, ◌≤◌, false, List, length, take, drop, Option, Some, None, option_map, Result, Ok, Err, codes, ⊤}
use Rattle.std.specs.Result.{result_err}
use Rattle.std.specs.Str.{bytes_eq}
use Rattle.bl_num.specs.Numbers.{pointer_bytes}
use Rattle.bl_format.specs.declared.file.Header.{Header}
use Rattle.bl_format.specs.declared.file.Head.{Head}
use Rattle.bl_format.specs.declared.file.Step.{Step}
use Rattle.bl_format.specs.declared.file.Step.TheVariants.{Block as BlockStep, End}
use Rattle.bl_format.specs.Blocks.{header_size, head_size, code_meant, header_of, step_at, blocks_of}
use Rattle.bl_shelf.specs.Told.{Told}
use Rattle.bl_shelf.specs.declared.shelf.ShelfFault.{ShelfFault}
use Rattle.bl_shelf.specs.declared.shelf.ShelfFault.TheVariants as shelf
use Rattle.bl_file.specs.declared.fault.OpenFault.{OpenFault}
use Rattle.bl_file.specs.declared.fault.OpenFault.TheVariants.{NoMemory, Absent, Device, Head as InHead, Block as InBlock}
use Rattle.bl_file.specs.Held.{IsHeldAnd}

-- a shelf's fault as that of a file that isn't opened
abbrev pub fault_of_shelf : ShelfFault → OpenFault
fault_of_shelf shelf.Absent = Absent
fault_of_shelf shelf.Failed = Device
fault_of_shelf shelf.NoMemory = NoMemory

-- what is read, or its fault as that of a file that isn't opened
abbrev pub with_fault : {X Fault : Type 0} → (Fault → OpenFault) → Result X Fault → Result X OpenFault
with_fault of_file (Ok x) = Ok x
with_fault of_file (Err fault) = Err (of_file fault)

-- why a file isn't read through a payload: nothing is said of memory and devices, a shelf that tells excludes that the
-- file is gone, and any other fault is such of the bytes that are held
abbrev pub IsFaultOf : Option Told → List ℕ → (OpenFault → List ℕ → Type 0) → OpenFault → Type 0
IsFaultOf told name Why NoMemory = ⊤
IsFaultOf told name Why Device = ⊤
IsFaultOf told name Why Absent = told ≡ None
IsFaultOf told name Why fault = IsHeldAnd told name (Why fault)

-- a fault is of the kinds that reading a header gives
abbrev pub IsOfHeader : OpenFault → Type 0
IsOfHeader Absent = ⊤
IsOfHeader Device = ⊤
IsOfHeader (InHead fault) = ⊤
IsOfHeader _ = ⊥

-- a fault is of the kinds that reading blocks gives
abbrev pub IsOfBlocks : OpenFault → Type 0
IsOfBlocks NoMemory = ⊤
IsOfBlocks Absent = ⊤
IsOfBlocks Device = ⊤
IsOfBlocks (InBlock fault) = ⊤
IsOfBlocks _ = ⊥

-- these are the bytes from a place on, in some bytes of this number
pub record IsPartAt (size at : ℕ) (part b : List ℕ) : Type 0 where
  pub whole : length b ≡ size
  pub bytes : take (length part) (drop at b) ≡ part

-- a fault is that of the header of some bytes
abbrev pub IsHeaderFault : OpenFault → List ℕ → Type 0
IsHeaderFault fault b = option_map InHead (result_err (header_of b)) ≡ Some fault

-- a fault is that of the step at a place of some bytes
abbrev pub IsStepFault : Header → ℕ → OpenFault → List ℕ → Type 0
IsStepFault h at fault b = option_map InBlock (result_err (step_at h b at)) ≡ Some fault

-- a fault is that of the blocks of some bytes
abbrev pub IsBlocksFault : Header → OpenFault → List ℕ → Type 0
IsBlocksFault h fault b = option_map InBlock (result_err (blocks_of h b)) ≡ Some fault

-- a block stands whole in a file of so many bytes, with numbers that fit and a code that is meant
pub record IsBlockIn (h : Header) (size : ℕ) (x : Head) : Type 0 where
  pub behind : header_size h ≤ x.at
  pub fits : x.at + head_size h + x.len ≤ size
  pub len : x.len < 2 ^ 31
  pub index : x.index < 2 ^ 31
  pub count : x.count < 2 ^ 31
  pub address : x.address < 256 ^ pointer_bytes h.width
  pub code_len : length x.code ≡ 4
  pub code : code_meant x.code ≡ x.code
  pub no_end : bytes_eq x.code (codes "ENDB") ≡ false

-- a step that finds a block at a place finds one that stands there, whole
abbrev pub IsStepIn : Header → ℕ → ℕ → Step → Type 0
IsStepIn h at size (BlockStep x) = (x.at ≡ at) × IsBlockIn h size x
IsStepIn h at size End = ⊤
