-- What is handed on between the steps in which a file is opened.
use Rattle.std.specs.Prelude.{◌≡◌, ℕ, ◌*◌, ◌^◌, ◌<◌, ◌≤◌, List, length, All, Option, Some, None, Ok, ⊤}
use Rattle.bl_format.specs.declared.file.Header.{Header}
use Rattle.bl_format.specs.declared.file.Head.{Head}
use Rattle.bl_format.specs.declared.catalogue.Catalogue.{Catalogue}
use Rattle.bl_format.specs.Limits.{most_blocks, most_input_bytes, first_version, last_version}
use Rattle.bl_format.specs.Blocks.{header_of, blocks_of}
use Rattle.bl_format.specs.Schema.{catalogue_of, catalogue_written}
use Rattle.bl_format.specs.Layout.{HasLayout, layout_fault}
use Rattle.bl_format.specs.Nodes.{catalogues_in}
use Rattle.bl_layout.specs.LaidOut.{LaidOut}
use Rattle.bl_file.specs.declared.fault.OpenFault.{OpenFault}
use Rattle.bl_file.specs.declared.fault.OpenFault.TheVariants as faults
use Rattle.bl_file.specs.Opening.{first_payload, catalogue_fault, file_in, format_fault}
use Rattle.bl_file.specs.Outlines.{file_with, IsNodeIn}

-- a fault is the one that a check gives, or memory was wanted
abbrev pub IsGiven : Option OpenFault → OpenFault → Type 0
IsGiven given faults.NoMemory = ⊤
IsGiven given faults.Absent = ⊥
IsGiven given faults.Device = ⊥
IsGiven given fault = given ≡ Some fault

-- nothing in the bytes gives a fault
abbrev pub NoFaultIn : OpenFault → List ℕ → Type 0
NoFaultIn fault b = ⊥

-- a fault is the first of some bytes
abbrev pub IsFormatFault : OpenFault → List ℕ → Type 0
IsFormatFault fault b = format_fault b ≡ Some fault

-- the bytes read as this header and these blocks
pub record AreBlocksOf (h : Header) (heads : List Head) (b : List ℕ) : Type 0 where
  pub header : header_of b ≡ Ok h
  pub blocks : blocks_of h b ≡ Ok heads

-- the bytes read as this header and these blocks, of which one holds this catalogue, which has a layout
pub record IsCatalogueOf (h : Header) (heads : List Head) (c : Catalogue) (b : List ℕ) : Type 0 where
  pub header : header_of b ≡ Ok h
  pub blocks : blocks_of h b ≡ Ok heads
  pub one_catalogue : catalogue_fault (catalogues_in heads) ≡ None
  pub catalogue : catalogue_of h.order (first_payload h b (catalogues_in heads)) ≡ Ok c
  pub no_layout_fault : layout_fault c h.width ≡ None

-- the bytes pass all checks, and read as the file of this header, this catalogue and these nodes
pub record IsFileOf (h : Header) (c : Catalogue) (nodes : List Head) (b : List ℕ) : Type 0 where
  pub file : file_in b ≡ file_with h c nodes b
  pub passes : format_fault b ≡ None

-- a header, a layout and nodes are sound as those of a file of so many bytes
pub record IsSoundFrame (h : Header) (l : LaidOut) (heads : List Head) (whole : ℕ) : Type 0 where
  pub version : (first_version ≤ h.version) × (h.version ≤ last_version)
  pub width : l.width ≡ h.width
  pub has_layout : HasLayout l.catalogue l.width
  pub short : length (catalogue_written h.order l.catalogue) < 2 ^ 31
  pub few : length heads ≤ most_blocks
  pub spaced : 16 * length heads ≤ whole
  pub size : whole ≤ most_input_bytes
  pub nodes : All (IsNodeIn h l.catalogue whole) heads
