-- What holds of an opened file's outline: of itself, and as that of some bytes.
use Rattle.std.specs.Prelude.{◌≡◌, ℕ, ◌+◌, ◌*◌, ◌^◌, ◌<◌, ◌≤◌, Bool, false, List, [], length, map, get_or, All, Option, Some, None, codes}
use Rattle.std.specs.Str.{bytes_eq}
use Rattle.bl_num.specs.Numbers.{pointer_bytes}
use Rattle.bl_format.specs.declared.file.Header.{Header}
use Rattle.bl_format.specs.declared.file.Head.{Head}
use Rattle.bl_format.specs.declared.catalogue.Catalogue.{Catalogue}
use Rattle.bl_format.specs.declared.raw.RawKind.{RawKind}
use Rattle.bl_format.specs.declared.raw.RawKind.TheVariants.{Bytes, Pair}
use Rattle.bl_format.specs.Limits.{most_blocks, most_input_bytes, first_version, last_version}
use Rattle.bl_format.specs.Blocks.{header_size, head_size, code_meant}
use Rattle.bl_format.specs.Schema.{catalogue_written}
use Rattle.bl_format.specs.Layout.{HasLayout}
use Rattle.bl_format.specs.Nodes.{File, Mark, Accepted, is_catalogue, node_fault, is_id, marks, pair_length}
use Rattle.bl_selection.specs.Selection.{no_head}
use Rattle.bl_file.specs.declared.outline.Outline.{Outline}
use Rattle.bl_file.specs.declared.fault.OpenFault.{OpenFault}
use Rattle.bl_file.specs.declared.fault.OpenFault.TheVariants as faults
use Rattle.bl_file.specs.Opening.{file_in, kinds_in}
use Rattle.bl_shelf.specs.Causes.{Rose}

-- the file of these nodes and this catalogue, in some bytes behind this header
abbrev pub file_with : Header → Catalogue → List Head → List ℕ → File
file_with h c nodes b = record { header = h; catalogue = c; nodes = nodes; bytes = b }

-- which nodes are IDs
abbrev pub ids_of : Catalogue → List Head → List Bool
ids_of c nodes = map (λ (x : Head). is_id c x.code x.count x.index) nodes

-- what addresses are compared with in each node; the header and the bytes say nothing of it
abbrev pub marks_of : Header → Catalogue → List Head → List Mark
marks_of h c nodes = marks (file_with h c nodes [])

-- a node stands whole in a file of so many bytes, with numbers that fit, a code that is meant, and no fault
pub record IsNodeIn (h : Header) (c : Catalogue) (size : ℕ) (x : Head) : Type 0 where
  pub behind : header_size h ≤ x.at
  pub fits : x.at + head_size h + x.len ≤ size
  pub len : x.len < 2 ^ 31
  pub index : x.index < 2 ^ 31
  pub count : x.count < 2 ^ 31
  pub address : x.address < 256 ^ pointer_bytes h.width
  pub code_len : length x.code ≡ 4
  pub code : code_meant x.code ≡ x.code
  pub no_end : bytes_eq x.code (codes "ENDB") ≡ false
  pub no_catalogue : is_catalogue x ≡ false
  pub no_fault : node_fault c x ≡ None

-- a node of the kind of a pair has the bytes of the two numbers of one
abbrev pub ArePairsLong : List Head → List RawKind → Type 0
ArePairsLong nodes kinds = (k : ℕ) → get_or kinds k Bytes ≡ Pair → pair_length ≤ (get_or nodes k no_head).len

-- an outline is sound, whatever the bytes are of which it was read
pub record IsSound (o : Outline) : Type 0 where
  pub version : (first_version ≤ o.header.version) × (o.header.version ≤ last_version)
  pub width : o.layout.width ≡ o.header.width
  pub has_layout : HasLayout o.layout.catalogue o.layout.width
  pub short : length (catalogue_written o.header.order o.layout.catalogue) < 2 ^ 31
  pub few : length o.nodes ≤ most_blocks
  pub spaced : 16 * length o.nodes ≤ o.size
  pub size : o.size ≤ most_input_bytes
  pub nodes : All (IsNodeIn o.header o.layout.catalogue o.size) o.nodes
  pub ids : o.ids ≡ ids_of o.layout.catalogue o.nodes
  pub table : o.table ≡ marks_of o.header o.layout.catalogue o.nodes
  pub kinds : length o.kinds ≡ length o.nodes
  pub pairs : ArePairsLong o.nodes o.kinds

-- an outline is that of some bytes: they are bytes and accepted, and it says what they read as
pub record StandsFor (b : List ℕ) (o : Outline) : Type 0 where
  pub bytes : All (λ x. x < 256) b
  pub size : length b ≡ o.size
  pub file : file_in b ≡ file_with o.header o.layout.catalogue o.nodes b
  pub accepted : Accepted b (file_in b)
  pub kinds : o.kinds ≡ kinds_in (file_in b)

-- ---- refusals

-- a fault is the first of the checks, unless memory or a device gave it
abbrev pub IsFirst : Option OpenFault → OpenFault → Type 0
IsFirst first faults.NoMemory = Unit {0}
IsFirst first faults.Device = Unit {0}
IsFirst first fault = first ≡ Some fault

-- the count that a fault blames has risen
abbrev pub BlamesRisen : OpenFault → ℕ → ℕ → ℕ → ℕ → Type 0
BlamesRisen faults.Absent faults faults' misses misses' = Rose misses misses'
BlamesRisen faults.Device faults faults' misses misses' = Rose faults faults'
BlamesRisen _ faults faults' misses misses' = Unit {0}
