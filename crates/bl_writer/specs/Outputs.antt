-- What is written of a source's nodes under a header and a catalogue, and how long it is.
use Rattle.std.specs.Prelude.{◌≡◌, ◌≢◌, ℕ, ◌<◌, ◌≤◌, ◌^◌, ◌+◌, All, List, [], ◌++◌, length, map, get_or, flat_map}
use Rattle.bl_format.specs.declared.file.Head.{Head}
use Rattle.bl_format.specs.declared.catalogue.Catalogue.{Catalogue}
use Rattle.bl_format.specs.declared.raw.RawKind.{RawKind}
use Rattle.bl_format.specs.declared.raw.RawKind.TheVariants.{Bytes}
use Rattle.bl_format.specs.Limits.{most_output_nodes, most_input_bytes, first_version, last_version}
use Rattle.bl_format.specs.Words.{numbers_below}
use Rattle.bl_format.specs.Blocks.{head_size, header_written}
use Rattle.bl_format.specs.Schema.{catalogue_written}
use Rattle.bl_format.specs.Layout.{HasLayout, struct_numbers}
use Rattle.bl_format.specs.Nodes.{File}
use Rattle.bl_format.specs.Graph.{Target, Naming}
use Rattle.bl_selection.specs.declared.draft.Draft.{Draft}
use Rattle.bl_selection.specs.Selection.{no_head, index_under, selection_graph}
use Rattle.bl_selection.specs.Carried.{StructForm, struct_form, carried_block, carried_length}
use Rattle.bl_selection.specs.Written.{catalogue_block, written_form}
use Rattle.bl_plan.specs.declared.steps.Plan.{Plan}
use Rattle.bl_plan.specs.Plans.{Carries, no_plan}
use Rattle.bl_file.specs.Outlines.{IsNodeIn, ArePairsLong, file_with}
use Rattle.bl_file.specs.Seen.{Namings}
use Rattle.bl_writer.specs.declared.nodes.Node.{Node}
use Rattle.bl_writer.specs.declared.output.Output.{Output}
use Rattle.bl_writer.specs.Rendering.{end_written}

-- ---- the source and the target

-- the source, by its bytes
abbrev pub source_of : Output → List ℕ → File
source_of o b = file_with o.from o.source.now.catalogue [] b

-- the catalogue that is written
abbrev pub target_of : Output → Catalogue
target_of o = o.structs.now.layout.now.catalogue

-- the number of a source's struct in it
abbrev pub number_in : Output → ℕ → ℕ
number_in o s = index_under (target_of o) o.source.now.catalogue s

-- how elements of a source's struct stand in the source
abbrev pub form_in : Output → ℕ → StructForm
form_in o s = struct_form o.from.order o.source.now.catalogue o.from.width s

-- how they are written
abbrev pub form_out : Output → ℕ → StructForm
form_out o s = struct_form o.header.order (target_of o) o.header.width (number_in o s)

-- the plan of a source's struct
abbrev pub plan_of : Output → ℕ → Plan
plan_of o s = get_or o.structs.now.plans.items s no_plan

-- unless a node is raw, the catalogue has its struct, whose plan carries elements over
abbrev pub IsPlanned : Output → Head → Type 0
IsPlanned o x =
    x.index ≢ 0 → (number_in o x.index < length (target_of o).structs) × Carries (form_in o x.index) (form_out o x.index) (plan_of o x.index)

-- an output of a source of so many bytes can be written
pub record IsOutput (o : Output) (size : ℕ) : Type 0 where
  pub version : (first_version ≤ o.header.version) × (o.header.version ≤ last_version)
  pub width : o.structs.now.layout.now.width ≡ o.header.width
  pub has_layout : HasLayout (target_of o) o.header.width
  pub short : length (catalogue_written o.header.order (target_of o)) < 2 ^ 31
  pub source_width : o.source.now.width ≡ o.from.width
  pub source_layout : HasLayout o.source.now.catalogue o.from.width
  pub numbers : o.structs.now.numbers.items ≡ map (number_in o) (struct_numbers o.source.now.catalogue)
  pub plans : length o.structs.now.plans.items ≡ length o.source.now.catalogue.structs
  pub planned : All (IsPlanned o) o.nodes.now
  pub few : length o.nodes.now ≤ most_output_nodes
  pub small : size ≤ most_input_bytes
  pub nodes : All (IsNodeIn o.from o.source.now.catalogue size) o.nodes.now
  pub kinds : length o.kinds.now ≡ length o.nodes.now
  pub pairs : ArePairsLong o.nodes.now o.kinds.now

-- ---- one node

-- the head of node k, as it stands in the source
abbrev pub head_of : Output → ℕ → Head
head_of o k = get_or o.nodes.now k no_head

-- the kind of node k
abbrev pub kind_of : Output → ℕ → RawKind
kind_of o k = get_or o.kinds.now k Bytes

-- both
abbrev pub node_of : Output → ℕ → Node
node_of o k = record { head = head_of o k; kind = kind_of o k }

-- the bytes of node k's payload as it is written
abbrev pub payload_length : Output → ℕ → ℕ
payload_length o k = carried_length (source_of o []) o.header (target_of o) (kind_of o k) (head_of o k)

-- the bytes of node k's block
abbrev pub block_length : Output → ℕ → ℕ
block_length o k = head_size o.header + payload_length o k

-- the block of node k, by the source's bytes, where addresses in it name this
abbrev pub block_bytes : Naming Target → Output → List ℕ → ℕ → List ℕ
block_bytes names o b k =
    carried_block names (source_of o b) o.header (target_of o) k (kind_of o k) (head_of o k)

-- ---- all nodes

-- each payload has fewer bytes than a head can tell
abbrev pub ArePayloadsShort : Output → Type 0
ArePayloadsShort o = (k : ℕ) → k < length o.nodes.now → payload_length o k < 2 ^ 31

-- the bytes of all payloads
abbrev pub payload_lengths : Output → List ℕ
payload_lengths o = map (payload_length o) (numbers_below (length o.nodes.now))

-- all of an output, by the source's bytes, where addresses in each node name this
abbrev pub output_form : Namings → Output → List ℕ → List ℕ
output_form names o b =
    ((header_written o.header ++ flat_map (λ k. block_bytes (names k) o b k) (numbers_below (length o.nodes.now)))
    ++ catalogue_block o.header (target_of o)) ++ end_written o.header

-- the written form of the graph of a draft
abbrev pub selection_form : List File → Draft → List ℕ
selection_form files d = written_form d.header d.catalogue (selection_graph files d)
