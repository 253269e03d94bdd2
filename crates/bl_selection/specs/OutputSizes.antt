-- How many nodes and bytes an output has, by its draft alone, and the first limit that these pass. This
-- project's own.
use Rattle.std.specs.Prelude.{ℕ, ◌+◌, nat_lt, if◌then◌else◌, List, length, map, sum, Option, Some, None, option_map}
use Rattle.std.specs.List.{find, zip}
use Rattle.std.specs.Option.{option_or}
use Rattle.bl_format.specs.declared.file.Header.{Header}
use Rattle.bl_format.specs.declared.catalogue.Catalogue.{Catalogue}
use Rattle.bl_format.specs.declared.raw.RawKind.{RawKind}
use Rattle.bl_format.specs.Limits.{most_output_nodes, longest_payload, longest_output}
use Rattle.bl_format.specs.Blocks.{header_size, head_size}
use Rattle.bl_format.specs.Schema.{catalogue_written}
use Rattle.bl_format.specs.Layout.{struct_length}
use Rattle.bl_format.specs.Nodes.{File}
use Rattle.bl_selection.specs.declared.draft.Draft.{Draft}
use Rattle.bl_selection.specs.declared.draft.Entry.{Entry}
use Rattle.bl_selection.specs.declared.draft.Entry.TheVariants as entries
use Rattle.bl_selection.specs.Selection.{file_at, node_at}
use Rattle.bl_selection.specs.EntryKinds.{draft_kinds}
use Rattle.bl_selection.specs.Carried.{carried_length}

-- the bytes of an entry's payload in the output, by its kind
abbrev pub entry_length : List File → Draft → RawKind → Entry → ℕ
entry_length files d kind (entries.Source i n) =
    carried_length (file_at files i) d.header d.catalogue kind (node_at files i n)
entry_length files d kind (entries.Made m) = struct_length d.catalogue m.s
entry_length files d kind (entries.Raw code bytes) = length bytes

-- the bytes of all payloads, entry by entry
unfoldable pub payload_lengths : List File → Draft → List ℕ
payload_lengths files d =
    map (λ (p : RawKind × Entry). entry_length files d p.0 p.1) (zip (draft_kinds files d) d.entries)

-- the bytes of a whole output, by its payloads: the header, the blocks, that of the catalogue, and a whole
-- last head
unfoldable pub output_length : Header → Catalogue → List ℕ → ℕ
output_length h c payloads =
    header_size h
    + sum (map (λ n. head_size h + n) payloads)
    + (head_size h + length (catalogue_written h.order c))
    + head_size h

-- what there is too much of in an output, and how much of it
pub data OutputFault : Type 0 where
  ManyNodes : (nodes : ℕ) → OutputFault
  LongPayload : (bytes : ℕ) → OutputFault
  LongOutput : (bytes : ℕ) → OutputFault

-- the first limit that an output passes, by how many nodes it has, its payloads and its bytes: on nodes, on
-- payloads in order, on bytes
abbrev pub size_fault : ℕ → List ℕ → ℕ → Option OutputFault
size_fault nodes payloads bytes =
    let too_long = find (λ n. nat_lt longest_payload n) payloads in
    option_or (if nat_lt most_output_nodes nodes then Some (ManyNodes nodes) else None)
    (option_or (option_map LongPayload too_long)
    (if nat_lt longest_output bytes then Some (LongOutput bytes) else None))

-- the first limit that the output of a draft passes
unfoldable pub output_fault : List File → Draft → Option OutputFault
output_fault files d =
    let payloads = payload_lengths files d in
    size_fault (length d.entries) payloads (output_length d.header d.catalogue payloads)
