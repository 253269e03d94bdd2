-- What some bytes read as, and the checks of a file that is opened, in their order. Where a part isn't read, anything
-- stands in its place.
use Rattle.std.specs.Prelude.{ℕ, ◌+◌, Bool, if◌then◌else◌, nat_lt, List, [], ◌∷◌, length, map, Option, Some, None, option_map, Result}
use Rattle.std.specs.List.{enumerate_from}
use Rattle.std.specs.Option.{option_or}
use Rattle.std.specs.Result.{result_err, result_unwrap_or}
use Rattle.bl_num.specs.declared.number.Order.TheVariants.{Little}
use Rattle.bl_num.specs.declared.number.Width.TheVariants.{Eight}
use Rattle.bl_format.specs.declared.file.Header.{Header}
use Rattle.bl_format.specs.declared.file.Head.{Head}
use Rattle.bl_format.specs.declared.catalogue.Catalogue.{Catalogue}
use Rattle.bl_format.specs.declared.catalogue.SdnaFault.{SdnaFault}
use Rattle.bl_format.specs.declared.layout.LayoutFault.{LayoutFault}
use Rattle.bl_format.specs.declared.layout.LayoutFault.TheVariants.{BadName, BasicLength, Overrun, Cyclic, DuplicateMember}
use Rattle.bl_format.specs.declared.raw.RawKind.{RawKind}
use Rattle.bl_format.specs.Words.{find_map}
use Rattle.bl_format.specs.Limits.{most_input_bytes}
use Rattle.bl_format.specs.Blocks.{header_of, blocks_of}
use Rattle.bl_format.specs.Schema.{catalogue_of}
use Rattle.bl_format.specs.Layout.{struct_name, member_entry, name_entry, layout_fault}
use Rattle.bl_format.specs.Nodes.{File, NodeFault, payload, catalogues_in, nodes_in, node_fault, BadStruct as NoStruct, ShortBlock as TooShort}
use Rattle.bl_format.specs.Graph.{file_views}
use Rattle.bl_file.specs.Seen.{kind_seen}
use Rattle.bl_file.specs.declared.fault.OpenFault.{OpenFault}
use Rattle.bl_file.specs.declared.fault.OpenFault.TheVariants.{Absent, TooLarge, Head as InHead, Block as InBlock, NoCatalogue, TwoCatalogues, Sdna, Layout as InLayout, BadStruct, ShortBlock}

-- ---- what is read

-- any header
abbrev pub no_header : Header
no_header = record { width = Eight; order = Little; version = 250 }

-- a catalogue of nothing
abbrev pub no_catalogue : Catalogue
no_catalogue = record { names = []; types = []; structs = [] }

-- the header of some bytes
abbrev pub header_in : List ℕ → Header
header_in b = result_unwrap_or (header_of b) no_header

-- the blocks behind it
abbrev pub blocks_in : List ℕ → List Head
blocks_in b = result_unwrap_or (blocks_of (header_in b) b) []

-- the payload of the first of some blocks
abbrev pub first_payload : Header → List ℕ → List Head → List ℕ
first_payload h b [] = []
first_payload h b (x ∷ xs) = payload h b x

-- the payload of the first catalogue
abbrev pub catalogue_payload : List ℕ → List ℕ
catalogue_payload b = first_payload (header_in b) b (catalogues_in (blocks_in b))

-- the catalogue, or why it has none
abbrev pub catalogue_read : List ℕ → Result Catalogue SdnaFault
catalogue_read b = catalogue_of (header_in b).order (catalogue_payload b)

-- the catalogue
abbrev pub catalogue_in : List ℕ → Catalogue
catalogue_in b = result_unwrap_or (catalogue_read b) no_catalogue

-- all of it
abbrev pub file_in : List ℕ → File
file_in b = record { header = header_in b; catalogue = catalogue_in b; nodes = nodes_in (blocks_in b); bytes = b }

-- the kind of a node, by what all pointers say; a struct node counts as bytes
abbrev pub kind_of : File → ℕ → Head → RawKind
kind_of f k x = kind_seen (file_views f) k x

-- the kinds of all nodes
unfoldable pub kinds_in : File → List RawKind
kinds_in f = map (λ p. kind_of f p.0 p.1) (enumerate_from 0 f.nodes)

-- ---- faults

-- what is wrong where another catalogue follows the first
abbrev pub second_fault : List Head → Option OpenFault
second_fault [] = None
second_fault (x ∷ xs) = Some (TwoCatalogues x.at)

-- what is wrong unless a file has exactly one catalogue
abbrev pub catalogue_fault : List Head → Option OpenFault
catalogue_fault [] = Some NoCatalogue
catalogue_fault (x ∷ xs) = second_fault xs

-- the numbers of the struct and the member where a fault of a layout stands; one of the whole layout stands at
-- none
abbrev pub place_of_fault : LayoutFault → Option (ℕ × ℕ)
place_of_fault (BadName s k) = Some (s, k)
place_of_fault (BasicLength s k) = Some (s, k)
place_of_fault (Overrun s k) = Some (s, k)
place_of_fault (Cyclic s k) = Some (s, k)
place_of_fault (DuplicateMember s k) = Some (s, k)
place_of_fault _ = None

-- the name of the struct at a place
abbrev pub owner_at : Catalogue → Option (ℕ × ℕ) → List ℕ
owner_at c None = []
owner_at c (Some place) = struct_name c place.0

-- the whole name of the member at a place
abbrev pub member_at : Catalogue → Option (ℕ × ℕ) → List ℕ
member_at c None = []
member_at c (Some place) = name_entry c (member_entry c place.0 place.1).name_number

-- a fault of a layout with the names of the struct and the member
unfoldable pub named_fault : Catalogue → LayoutFault → OpenFault
named_fault c fault =
    let place = place_of_fault fault in
    InLayout fault (owner_at c place) (member_at c place)

-- a fault of a node
abbrev pub fault_of_node : NodeFault → OpenFault
fault_of_node (NoStruct at) = BadStruct at
fault_of_node (TooShort at) = ShortBlock at

-- ---- the checks

-- the first fault of some checks
abbrev pub first_of : List (Option OpenFault) → Option OpenFault
first_of [] = None
first_of (check ∷ checks) = option_or check (first_of checks)

-- a fault where a test holds
abbrev pub fault_if : Bool → OpenFault → Option OpenFault
fault_if test fault = if test then Some fault else None

-- the checks of bytes: header, blocks, one catalogue, that it reads, its layout, nodes
abbrev pub format_checks : List ℕ → List (Option OpenFault)
format_checks b =
    option_map InHead (result_err (header_of b))
    ∷ option_map InBlock (result_err (blocks_of (header_in b) b))
    ∷ catalogue_fault (catalogues_in (blocks_in b))
    ∷ option_map Sdna (result_err (catalogue_read b))
    ∷ option_map (named_fault (catalogue_in b)) (layout_fault (catalogue_in b) (header_in b).width)
    ∷ option_map fault_of_node (find_map (node_fault (catalogue_in b)) (nodes_in (blocks_in b)))
    ∷ []

-- the first fault of bytes
unfoldable pub format_fault : List ℕ → Option OpenFault
format_fault b = first_of (format_checks b)

-- the first fault of a file, by the bytes that were opened before and its own, if it is held: it isn't, all bytes
-- together are too many, or the bytes have a fault
unfoldable pub open_fault : ℕ → Option (List ℕ) → Option OpenFault
open_fault used None = Some Absent
open_fault used (Some b) =
    let sum = used + length b in
    if nat_lt most_input_bytes sum then Some (TooLarge sum) else format_fault b
