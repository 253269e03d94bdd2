-- Accepted files and their nodes: groups, IDs, what an address names, and what a raw block holds. Blocks,
-- groups and IDs are Blender's (`readfile`, `writefile`, the struct `ID`). This project's own: which checks
-- accept a file, that index 0 alone marks raw data, in which scope an address is looked up, and the kinds
-- of raw blocks.
use Rattle.std.specs.Prelude.{◌≡◌, ◌≤◌, ℕ, zero, suc, ◌+◌, ◌*◌, Bool, true, false, not, ◌&&◌, ◌||◌, ◌==◌, nat_le, nat_lt, if◌then◌else◌, List, [], ◌∷◌, length, take, map, filter, count_by, Option, Some, None, Ok, Err, codes}
use Rattle.std.specs.List.{list_all, enumerate_from}
use Rattle.std.specs.Option.{option_or}
use Rattle.std.specs.Str.{bytes_eq}
use Rattle.bl_format.specs.declared.file.Header.{Header}
use Rattle.bl_format.specs.declared.file.Head.{Head}
use Rattle.bl_format.specs.declared.file.HeadFault.{HeadFault}
use Rattle.bl_format.specs.declared.file.BlockFault.{BlockFault}
use Rattle.bl_format.specs.declared.catalogue.Catalogue.{Catalogue}
use Rattle.bl_format.specs.declared.catalogue.SdnaFault.{SdnaFault}
use Rattle.bl_format.specs.declared.layout.LayoutFault.{LayoutFault}
use Rattle.bl_format.specs.declared.raw.RawKind.{RawKind}
use Rattle.bl_format.specs.declared.raw.RawKind.TheVariants.{Bytes, Numbers, Pointers, Pair}
use Rattle.bl_format.specs.declared.raw.View.{View}
use Rattle.bl_format.specs.Words.{find_map, part, last_place, contains}
use Rattle.bl_format.specs.Limits.{most_blocks}
use Rattle.bl_format.specs.Blocks.{header_of, Reads, HasBlockFault, head_size, is_two_letter}
use Rattle.bl_format.specs.Schema.{catalogue_of}
use Rattle.bl_format.specs.Layout.{Basic, IsWhole, IsFloat, IsVoid, basic_named, type_entry, member_count, struct_name, struct_length, name_of, inner_struct, layout_fault}

-- ---- files

-- an accepted file: its header, its catalogue, its nodes, which are all blocks but the catalogue's, and its
-- bytes
pub record File : Type 0 where
  pub header : Header
  pub catalogue : Catalogue
  pub nodes : List Head
  pub bytes : List ℕ

-- the payload of a block: the bytes behind its head
abbrev pub payload : Header → List ℕ → Head → List ℕ
payload h bytes x = part bytes (x.at + head_size h) x.len

-- the block holds a catalogue
abbrev pub is_catalogue : Head → Bool
is_catalogue x = bytes_eq x.code (codes "DNA1")

-- the blocks that hold a catalogue
abbrev pub catalogues_in : List Head → List Head
catalogues_in blocks = filter is_catalogue blocks

-- the nodes: all other blocks
abbrev pub nodes_in : List Head → List Head
nodes_in blocks = filter (λ x. not (is_catalogue x)) blocks

-- what is wrong with a node, with the place of its head: no struct has its number, or its payload is too
-- short
pub data NodeFault : Type 0 where
  BadStruct : (at : ℕ) → NodeFault
  ShortBlock : (at : ℕ) → NodeFault

-- the first check that a node fails; raw data, which has index 0, fails none
abbrev pub node_fault : Catalogue → Head → Option NodeFault
node_fault c x =
    if x.index == 0 then None else
    if nat_le (length c.structs) x.index then Some (BadStruct x.at) else
    if nat_lt x.len (x.count * struct_length c x.index) then Some (ShortBlock x.at) else
    None

-- the bytes read as a header and blocks of which one holds a catalogue, and as that catalogue
pub record ReadsCatalogue (b : List ℕ) (h : Header) (blocks : List Head) (c : Catalogue) : Type 0 where
  pub reads : Reads b h blocks
  pub place : Head
  pub one_catalogue : catalogues_in blocks ≡ place ∷ []
  pub catalogue : catalogue_of h.order (payload h b place) ≡ Ok c

-- the bytes are accepted as this file: they read, and neither its layout nor a node has a fault
pub record Accepted (b : List ℕ) (f : File) : Type 0 where
  pub blocks : List Head
  pub reads : ReadsCatalogue b f.header blocks f.catalogue
  pub no_layout_fault : layout_fault f.catalogue f.header.width ≡ None
  pub nodes : f.nodes ≡ nodes_in blocks
  pub no_node_fault : find_map (node_fault f.catalogue) f.nodes ≡ None
  pub bytes : f.bytes ≡ b

-- why bytes aren't accepted, in the order of the checks
pub data OpeningFault : Type 0 where
  InHeader : (fault : HeadFault) → OpeningFault
  InBlocks : (fault : BlockFault) → OpeningFault
  NoCatalogue : OpeningFault
  TwoCatalogues : (at : ℕ) → OpeningFault
  InCatalogue : (fault : SdnaFault) → OpeningFault
  InLayout : (fault : LayoutFault) → OpeningFault
  InNode : (fault : NodeFault) → OpeningFault

-- the second of some heads stands at this place
abbrev pub IsSecondAt : List Head → ℕ → Type 0
IsSecondAt (x ∷ y ∷ ys) at = y.at ≡ at
IsSecondAt _ at = ⊥

-- the bytes read as a header and no more blocks than the limit, for which a fact holds
pub record ReadsAs (b : List ℕ) (Fact : Header → List Head → Type 0) : Type 0 where
  pub header : Header
  pub blocks : List Head
  pub reads : Reads b header blocks
  pub few : length blocks ≤ most_blocks
  pub fact : Fact header blocks

-- the bytes read as a header, no more blocks than the limit, and a catalogue, for which a fact holds
pub record ReadsCatalogueAs (b : List ℕ) (Fact : Header → List Head → Catalogue → Type 0) : Type 0 where
  pub header : Header
  pub blocks : List Head
  pub catalogue : Catalogue
  pub reads : ReadsCatalogue b header blocks catalogue
  pub few : length blocks ≤ most_blocks
  pub fact : Fact header blocks catalogue

-- one block holds a catalogue, and it has this fault
abbrev pub HasCatalogueFault : List ℕ → SdnaFault → Header → List Head → Type 0
HasCatalogueFault b fault h blocks =
    (place : Head) × (catalogues_in blocks ≡ place ∷ [])
    × (catalogue_of h.order (payload h b place) ≡ Err fault)

-- the layout has no fault, and a node has this one first
abbrev pub HasNodeFault : NodeFault → Header → List Head → Catalogue → Type 0
HasNodeFault fault h blocks c =
    (layout_fault c h.width ≡ None) × (find_map (node_fault c) (nodes_in blocks) ≡ Some fault)

-- the first check that the bytes fail; that there are too many blocks is a fault of the blocks
abbrev pub IsRefused : List ℕ → OpeningFault → Type 0
IsRefused b (InHeader fault) = header_of b ≡ Err fault
IsRefused b (InBlocks fault) = (h : Header) × HasBlockFault b h fault
IsRefused b NoCatalogue = ReadsAs b (λ h blocks. catalogues_in blocks ≡ [])
IsRefused b (TwoCatalogues at) = ReadsAs b (λ h blocks. IsSecondAt (catalogues_in blocks) at)
IsRefused b (InCatalogue fault) = ReadsAs b (HasCatalogueFault b fault)
IsRefused b (InLayout fault) = ReadsCatalogueAs b (λ h blocks c. layout_fault c h.width ≡ Some fault)
IsRefused b (InNode fault) = ReadsCatalogueAs b (HasNodeFault fault)

-- ---- groups and IDs

-- a code that begins no group
abbrev pub is_data : List ℕ → Bool
is_data code = bytes_eq code (codes "DATA")

-- the number of node k's group, by the codes of all nodes: how many nodes up to it head a group. Group 0
-- has no head
abbrev pub group_of : List (List ℕ) → ℕ → ℕ
group_of codes k = count_by (λ code. not (is_data code)) (take (suc k) codes)

-- member k of struct s is `id`, by value, one struct `ID`
abbrev pub is_id_member : Catalogue → ℕ → ℕ → Bool
is_id_member c s k =
    let name = name_of c s k in
    bytes_eq name.identifier (codes "id") && name.count == 1 && is_struct_id (inner_struct c s k)
  where
    is_struct_id : Option ℕ → Bool
    is_struct_id None = false
    is_struct_id (Some t) = bytes_eq (struct_name c t) (codes "ID")

-- struct s has the part of an ID: it is `ID`, or its first member is `id`
unfoldable pub has_id_part : Catalogue → ℕ → Bool
has_id_part c s = bytes_eq (struct_name c s) (codes "ID") || (nat_lt 0 (member_count c s) && is_id_member c s 0)

-- a node is an ID, by its code, its count and its struct: a code of two letters, one element, an ID part
unfoldable pub is_id : Catalogue → List ℕ → ℕ → ℕ → Bool
is_id c code count index = is_two_letter code && count == 1 && not (index == 0) && has_id_part c index

-- ---- targets

-- what an address is compared with in a node
pub record Mark : Type 0 where
  pub group : ℕ
  pub address : ℕ
  pub is_an_id : Bool

-- the mark of node k, which has head x
abbrev pub mark : File → ℕ → Head → Mark
mark f k x = record {
  group = group_of (map (λ (y : Head). y.code) f.nodes) k;
  address = x.address;
  is_an_id = is_id f.catalogue x.code x.count x.index;
}

-- the marks of all nodes
unfoldable pub marks : File → List Mark
marks f = map (λ p. mark f p.0 p.1) (enumerate_from 0 f.nodes)

-- the node that an address names in a group, or null: 0 is null, else it is the last node of the group with
-- that address, else the last ID of the file with it
unfoldable pub target_of : List Mark → ℕ → ℕ → Option ℕ
target_of nodes group address =
    let in_group = last_place (λ n. n.group == group && n.address == address) nodes in
    let id = last_place (λ n. n.is_an_id && n.address == address) nodes in
    if address == 0 then None else option_or in_group id

-- ---- kinds of raw nodes

-- two kinds are the same
abbrev pub kind_eq : RawKind → RawKind → Bool
kind_eq Bytes Bytes = true
kind_eq (Numbers m) (Numbers n) = m == n
kind_eq Pointers Pointers = true
kind_eq Pair Pair = true
kind_eq _ _ = false

-- the bytes of what a pointer to type t points to: those in the list of basic types, and where that has two
-- lengths, the catalogue's if it is one of them; none for a type that isn't basic
abbrev pub pointed_length : Catalogue → ℕ → Option Basic → Option ℕ
pointed_length c t None = None
pointed_length c t (Some (IsWhole signed (n ∷ []))) = Some n
pointed_length c t (Some (IsWhole signed ns)) =
    let n = (type_entry c t).length in
    if contains ns n then Some n else None
pointed_length c t (Some (IsFloat n)) = Some n
pointed_length c t (Some IsVoid) = Some 0

-- what a pointer of one star says, by the bytes of the basic type behind it; a pointer to `void` says
-- nothing
abbrev pub view_of_basic : Option ℕ → Option RawKind
view_of_basic None = Some Bytes
view_of_basic (Some zero) = None
view_of_basic (Some (suc zero)) = Some Bytes
view_of_basic (Some (suc (suc n))) = Some (Numbers (suc (suc n)))

-- what a pointer says of the raw node that it names, by its stars and the bytes of the basic type behind
-- them
unfoldable pub view_of : ℕ → Option ℕ → Option RawKind
view_of (suc zero) basic = view_of_basic basic
view_of (suc (suc zero)) basic = Some Pointers
view_of _ basic = Some Bytes

-- the same by the number of the type
abbrev pub view_of_type : Catalogue → ℕ → ℕ → Option RawKind
view_of_type c depth t = view_of depth (pointed_length c t (basic_named (type_entry c t).name))

-- the one kind that all views agree on, and else bytes
abbrev pub common_kind : List RawKind → RawKind
common_kind [] = Bytes
common_kind (k ∷ ks) = if list_all (kind_eq k) ks then k else Bytes

-- the codes of raw blocks that hold two numbers and bytes
abbrev pub is_pair_code : List ℕ → Bool
is_pair_code code = bytes_eq code (codes "REND") || bytes_eq code (codes "TEST")

-- the kind that the views of node n give
abbrev pub viewed_kind : List View → ℕ → RawKind
viewed_kind views n = common_kind (map (λ (v : View). v.kind) (filter (λ v. v.node == n) views))

-- the bytes of the two numbers of a pair
abbrev pub pair_length : ℕ
pair_length = 8

-- the kind of raw node n, of a code and a length, by the views of all nodes
unfoldable pub raw_kind : List View → List ℕ → ℕ → ℕ → RawKind
raw_kind views code len n =
    if is_pair_code code then (if nat_le pair_length len then Pair else Bytes) else viewed_kind views n
