-- The one byte list in which a graph is written under a header and a catalogue. Heads and blocks are those
-- of Blender's `writefile`; the addresses, the zeros outside all leaves and the whole last head are this
-- project's own.
use Rattle.std.specs.Prelude.{ℕ, ◌+◌, ◌-◌, ◌*◌, List, [], ◌∷◌, ◌++◌, length, map, flat_map, zip, Option, Some, None, codes}
use Rattle.bl_num.specs.declared.number.Order.{Order}
use Rattle.bl_num.specs.Numbers.{pointer_bytes, bytes_of, bits_of}
use Rattle.bl_format.specs.declared.file.Header.{Header}
use Rattle.bl_format.specs.declared.catalogue.Catalogue.{Catalogue}
use Rattle.bl_format.specs.declared.raw.RawKind.{RawKind}
use Rattle.bl_format.specs.declared.raw.RawKind.TheVariants as raw
use Rattle.bl_format.specs.Words.{numbers_below, zeros}
use Rattle.bl_format.specs.Blocks.{header_written, head_written, head_size}
use Rattle.bl_format.specs.Schema.{catalogue_written}
use Rattle.bl_format.specs.Layout.{NamedLeaf, named_leaves, struct_length, struct_number}
use Rattle.std.specs.List.{enumerate_from}
use Rattle.bl_format.specs.Graph.{Target, Value, Number, Pattern, Points, Opaque, Path, Fields, Contents, IsBytes, IsNumbers, IsPointers, IsPair, Node, Struct, Raw}

-- how far the addresses of two nodes are apart
abbrev pub address_step : ℕ
address_step = 16

-- the address of a node in the output; the first node has one step, and 0 is null
abbrev pub address_of : Option ℕ → ℕ
address_of None = 0
address_of (Some n) = address_step * (n + 1)

-- a value in so many bytes
abbrev pub value_written : Order → ℕ → Value Target → List ℕ
value_written order n (Number z) = bytes_of order n (bits_of n z)
value_written order n (Pattern bits) = bytes_of order n bits
value_written order n (Points to) = bytes_of order n (address_of to)
value_written order n (Opaque bytes) = bytes

-- where the elements of some leaves stand, with their sizes
abbrev pub places : List NamedLeaf → List (ℕ × ℕ)
places xs = flat_map (λ (x : NamedLeaf). map (λ k. (x.offset + k * x.size, x.size)) (numbers_below x.count)) xs

-- the bytes from a place up to the length: each value at its place, and zeros between
abbrev pub laid_out : Order → ℕ → ℕ → List ((ℕ × ℕ) × (Path × Value Target)) → List ℕ
laid_out order length at [] = zeros (length - at)
laid_out order length at (((place, size), (path, value)) ∷ xs) =
    zeros (place - at) ++ value_written order size value ++ laid_out order length (place + size) xs

-- the bytes of an element of a struct, by its leaves and their values
unfoldable pub element_written : Order → ℕ → List NamedLeaf → Fields → List ℕ
element_written order length xs fs = laid_out order length 0 (zip (places xs) fs)

-- the payload of a raw node of a kind
unfoldable pub contents_written : Header → RawKind → Contents → List ℕ
contents_written h kind (IsBytes bytes) = bytes
contents_written h (raw.Numbers n) (IsNumbers patterns rest) = flat_map (bytes_of h.order n) patterns ++ rest
contents_written h kind (IsNumbers patterns rest) = rest
contents_written h kind (IsPointers to) =
    flat_map (λ o. bytes_of h.order (pointer_bytes h.width) (address_of o)) to
contents_written h kind (IsPair first second rest) =
    bytes_of h.order 4 first ++ bytes_of h.order 4 second ++ rest

-- a block of a code, an address, a struct's number, a count and a payload
abbrev pub block_written : Header → List ℕ → ℕ → ℕ → ℕ → List ℕ → List ℕ
block_written h code address index count payload =
    head_written h (record {
      code = code;
      len = length payload;
      address = address;
      index = index;
      count = count;
      at = 0;
    }) ++ payload

-- node k, numbered from 0, as a block
unfoldable pub node_written : Header → Catalogue → ℕ → Node → List ℕ
node_written h c k (Struct code name g es) =
    let s = struct_number c name in
    let payload = flat_map (element_written h.order (struct_length c s) (named_leaves c h.width s)) es in
    block_written h code (address_of (Some k)) s (length es) payload
node_written h c k (Raw code g n kind contents) =
    block_written h code (address_of (Some k)) 0 n (contents_written h kind contents)

-- the block of a catalogue
abbrev pub catalogue_block : Header → Catalogue → List ℕ
catalogue_block h c = block_written h (codes "DNA1") 0 0 1 (catalogue_written h.order c)

-- the written form of a graph: the header, the nodes, the catalogue, and a whole last head, which is `ENDB`
-- and zeros
unfoldable pub written_form : Header → Catalogue → List Node → List ℕ
written_form h c nodes =
    header_written h
    ++ flat_map (λ p. node_written h c p.0 p.1) (enumerate_from 0 nodes)
    ++ catalogue_block h c
    ++ codes "ENDB" ++ zeros (head_size h - 4)
