-- What is written of a source's nodes under another header and catalogue, and how long it is: elements of structs are
-- carried leaf by leaf to the struct of the same name, and raw contents to the other form. This project's own.
use Rattle.std.specs.Prelude.{ℕ, ◌*◌, ◌==◌, if◌then◌else◌, List, [], ◌++◌, length, get_or, flat_map, Some, None, ⊤}
use Rattle.bl_num.specs.declared.number.Order.{Order}
use Rattle.bl_num.specs.declared.number.Width.{Width}
use Rattle.bl_format.specs.declared.file.Header.{Header}
use Rattle.bl_format.specs.declared.file.Head.{Head}
use Rattle.bl_format.specs.declared.catalogue.Catalogue.{Catalogue}
use Rattle.bl_format.specs.declared.raw.RawKind.{RawKind}
use Rattle.bl_format.specs.declared.raw.RawKind.TheVariants.{Bytes}
use Rattle.bl_format.specs.declared.raw.View.{View}
use Rattle.bl_format.specs.Blocks.{head_written}
use Rattle.bl_format.specs.Layout.{NamedLeaf, named_leaves, struct_length}
use Rattle.bl_format.specs.Nodes.{File, payload}
use Rattle.bl_format.specs.Graph.{Target, Naming, Cell, cells, fields, node_elements, contents_by, views_of, form_of, raw_length}
use Rattle.bl_selection.specs.declared.draft.Draft.{Draft}
use Rattle.bl_selection.specs.declared.draft.Entry.{Entry}
use Rattle.bl_selection.specs.declared.draft.Entry.TheVariants as entries
use Rattle.bl_selection.specs.Fate.{carried_value}
use Rattle.bl_selection.specs.Selection.{file_at, node_at, index_under, entry_at, entry_names}
use Rattle.bl_selection.specs.EntryKinds.{draft_kinds}
use Rattle.bl_selection.specs.Written.{address_of, element_written, contents_written}

-- ---- one element of a struct

-- how an element of a struct stands in bytes: in which order, in how many, and by which leaves
pub record StructForm : Type 0 where
  pub order : Order
  pub size : ℕ
  pub leaves : List NamedLeaf

-- how those of struct s of a catalogue stand
abbrev pub struct_form : Order → Catalogue → Width → ℕ → StructForm
struct_form order c w s = record { order = order; size = struct_length c s; leaves = named_leaves c w s }

-- the cells that some leaves get from an element in a form, by its bytes and what addresses in it name
abbrev pub carried_cells : Naming Target → StructForm → List NamedLeaf → List ℕ → List Cell
carried_cells names from leaves bytes =
    cells (λ j y k. carried_value None names from.order from.leaves bytes y k) leaves

-- an element in a form, written in another
abbrev pub carried_element : Naming Target → StructForm → StructForm → List ℕ → List ℕ
carried_element names from to bytes =
    element_written to.order to.size to.leaves (fields (carried_cells names from to.leaves bytes))

-- ---- one node

-- the elements of a source's struct node, as those of the struct of its name
abbrev pub carried_elements : Naming Target → File → Header → Catalogue → Head → List ℕ
carried_elements names f h c x =
    let from = struct_form f.header.order f.catalogue f.header.width x.index in
    let to = struct_form h.order c h.width (index_under c f.catalogue x.index) in
    flat_map (carried_element names from to) (node_elements f x)

-- what a source's raw node of a kind holds, written under another header
abbrev pub carried_contents : Naming Target → File → Header → RawKind → Head → List ℕ
carried_contents names f h kind x =
    contents_written h kind (contents_by kind names (form_of f.header) (payload f.header f.bytes x))

-- the payload of a source's node, of a kind where it is raw
abbrev pub carried_payload : Naming Target → File → Header → Catalogue → RawKind → Head → List ℕ
carried_payload names f h c kind x =
    if x.index == 0 then carried_contents names f h kind x else carried_elements names f h c x

-- what the pointers of a source's node say, once they are carried; a raw node says nothing
abbrev pub carried_views : Naming Target → File → Header → Catalogue → Head → List View
carried_views names f h c x =
    let from = struct_form f.header.order f.catalogue f.header.width x.index in
    let leaves = named_leaves c h.width (index_under c f.catalogue x.index) in
    if x.index == 0 then [] else flat_map (λ bytes. views_of c (carried_cells names from leaves bytes)) (node_elements f x)

-- how many bytes its payload has
abbrev pub carried_length : File → Header → Catalogue → RawKind → Head → ℕ
carried_length f h c kind x =
    if x.index == 0
    then raw_length kind x.len f.header.width h.width
    else x.count * struct_length c (index_under c f.catalogue x.index)

-- the head of a source's node as entry e, before a payload of so many bytes
abbrev pub carried_head : File → Catalogue → ℕ → Head → ℕ → Head
carried_head f c e x len = record {
  code = x.code;
  len = len;
  address = address_of (Some e);
  index = index_under c f.catalogue x.index;
  count = x.count;
  at = 0;
}

-- the block of a source's node as entry e
abbrev pub carried_block : Naming Target → File → Header → Catalogue → ℕ → RawKind → Head → List ℕ
carried_block names f h c e kind x =
    let bytes = carried_payload names f h c kind x in
    head_written h (carried_head f c e x (length bytes)) ++ bytes

-- ---- one entry

-- an entry is a node of a source
abbrev pub IsSourceNode : Entry → Type 0
IsSourceNode (entries.Source i n) = ⊤
IsSourceNode (entries.Made m) = ⊥
IsSourceNode (entries.Raw code bytes) = ⊥

-- the block of entry e of a kind, where it is a source's node
abbrev pub entry_block : List File → Draft → RawKind → ℕ → Entry → List ℕ
entry_block files d kind e (entries.Source i n) =
    carried_block (entry_names files d e i n) (file_at files i) d.header d.catalogue e kind (node_at files i n)
entry_block files d kind e x = []

-- the same by the kinds of all entries
abbrev pub draft_block : List File → Draft → ℕ → List ℕ
draft_block files d e = entry_block files d (get_or (draft_kinds files d) e Bytes) e (entry_at d e)
