-- A node that is written reads as itself: as a block with its code, its struct and the number of its elements, and as
-- a node with the same fields or contents, where these fit the struct or the kind, and the scope.
use Rattle.std.proofs.Common.{◌≡◌, ◌≢◌, ℕ, suc, ◌+◌, ◌-◌, ◌≤◌, ◌<◌, Bool, true, false, cond, All, List, [], ◌∷◌, ◌++◌, length, get_or, drop, Option, Some, None, refl, ap, ◌∙◌, arith, eqb-true}
use Rattle.std.specs.Prelude.{◌==◌, map, flat_map, unwrap_or}
use Rattle.std.specs.List.{position_from}
use Rattle.std.specs.Str.{bytes_eq}
use Rattle.std.proofs.lemmas.Bool.{false_from_ne_true}
use Rattle.std.proofs.lemmas.Slice.Eq.{bytes_eq-Decides}
use Rattle.bl_format.specs.declared.file.Header.{Header}
use Rattle.bl_format.specs.declared.file.Head.{Head}
use Rattle.bl_format.specs.declared.catalogue.Catalogue.{Catalogue}
use Rattle.bl_format.specs.declared.catalogue.StructEntry.{StructEntry}
use Rattle.bl_format.specs.declared.raw.RawKind.{RawKind}
use Rattle.bl_format.specs.declared.raw.View.{View}
use Rattle.bl_format.specs.Blocks.{IsSpelling}
use Rattle.bl_format.specs.Layout.{type_entry, struct_name, struct_length, struct_named, struct_number, first_fault}
use Rattle.bl_format.specs.Nodes.{File, payload, group_of, raw_kind}
use Rattle.bl_format.specs.Graph.{Naming, Target, Fields, Struct, Raw, Contents, contents_by, form_of, elements, fields, struct_cells, file_codes, file_names, node_cells, node_of}
use Rattle.bl_selection.specs.Written.{address_of, contents_written, node_written}
use Rattle.bl_selection.specs.Fits.{ContentsFit}
use Rattle.bl_selection.proofs.ContentsBack.{contents_back}
use Rattle.bl_selection.proofs.ElementsBack.{FitsStruct, struct_written, payload_back}
use Rattle.bl_selection.proofs.BlocksBack.{block_head, HeadCanStand, spells_block, payload_of_block}

-- the payload of a struct node of a name
abbrev pub struct_payload : Header → Catalogue → List ℕ → List Fields → List ℕ
struct_payload h c name es = flat_map (struct_written h.order c h.width (struct_number c name)) es

-- the head as which node k, of a struct, is read at a place
abbrev pub struct_head : Header → Catalogue → ℕ → List ℕ → List ℕ → List Fields → ℕ → Head
struct_head h c k code name es at =
    block_head code (length (struct_payload h c name es)) (address_of (Some k)) (struct_number c name) (length es) at

-- a struct node that is written spells its head
pub struct_node_spelled : (h : Header) (c : Catalogue) (k : ℕ) (code name : List ℕ) (g : ℕ) (es : List Fields) (at : ℕ)
    → HeadCanStand h (struct_head h c k code name es at)
    → IsSpelling h (struct_head h c k code name es at) (node_written h c k (Struct code name g es))
unfolding node_written
struct_node_spelled h c k code name g es at can =
    spells_block h code (address_of (Some k)) (struct_number c name) (length es) (struct_payload h c name es) at can

-- a node of a struct whose payload is that of some elements has the fields of these
pub node_cells_back : (f : File) (k : ℕ) (x : Head) (es : List Fields)
    → first_fault f.catalogue f.header.width ≡ None → x.count ≡ length es
    → payload f.header f.bytes x ≡ flat_map (struct_written f.header.order f.catalogue f.header.width x.index) es
    → All (FitsStruct (file_names f (group_of (file_codes f) k)) f.catalogue f.header.width x.index) es
    → map fields (node_cells f k x) ≡ es
unfolding node_cells
node_cells_back f k x es e count is fit =
    let names : Naming Target = file_names f (group_of (file_codes f) k) in
    let written : List ℕ = flat_map (struct_written f.header.order f.catalogue f.header.width x.index) es in
    let size : ℕ = struct_length f.catalogue x.index in
    let same : elements (payload f.header f.bytes x) size x.count ≡ elements written size (length es) = λ i. elements (is i) size (count i) in
    ap (λ (bs : List (List ℕ)). map fields (map (struct_cells names f.header.order f.catalogue f.header.width x.index) bs)) same
    ∙ payload_back names f.header.order f.catalogue f.header.width x.index es e fit

-- ---- the struct of a name

-- the element that is found is there, and passes
record IsFound {X : Type 0} (test : X → Bool) (i : ℕ) (xs : List X) (d : X) (t : ℕ) : Type 0 where
  behind : i ≤ t
  within : t < i + length xs
  passes : test (get_or xs (t - i) d) ≡ true

found_at : {X : Type 0} (test : X → Bool) (i : ℕ) (xs : List X) (d : X) (t : ℕ) → position_from test i xs ≡ Some t → IsFound test i xs d t
found_at test i [] d t e = absurd (cc)
found_at {X} test i (x ∷ xs) d t e = go (test x) refl e (found_at test (i + 1) xs d t)
  where
    go : (b : Bool) → test x ≡ b → cond b (Some i) (position_from test (i + 1) xs) ≡ Some t
        → (position_from test (i + 1) xs ≡ Some t → IsFound test (i + 1) xs d t) → IsFound test i (x ∷ xs) d t
    go true is e later =
        let same : i ≡ t = cc in
        let first : t - i ≡ 0 = omega (arith, same) in
        record { behind = omega (arith, same); within = omega (arith, same); passes = rw first is }
    go false is e later =
        let h = later e in
        let next : t - i ≡ suc (t - (i + 1)) = omega (arith, h.behind) in
        record { behind = omega (arith, h.behind); within = omega (arith, h.within); passes = rw next h.passes }

-- a struct of the catalogue has a name
pub record IsStructNamed (c : Catalogue) (name : List ℕ) (s : ℕ) : Type 0 where
  pub name_is : struct_name c s ≡ name
  pub within : s < length c.structs

-- a name that is found is that of the struct found
struct_named-found : (c : Catalogue) (name : List ℕ) (s : ℕ) → struct_named c name ≡ Some s → IsStructNamed c name s
unfolding struct_named
struct_named-found c name s e =
    let none : StructEntry = record { type_number = length c.types; members = [] } in
    let h = found_at (λ (x : StructEntry). bytes_eq (type_entry c x.type_number).name name) 0 c.structs none s e in
    let place : s - 0 ≡ s = omega arith in
    record { name_is = (bytes_eq-Decides (struct_name c s) name).0 (rw place at h.passes); within = omega (arith, h.within) }

-- the struct of a name, where its number isn't 0
pub struct_number-named : (c : Catalogue) (name : List ℕ) → struct_number c name ≢ 0 → IsStructNamed c name (struct_number c name)
struct_number-named c name some = by_found (struct_named c name) refl some
  where
    by_found : (o : Option ℕ) → struct_named c name ≡ o → unwrap_or o 0 ≢ 0 → IsStructNamed c name (unwrap_or o 0)
    by_found None is some = absurd (some refl)
    by_found (Some s) is some = struct_named-found c name s is

-- ---- the node

-- a choice by a number that isn't 0
pub not_zero : {X : Type 0} (n : ℕ) (x y : X) → n ≢ 0 → cond (n == 0) x y ≡ y
not_zero n x y some = rw (false_from_ne_true (n == 0) (λ is. some (eqb-true n 0 is))) refl

-- where a struct node is written in a file, the node there is that node, if its fields fit
pub struct_node_back : (f : File) (views : List View) (k : ℕ) (code name : List ℕ) (g : ℕ) (es : List Fields) (at : ℕ) (rest : List ℕ)
    → first_fault f.catalogue f.header.width ≡ None → struct_number f.catalogue name ≢ 0
    → HeadCanStand f.header (struct_head f.header f.catalogue k code name es at)
    → drop at f.bytes ≡ node_written f.header f.catalogue k (Struct code name g es) ++ rest
    → group_of (file_codes f) k ≡ g
    → All (FitsStruct (file_names f g) f.catalogue f.header.width (struct_number f.catalogue name)) es
    → node_of f views k (struct_head f.header f.catalogue k code name es at) ≡ Struct code name g es
unfolding node_of node_written
struct_node_back f views k code name g es at rest e some can stands group fit =
    let x : Head = struct_head f.header f.catalogue k code name es at in
    let bytes : List ℕ = struct_payload f.header f.catalogue name es in
    let is : payload f.header f.bytes x ≡ bytes = payload_of_block f.header code (address_of (Some k)) (struct_number f.catalogue name) (length es) bytes at can f.bytes rest stands in
    let own : All (FitsStruct (file_names f (group_of (file_codes f) k)) f.catalogue f.header.width (struct_number f.catalogue name)) es = rw group fit in
    let cells : map fields (node_cells f k x) ≡ es = node_cells_back f k x es e refl is own in
    let named : struct_name f.catalogue (struct_number f.catalogue name) ≡ name = (struct_number-named f.catalogue name some).name_is in
    not_zero (struct_number f.catalogue name) _ _ some ∙ λ i. Struct code (named i) (group i) (cells i)

-- ---- raw nodes

-- the head as which node k, of raw data, is read at a place
abbrev pub raw_head : Header → ℕ → List ℕ → ℕ → RawKind → Contents → ℕ → Head
raw_head h k code n kind contents at =
    block_head code (length (contents_written h kind contents)) (address_of (Some k)) 0 n at

-- a raw node that is written spells its head
pub raw_node_spelled : (h : Header) (c : Catalogue) (k : ℕ) (code : List ℕ) (g n : ℕ) (kind : RawKind) (contents : Contents) (at : ℕ)
    → HeadCanStand h (raw_head h k code n kind contents at)
    → IsSpelling h (raw_head h k code n kind contents at) (node_written h c k (Raw code g n kind contents))
unfolding node_written
raw_node_spelled h c k code g n kind contents at can =
    spells_block h code (address_of (Some k)) 0 n (contents_written h kind contents) at can

-- where a raw node is written in a file, the node there is that node, if its contents fit and all pointers give its kind
pub raw_node_back : (f : File) (views : List View) (k : ℕ) (code : List ℕ) (g n : ℕ) (kind : RawKind) (contents : Contents) (at : ℕ) (rest : List ℕ)
    → HeadCanStand f.header (raw_head f.header k code n kind contents at)
    → drop at f.bytes ≡ node_written f.header f.catalogue k (Raw code g n kind contents) ++ rest
    → group_of (file_codes f) k ≡ g
    → raw_kind views code (length (contents_written f.header kind contents)) k ≡ kind
    → ContentsFit (file_names f g) f.header.width kind contents
    → node_of f views k (raw_head f.header k code n kind contents at) ≡ Raw code g n kind contents
unfolding node_of node_written
raw_node_back f views k code g n kind contents at rest can stands group same fit =
    let bytes : List ℕ = contents_written f.header kind contents in
    let is : payload f.header f.bytes (raw_head f.header k code n kind contents at) ≡ bytes = payload_of_block f.header code (address_of (Some k)) 0 n bytes at can f.bytes rest stands in
    let read : contents_by kind (file_names f g) (form_of f.header) bytes ≡ contents = contents_back (file_names f g) f.header kind contents fit in
    (λ i. Raw code (group i) n (same i) (contents_by (same i) (file_names f (group i)) (form_of f.header) (is i))) ∙ ap (Raw code g n kind) read
