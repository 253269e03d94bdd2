-- A node of an accepted file, written in the file's own form, has no more bytes than its payload had, but for a pair,
-- which has 8 at least.
use Rattle.std.proofs.Common.{◌≡◌, ◌≢◌, ℕ, ◌*◌, ◌/◌, ◌<◌, ◌≤◌, Bool, true, false, cond, All, List, [], ◌∷◌, ◌++◌, length, get_or, drop, None, refl, sym, ap, subst, ◌∙◌, arith}
use Rattle.std.specs.Prelude.{◌==◌, map, flat_map, zip}
use Rattle.std.proofs.Math.Nat.{div-mul-le_self}
use Rattle.std.proofs.lemmas.List.{length-append, length-drop, length-map}
use Rattle.std.proofs.lemmas.List.Elements.{All-nil, All-cons, All-append, All-head, All-tail, All-map, All-weaker}
use Rattle.std.proofs.lemmas.Bool.{eqb-false}
use Rattle.bl_num.specs.declared.number.Order.{Order}
use Rattle.bl_num.specs.declared.number.Width.{Width}
use Rattle.bl_num.specs.Numbers.{pointer_bytes, number_of, bytes_of}
use Rattle.bl_num.proofs.BytesOf.{length-bytes_of}
use Rattle.bl_format.specs.declared.file.Header.{Header}
use Rattle.bl_format.specs.declared.file.Head.{Head}
use Rattle.bl_format.specs.declared.catalogue.Catalogue.{Catalogue}
use Rattle.bl_format.specs.declared.layout.Kind.{Kind}
use Rattle.bl_format.specs.declared.layout.Kind.TheVariants as kinds
use Rattle.bl_format.specs.declared.raw.RawKind.{RawKind}
use Rattle.bl_format.specs.declared.raw.RawKind.TheVariants as raw
use Rattle.bl_format.specs.declared.raw.View.{View}
use Rattle.bl_format.specs.Words.{numbers_below}
use Rattle.bl_format.specs.Blocks.{IsCount}
use Rattle.bl_format.specs.Layout.{NamedLeaf, named_leaves, struct_length, struct_name, struct_number, first_fault}
use Rattle.bl_format.specs.Nodes.{File, payload, group_of, raw_kind}
use Rattle.bl_format.specs.Graph.{Target, Value, Naming, Fields, Struct, Raw, Cell, value_by, leaf_value, leaf_bytes, fields, struct_cells, pieces, contents_by, form_of, file_codes, file_names, node_elements, node_cells, node_of}
use Rattle.bl_format.proofs.LeafBytes.{length-leaf_bytes}
use Rattle.bl_format.proofs.NumbersBelow.{length-numbers_below}
use Rattle.bl_selection.specs.Written.{address_of, element_written, contents_written}
use Rattle.bl_selection.specs.Fits.{FillsPlace, Slot, slots}
use Rattle.bl_selection.specs.GraphFits.{node_payload, elements_written}
use Rattle.bl_selection.proofs.WrittenBytes.{Fills, length-struct_written}
use Rattle.bl_selection.proofs.FieldsBack.{field_of, struct_fields-slots}
use Rattle.bl_selection.proofs.ElementsBack.{length-flat_map_even}
use Rattle.bl_selection.proofs.CellsFit.{numbers_below-lt}
use Rattle.bl_selection.proofs.SourcesFit.{HoldsElements, IsElement, node_elements-are}
use Rattle.bl_selection.proofs.RebuiltStands.{NodeStands, payload_len, holds_elements}

-- ---- elements of a struct

-- what is read of so many bytes is written in as many
pub value_fills : (kind : Kind) (size : ℕ) (names : Naming Target) (order : Order) (bytes : List ℕ) → length bytes ≡ size → FillsPlace size (value_by kind names order bytes)
value_fills (kinds.Whole whole) size names order bytes long = tt
value_fills (kinds.Bits n) size names order bytes long = tt
value_fills (kinds.Pointer depth t) size names order bytes long = tt
value_fills kinds.Opaque size names order bytes long = long

-- what holds of each element of each leaf holds of all leaf elements
pub all_elements : (P : Slot → Type 0) (xs : List NamedLeaf) → All (λ x. (k : ℕ) → k < x.count → P (x, k)) xs → All P (slots xs)
all_elements P [] all = All-nil P
all_elements P (x ∷ xs) all =
    All-append P (map (λ k. (x, k)) (numbers_below x.count)) (slots xs)
    (All-map P (λ (k : ℕ). (x, k)) (numbers_below x.count)
    (All-weaker (λ k. k < x.count) (λ k. P (x, k)) (All-head (λ x. (k : ℕ) → k < x.count → P (x, k)) x xs all) (numbers_below x.count) (numbers_below-lt x.count)))
    (all_elements P xs (All-tail (λ x. (k : ℕ) → k < x.count → P (x, k)) x xs all))

-- values that fill their places, leaf element by leaf element, fill them all
pub fields_fill : (value : NamedLeaf → ℕ → Value Target) (es : List Slot) → All (λ e. FillsPlace e.0.size (value e.0 e.1)) es → All Fills (zip es (map (field_of value) es))
fields_fill value [] all = All-nil Fills
fields_fill value (e ∷ es) all =
    All-cons Fills (e, field_of value e) (zip es (map (field_of value) es))
    (All-head (λ e. FillsPlace e.0.size (value e.0 e.1)) e es all)
    (fields_fill value es (All-tail (λ e. FillsPlace e.0.size (value e.0 e.1)) e es all))

module _ (names : Naming Target) (order : Order) (c : Catalogue) (w : Width) (s : ℕ) (no_fault : first_fault c w ≡ None) where
  -- what is read of an element of a struct is written in as many bytes
  pub element_long : (bytes : List ℕ) → length bytes ≡ struct_length c s
      → length (element_written order (struct_length c s) (named_leaves c w s) (fields (struct_cells names order c w s bytes))) ≡ struct_length c s
  unfolding leaf_value
  element_long bytes long =
      let xs : List NamedLeaf = named_leaves c w s in
      let value : NamedLeaf → ℕ → Value Target = λ x k. leaf_value names order bytes x k in
      let fill : All (λ (e : Slot). FillsPlace e.0.size (value e.0 e.1)) (slots xs) = all_elements (λ (e : Slot). FillsPlace e.0.size (value e.0 e.1)) xs
      (λ i d lt k below.
      let x : NamedLeaf = get_or xs i d in
      value_fills x.kind x.size names order (leaf_bytes x bytes k) (length-leaf_bytes c w s bytes no_fault long i d lt k below)) in
      length-struct_written order c w s (fields (struct_cells names order c w s bytes)) no_fault
      (subst (λ (fs : Fields). All Fills (zip (slots xs) fs)) (sym (struct_fields-slots names order c w s bytes)) (fields_fill value (slots xs) fill))

  -- and so are all elements of a node
  elements_long : (bs : List (List ℕ)) → All (IsElement (struct_length c s)) bs
      → length (flat_map (element_written order (struct_length c s) (named_leaves c w s)) (map fields (map (struct_cells names order c w s) bs))) ≡ length bs * struct_length c s
  elements_long bs all =
      let es : List Fields = map fields (map (struct_cells names order c w s) bs) in
      let many : length es ≡ length bs = length-map (map (struct_cells names order c w s) bs) fields ∙ length-map bs _ in
      let written : Fields → List ℕ = element_written order (struct_length c s) (named_leaves c w s) in
      length-flat_map_even written (struct_length c s) es
      (All-map (λ (fs : Fields). length (written fs) ≡ struct_length c s) fields (map (struct_cells names order c w s) bs)
      (All-map (λ (cs : List Cell). length (written (fields cs)) ≡ struct_length c s) (struct_cells names order c w s) bs (λ i d lt. element_long (get_or bs i d) (all i d lt).long)))
      ∙ ap (λ (n : ℕ). n * struct_length c s) many

-- ---- raw contents

-- numbers of m bytes, as many as some bytes have pieces of n bytes
pub numbers_long : {X : Type 0} (order : Order) (n m : ℕ) (number : X → ℕ) (from : List ℕ → X) (bytes : List ℕ)
    → length (flat_map (λ x. bytes_of order m (number x)) (map from (pieces n bytes))) ≡ length bytes / n * m
numbers_long {X} order n m number from bytes =
    let xs : List X = map from (pieces n bytes) in
    let many : length xs ≡ length bytes / n = length-map (pieces n bytes) from ∙ length-map (numbers_below (length bytes / n)) _ ∙ length-numbers_below (length bytes / n) in
    length-flat_map_even (λ (x : X). bytes_of order m (number x)) m xs (λ i d lt. length-bytes_of order m _) ∙ ap (λ (k : ℕ). k * m) many

-- what bytes hold as a kind is written in no more bytes than they are, or in 8
contents_short : (h : Header) (kind : RawKind) (names : Naming Target) (bytes : List ℕ) → IsCount (length bytes)
    → IsCount (length (contents_written h kind (contents_by kind names (form_of h) bytes)))
unfolding contents_written contents_by
contents_short h raw.Bytes names bytes short = short
contents_short h (raw.Numbers n) names bytes short =
    let patterns : List ℕ = map (number_of h.order n) (pieces n bytes) in
    let rest : List ℕ = drop (length bytes / n * n) bytes in
    omega (arith, short, div-mul-le_self (length bytes) n, numbers_long h.order n n (λ p. p) (number_of h.order n) bytes, length-append (flat_map (bytes_of h.order n) patterns) rest, length-drop (length bytes / n * n) bytes)
contents_short h raw.Pointers names bytes short =
    let w : ℕ = pointer_bytes h.width in
    omega (arith, short, div-mul-le_self (length bytes) w, numbers_long h.order w w address_of (λ p. names (number_of h.order w p)) bytes)
contents_short h raw.Pair names bytes short =
    let first : ℕ = number_of h.order 4 bytes in
    let second : ℕ = number_of h.order 4 (drop 4 bytes) in
    omega (arith, short, length-append (bytes_of h.order 4 first ++ bytes_of h.order 4 second) (drop 8 bytes), length-append (bytes_of h.order 4 first) (bytes_of h.order 4 second), length-bytes_of h.order 4 first, length-bytes_of h.order 4 second, length-drop 8 bytes)

-- ---- the law

-- a node that stands is written in a payload that is short enough, in the file's own form
pub node_short : (f : File) (views : List View) (k : ℕ) (x : Head) → first_fault f.catalogue f.header.width ≡ None → All (λ b. b < 256) f.bytes
    → NodeStands f x → (x.index ≢ 0 → struct_number f.catalogue (struct_name f.catalogue x.index) ≡ x.index)
    → IsCount (length (node_payload f.header f.catalogue (node_of f views k x)))
unfolding node_of node_cells
node_short f views k x no_fault bytes stands named = by_index (x.index == 0) refl
  where
    c : Catalogue
    c = f.catalogue

    h : Header
    h = f.header

    g : ℕ
    g = group_of (file_codes f) k

    kind : RawKind
    kind = raw_kind views x.code x.len k

    es : List Fields
    es = map fields (map (struct_cells (file_names f g) h.order c h.width x.index) (node_elements f x))

    len : length (payload h f.bytes x) ≡ x.len
    len = payload_len f x stands

    struct_short : x.index ≢ 0 → IsCount (length (elements_written h c (struct_number c (struct_name c x.index)) es))
    struct_short some =
        let holds : HoldsElements f x = holds_elements f x stands some in
        let long = elements_long (file_names f g) h.order c h.width x.index no_fault (node_elements f x) (node_elements-are f x bytes holds) in
        let many : length (node_elements f x) ≡ x.count = length-map (numbers_below x.count) _ ∙ length-numbers_below x.count in
        let enough : length (node_elements f x) * struct_length c x.index ≤ length (payload h f.bytes x) = subst (λ (n : ℕ). n * struct_length c x.index ≤ length (payload h f.bytes x)) (sym many) holds in
        let short = stands.block.len in
        subst (λ (s : ℕ). IsCount (length (elements_written h c s es))) (sym (named some)) (omega (arith, long, enough, len, short))

    by_index : (b : Bool) → (x.index == 0) ≡ b
        → IsCount (length (node_payload h c (cond b (Raw x.code g x.count kind (contents_by kind (file_names f g) (form_of h) (payload h f.bytes x))) (Struct x.code (struct_name c x.index) g es))))
    by_index true is = let short = stands.block.len in contents_short h kind (file_names f g) (payload h f.bytes x) (omega (arith, len, short))
    by_index false is = struct_short (eqb-false x.index 0 is)
