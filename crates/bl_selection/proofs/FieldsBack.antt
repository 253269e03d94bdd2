-- An element of a struct reads as the fields that were written: those of each leaf element in order, where they fit
-- it.
use Rattle.std.proofs.Common.{◌≡◌, ℕ, ◌+◌, All, List, [], ◌∷◌, get_or, None, refl, sym, ap, ◌∙◌}
use Rattle.std.specs.Prelude.{map, flat_map, zip}
use Rattle.std.specs.List.{enumerate_from}
use Rattle.std.proofs.lemmas.List.{map-append}
use Rattle.std.proofs.lemmas.List.Elements.{All-nil, All-cons, All-head, All-tail, All-append, All-map}
use Rattle.bl_num.specs.declared.number.Order.{Order}
use Rattle.bl_num.specs.declared.number.Width.{Width}
use Rattle.bl_format.specs.declared.catalogue.Catalogue.{Catalogue}
use Rattle.bl_format.specs.Words.{numbers_below}
use Rattle.bl_format.specs.Layout.{NamedLeaf, named_leaves, struct_length, first_fault}
use Rattle.bl_format.specs.Graph.{Target, Value, Naming, Path, Fields, path_of, value_by, leaf_value, Cell, cells, fields, struct_cells}
use Rattle.bl_format.proofs.LeafKinds.{FitsKind, named_leaves-fit}
use Rattle.bl_selection.specs.Written.{element_written}
use Rattle.bl_selection.specs.Fits.{Slot, slots, ValueFits, FieldsFit}
use Rattle.bl_selection.proofs.WrittenBytes.{Pair, Fills, StandsIn, struct_written-stands}
use Rattle.bl_selection.proofs.ValuesBack.{fits-fills, value_by-value_written}

-- ---- cells and fields by leaf elements

-- the cell of a leaf element, by a function from leaf and element to its value
abbrev pub cell_of : (NamedLeaf → ℕ → Value Target) → Slot → Cell
cell_of value e = record { leaf = e.0; at = e.1; value = value e.0 e.1 }

-- and its field
abbrev pub field_of : (NamedLeaf → ℕ → Value Target) → Slot → Path × Value Target
field_of value e = (path_of e.0.way e.1, value e.0 e.1)

cells_from-slots : (value : NamedLeaf → ℕ → Value Target) (i : ℕ) (xs : List NamedLeaf)
    → flat_map (λ (p : ℕ × NamedLeaf). map (λ k. record { leaf = p.1; at = k; value = value p.1 k }) (numbers_below p.1.count)) (enumerate_from i xs)
    ≡ map (cell_of value) (slots xs)
cells_from-slots value i [] = refl
cells_from-slots value i (x ∷ xs) =
    rw (map-append (cell_of value) (map (λ k. (x, k)) (numbers_below x.count)) (slots xs), cells_from-slots value (i + 1) xs, each (numbers_below x.count)) refl
  where
    each : (ks : List ℕ) → map (λ k. record { leaf = x; at = k; value = value x k }) ks ≡ map (cell_of value) (map (λ k. (x, k)) ks)
    each [] = refl
    each (k ∷ ks) = rw (each ks) refl

fields-cells : (value : NamedLeaf → ℕ → Value Target) (es : List Slot) → fields (map (cell_of value) es) ≡ map (field_of value) es
fields-cells value [] = refl
fields-cells value (e ∷ es) = rw (fields-cells value es) refl

-- the fields of some leaves' cells are those of their leaf elements
pub fields-slots : (value : NamedLeaf → ℕ → Value Target) (xs : List NamedLeaf) → fields (cells (λ j x k. value x k) xs) ≡ map (field_of value) (slots xs)
unfolding cells
fields-slots value xs = ap fields (cells_from-slots value 0 xs) ∙ fields-cells value (slots xs)

-- the cells of an element of a struct are those of its leaf elements
pub struct_cells-slots : (names : Naming Target) (order : Order) (c : Catalogue) (w : Width) (s : ℕ) (bytes : List ℕ)
    → struct_cells names order c w s bytes ≡ map (cell_of (λ x k. leaf_value names order bytes x k)) (slots (named_leaves c w s))
unfolding cells
struct_cells-slots names order c w s bytes = cells_from-slots (λ x k. leaf_value names order bytes x k) 0 (named_leaves c w s)

-- and so are its fields
pub struct_fields-slots : (names : Naming Target) (order : Order) (c : Catalogue) (w : Width) (s : ℕ) (bytes : List ℕ)
    → fields (struct_cells names order c w s bytes) ≡ map (field_of (λ x k. leaf_value names order bytes x k)) (slots (named_leaves c w s))
struct_fields-slots names order c w s bytes = fields-slots (λ x k. leaf_value names order bytes x k) (named_leaves c w s)

-- ---- what fits is read again

-- what holds of each leaf holds of the leaf of each leaf element
all_slots : (P : NamedLeaf → Type 0) (xs : List NamedLeaf) → All P xs → All (λ (e : Slot). P e.0) (slots xs)
all_slots P [] all = All-nil (λ (e : Slot). P e.0)
all_slots P (x ∷ xs) all =
    All-append (λ (e : Slot). P e.0) (map (λ k. (x, k)) (numbers_below x.count)) (slots xs)
    (All-map (λ (e : Slot). P e.0) (λ (k : ℕ). (x, k)) (numbers_below x.count) (λ i d lt. All-head P x xs all))
    (all_slots P xs (All-tail P x xs all))

-- the size of a leaf element is one that its kind has
abbrev pub SlotFits : Width → Slot → Type 0
SlotFits w e = FitsKind w e.0.kind e.0.size

-- the value of a leaf element fits it
abbrev pub PairFits : Naming Target → Pair → Type 0
PairFits names q = ValueFits names q.0.0.kind q.0.0.size q.1.1

-- in some bytes, a leaf element has its value
abbrev pub IsRead : Naming Target → Order → List ℕ → Pair → Type 0
IsRead names order bytes q = leaf_value names order bytes q.0.0 q.0.1 ≡ q.1.1

values_read : (names : Naming Target) (order : Order) (w : Width) (bytes : List ℕ) (es : List Slot) (fs : Fields)
    → All (SlotFits w) es → All (PairFits names) (zip es fs) → All (StandsIn order bytes) (zip es fs)
    → All (IsRead names order bytes) (zip es fs)
unfolding leaf_value
values_read names order w bytes [] fs kinds fit stand = All-nil (IsRead names order bytes)
values_read names order w bytes (e ∷ es) [] kinds fit stand = All-nil (IsRead names order bytes)
values_read names order w bytes (e ∷ es) (f ∷ fs) kinds fit stand =
    let kind : SlotFits w e = All-head (SlotFits w) e es kinds in
    let value : ValueFits names e.0.kind e.0.size f.1 = All-head (PairFits names) (e, f) (zip es fs) fit in
    let here = All-head (StandsIn order bytes) (e, f) (zip es fs) stand in
    All-cons (IsRead names order bytes) (e, f) (zip es fs)
    (ap (value_by e.0.kind names order) here ∙ value_by-value_written names order w e.0.kind e.0.size f.1 kind value)
    (values_read names order w bytes es fs (All-tail (SlotFits w) e es kinds) (All-tail (PairFits names) (e, f) (zip es fs) fit) (All-tail (StandsIn order bytes) (e, f) (zip es fs) stand))

-- values that fit fill their places
pub values_fill : (names : Naming Target) (qs : List Pair) → All (PairFits names) qs → All Fills qs
values_fill names qs fit i d lt =
    let q : Pair = get_or qs i d in
    fits-fills names q.0.0.kind q.0.0.size q.1.1 (fit i d lt)

-- ---- the laws

-- each leaf element of an element of a struct has the value that was written
pub leaf_values_back : (names : Naming Target) (order : Order) (c : Catalogue) (w : Width) (s : ℕ) (fs : Fields)
    → first_fault c w ≡ None → All (PairFits names) (zip (slots (named_leaves c w s)) fs)
    → All (IsRead names order (element_written order (struct_length c s) (named_leaves c w s) fs)) (zip (slots (named_leaves c w s)) fs)
leaf_values_back names order c w s fs e fit =
    let xs : List NamedLeaf = named_leaves c w s in
    values_read names order w (element_written order (struct_length c s) xs fs) (slots xs) fs
    (all_slots (λ x. FitsKind w x.kind x.size) xs (named_leaves-fit c w s e)) fit
    (struct_written-stands order c w s fs e (values_fill names (zip (slots xs) fs) fit))

-- where fields fit, each value does
pub fields_fit-each : (names : Naming Target) (es : List Slot) (fs : Fields) → FieldsFit names es fs → All (PairFits names) (zip es fs)
fields_fit-each names [] fs fit = All-nil (PairFits names)
fields_fit-each names (e ∷ es) [] fit = All-nil (PairFits names)
fields_fit-each names (e ∷ es) (f ∷ fs) fit = All-cons (PairFits names) (e, f) (zip es fs) fit.1 (fields_fit-each names es fs fit.2)

fields_read : (names : Naming Target) (order : Order) (bytes : List ℕ) (es : List Slot) (fs : Fields)
    → FieldsFit names es fs → All (IsRead names order bytes) (zip es fs)
    → map (field_of (λ x k. leaf_value names order bytes x k)) es ≡ fs
fields_read names order bytes [] [] fit read = refl
fields_read names order bytes [] (f ∷ fs) fit read = absurd fit
fields_read names order bytes (e ∷ es) [] fit read = absurd fit
fields_read names order bytes (e ∷ es) (f ∷ fs) fit read =
    let path : path_of e.0.way e.1 ≡ f.0 = sym fit.0 in
    let value : leaf_value names order bytes e.0 e.1 ≡ f.1 = All-head (IsRead names order bytes) (e, f) (zip es fs) read in
    let later = fields_read names order bytes es fs fit.2 (All-tail (IsRead names order bytes) (e, f) (zip es fs) read) in
    λ i. (path i, value i) ∷ later i

-- an element of a struct reads as the fields that were written
pub fields_back : (names : Naming Target) (order : Order) (c : Catalogue) (w : Width) (s : ℕ) (fs : Fields)
    → first_fault c w ≡ None → FieldsFit names (slots (named_leaves c w s)) fs
    → fields (struct_cells names order c w s (element_written order (struct_length c s) (named_leaves c w s) fs)) ≡ fs
fields_back names order c w s fs e fit =
    let xs : List NamedLeaf = named_leaves c w s in
    let bytes : List ℕ = element_written order (struct_length c s) xs fs in
    struct_fields-slots names order c w s bytes
    ∙ fields_read names order bytes (slots xs) fs fit (leaf_values_back names order c w s fs e (fields_fit-each names (slots xs) fs fit))
