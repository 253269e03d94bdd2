-- An element of a struct is written in as many bytes as it has, and the bytes of each element of a leaf in it are
-- those of its value. It needs that leaves rise and are apart, and that each value fills its place.
use Rattle.std.proofs.Common.{◌≡◌, ℕ, ◌+◌, ◌-◌, ◌*◌, ◌≤◌, All, List, [], ◌∷◌, ◌++◌, length, None, refl, ap, ◌∙◌, append_assoc, arith}
use Rattle.std.specs.Prelude.{map, zip}
use Rattle.std.proofs.lemmas.List.{take_at, drop_at, length-append, length-replicate, map-append}
use Rattle.std.proofs.lemmas.List.Elements.{All-nil, All-cons, All-head, All-tail}
use Rattle.bl_num.specs.declared.number.Order.{Order}
use Rattle.bl_num.specs.declared.number.Width.{Width}
use Rattle.bl_num.specs.Numbers.{bits_of}
use Rattle.bl_num.proofs.BytesOf.{length-bytes_of}
use Rattle.bl_format.specs.declared.catalogue.Catalogue.{Catalogue}
use Rattle.bl_format.specs.Words.{part, zeros, numbers_below}
use Rattle.bl_format.specs.Layout.{NamedLeaf, named_leaves, struct_length, first_fault}
use Rattle.bl_format.specs.Graph.{Target, Value, Number, Pattern, Points, Opaque, Path, Fields, leaf_bytes}
use Rattle.bl_format.proofs.LeavesApart.{PiecesApart, leaf_elements-apart}
use Rattle.bl_selection.specs.Written.{address_of, value_written, places, laid_out, element_written}
use Rattle.bl_selection.specs.Fits.{FillsPlace, Slot, slots}

-- a value that fills its place is written in the bytes of it
pub length-value_written : (order : Order) (size : ℕ) (value : Value Target)
    → FillsPlace size value → length (value_written order size value) ≡ size
length-value_written order size (Number z) fills = length-bytes_of order size (bits_of size z)
length-value_written order size (Pattern bits) fills = length-bytes_of order size bits
length-value_written order size (Points to) fills = length-bytes_of order size (address_of to)
length-value_written order size (Opaque bytes) fills = fills

-- where an element of a leaf stands, with its size
abbrev pub place_of : Slot → ℕ × ℕ
place_of e = (e.0.offset + e.1 * e.0.size, e.0.size)

-- the places of leaves are those of their elements
pub places-slots : (xs : List NamedLeaf) → places xs ≡ map place_of (slots xs)
places-slots [] = refl
places-slots (x ∷ xs) =
    rw (map-append place_of (map (λ k. (x, k)) (numbers_below x.count)) (slots xs), places-slots xs, each (numbers_below x.count)) refl
  where
    each : (ks : List ℕ) → map place_of (map (λ k. (x, k)) ks) ≡ map (λ k. (x.offset + k * x.size, x.size)) ks
    each [] = refl
    each (k ∷ ks) = rw (each ks) refl

-- pieces that are apart end behind their start
pub pieces_rise : (from to : ℕ) (ps : List (ℕ × ℕ)) → PiecesApart from ps to → from ≤ to
pieces_rise from to [] apart = apart
pieces_rise from to (p ∷ ps) apart =
    let rest = pieces_rise (p.0 + p.1) to ps apart.1 in omega (arith, apart.0)

-- a leaf element with its field
abbrev pub Pair : Type 0
Pair = Slot × (Path × Value Target)

-- the value of a leaf element fills its place
abbrev pub Fills : Pair → Type 0
Fills q = FillsPlace q.0.0.size q.1.1

-- in some bytes, those of a leaf element are those of its value as it is written
abbrev pub StandsIn : Order → List ℕ → Pair → Type 0
StandsIn order bytes q = leaf_bytes q.0.0 bytes q.0.1 ≡ value_written order q.0.0.size q.1.1

-- elements that are laid out from a place on reach the end
length-laid_out : (order : Order) (to at : ℕ) (es : List Slot) (fs : Fields)
    → PiecesApart at (map place_of es) to → All Fills (zip es fs)
    → at + length (laid_out order to at (zip (map place_of es) fs)) ≡ to
length-laid_out order to at [] fs apart fill = omega (arith, length-replicate {A = ℕ} (to - at) 0, apart)
length-laid_out order to at (e ∷ es) [] apart fill =
    omega (arith, length-replicate {A = ℕ} (to - at) 0, pieces_rise at to (map place_of (e ∷ es)) apart)
length-laid_out order to at (e ∷ es) (f ∷ fs) apart fill =
    let place : ℕ = e.0.offset + e.1 * e.0.size in
    let size : ℕ = e.0.size in
    let value : List ℕ = value_written order size f.1 in
    let rest : List ℕ = laid_out order to (place + size) (zip (map place_of es) fs) in
    let later = length-laid_out order to (place + size) es fs apart.1 (All-tail Fills (e, f) (zip es fs) fill) in
    let long : length value ≡ size = length-value_written order size f.1 (All-head Fills (e, f) (zip es fs) fill) in
    omega (arith, apart.0, later, long, length-replicate {A = ℕ} (place - at) 0, length-append (zeros (place - at)) value, length-append (zeros (place - at) ++ value) rest)

-- elements that are laid out behind some bytes stand in all of them
laid_out-stands : (order : Order) (to at : ℕ) (front bytes : List ℕ) (es : List Slot) (fs : Fields)
    → bytes ≡ front ++ laid_out order to at (zip (map place_of es) fs) → length front ≡ at
    → PiecesApart at (map place_of es) to → All Fills (zip es fs)
    → All (StandsIn order bytes) (zip es fs)
laid_out-stands order to at front bytes [] fs is len apart fill = All-nil (StandsIn order bytes)
laid_out-stands order to at front bytes (e ∷ es) [] is len apart fill = All-nil (StandsIn order bytes)
laid_out-stands order to at front bytes (e ∷ es) (f ∷ fs) is len apart fill =
    let place : ℕ = e.0.offset + e.1 * e.0.size in
    let size : ℕ = e.0.size in
    let value : List ℕ = value_written order size f.1 in
    let gap : List ℕ = zeros (place - at) in
    let rest : List ℕ = laid_out order to (place + size) (zip (map place_of es) fs) in
    let long : length value ≡ size = length-value_written order size f.1 (All-head Fills (e, f) (zip es fs) fill) in
    let gap-long : length gap ≡ place - at = length-replicate {A = ℕ} (place - at) 0 in
    let before : length (front ++ gap) ≡ place = omega (arith, apart.0, len, gap-long, length-append front gap) in
    let until : length (front ++ gap ++ value) ≡ place + size = omega (arith, before, long, length-append (front ++ gap) value) in
    let here : bytes ≡ (front ++ gap) ++ (value ++ rest) = is ∙ simp append_assoc in
    let there : bytes ≡ (front ++ gap ++ value) ++ rest = is ∙ simp append_assoc in
    let found : leaf_bytes e.0 bytes e.1 ≡ value =
    ap (λ (b : List ℕ). part b place size) here ∙ rw (drop_at (front ++ gap) (value ++ rest) place before) (take_at value rest size long) in
    All-cons (StandsIn order bytes) (e, f) (zip es fs) found
    (laid_out-stands order to (place + size) (front ++ gap ++ value) bytes es fs there until apart.1 (All-tail Fills (e, f) (zip es fs) fill))

-- ---- the laws

-- an element of a struct is written in all its bytes
pub length-element_written : (order : Order) (to : ℕ) (xs : List NamedLeaf) (fs : Fields)
    → PiecesApart 0 (places xs) to → All Fills (zip (slots xs) fs) → length (element_written order to xs fs) ≡ to
unfolding element_written
length-element_written order to xs fs apart fill =
    rw (places-slots xs) (omega (arith, length-laid_out order to 0 (slots xs) fs (rw (places-slots xs) at apart) fill))

-- the bytes of each leaf element in it are those of its value
pub element_written-stands : (order : Order) (to : ℕ) (xs : List NamedLeaf) (fs : Fields)
    → PiecesApart 0 (places xs) to → All Fills (zip (slots xs) fs)
    → All (StandsIn order (element_written order to xs fs)) (zip (slots xs) fs)
unfolding element_written
element_written-stands order to xs fs apart fill =
    laid_out-stands order to 0 [] (laid_out order to 0 (zip (places xs) fs)) (slots xs) fs
    (ap (λ (ps : List (ℕ × ℕ)). laid_out order to 0 (zip ps fs)) (places-slots xs)) refl (rw (places-slots xs) at apart) fill

-- the same of a struct of a catalogue in which no member has a fault
pub length-struct_written : (order : Order) (c : Catalogue) (w : Width) (s : ℕ) (fs : Fields)
    → first_fault c w ≡ None → All Fills (zip (slots (named_leaves c w s)) fs)
    → length (element_written order (struct_length c s) (named_leaves c w s) fs) ≡ struct_length c s
length-struct_written order c w s fs e fill =
    length-element_written order (struct_length c s) (named_leaves c w s) fs (leaf_elements-apart c w s e) fill

pub struct_written-stands : (order : Order) (c : Catalogue) (w : Width) (s : ℕ) (fs : Fields)
    → first_fault c w ≡ None → All Fills (zip (slots (named_leaves c w s)) fs)
    → All (StandsIn order (element_written order (struct_length c s) (named_leaves c w s) fs)) (zip (slots (named_leaves c w s)) fs)
struct_written-stands order c w s fs e fill =
    element_written-stands order (struct_length c s) (named_leaves c w s) fs (leaf_elements-apart c w s e) fill
