-- An element of a struct is written leaf by leaf: the elements of each leaf one behind another, and zeros between the
-- leaves. It holds of any value for each leaf and element.
use Rattle.std.proofs.Common.{◌≡◌, ℕ, zero, suc, ◌+◌, ◌-◌, ◌*◌, ◌<◌, All, List, [], ◌∷◌, ◌++◌, refl, sym, ap, ◌∙◌, append_assoc, append-nil, arith}
use Rattle.std.specs.Prelude.{map, zip, flat_map}
use Rattle.std.specs.List.{enumerate_from}
use Rattle.std.proofs.lemmas.List.{map-append}
use Rattle.std.proofs.lemmas.List.Elements.{All-head, All-tail}
use Rattle.bl_num.specs.declared.number.Order.{Order}
use Rattle.bl_format.specs.Words.{numbers_below, zeros}
use Rattle.bl_format.specs.Layout.{NamedLeaf}
use Rattle.bl_format.specs.Graph.{Target, Value, Fields, cells, fields}
use Rattle.bl_format.proofs.LeavesApart.{flat_map-numbers_below, end_of_leaf}
use Rattle.bl_selection.specs.Written.{value_written, places, laid_out, element_written}
use Rattle.bl_selection.specs.Fits.{Slot, slots}
use Rattle.bl_selection.proofs.FieldsBack.{field_of, cell_of}
use Rattle.bl_selection.proofs.WrittenBytes.{place_of, places-slots}

-- what numbers below one more than n give
pub flat_map-suc : (f : ℕ → List ℕ) (n : ℕ) → flat_map f (numbers_below (suc n)) ≡ flat_map f (numbers_below n) ++ f n
flat_map-suc f n =
    flat_map-numbers_below f n ∙ ap (λ (t : List ℕ). flat_map f (numbers_below n) ++ t) (append-nil (f n))

-- ---- fields by leaf elements

cells_from-slots : (value : NamedLeaf → ℕ → Value Target) (i : ℕ) (xs : List NamedLeaf)
    → flat_map (λ (p : ℕ × NamedLeaf). map (λ k. record { leaf = p.1; at = k; value = value p.1 k }) (numbers_below p.1.count)) (enumerate_from i xs)
    ≡ map (cell_of value) (slots xs)
cells_from-slots value i [] = refl
cells_from-slots value i (x ∷ xs) =
    rw (map-append (cell_of value) (map (λ k. (x, k)) (numbers_below x.count)) (slots xs), cells_from-slots value (i + 1) xs, each (numbers_below x.count)) refl
  where
    each : (ks : List ℕ) → map (λ k. record { leaf = x; at = k; value = value x k }) ks ≡ map (cell_of value) (map (λ k. (x, k)) ks)
    each [] = refl
    each (k ∷ ks) = rw (each ks) refl

fields-cells : (value : NamedLeaf → ℕ → Value Target) (es : List Slot) → fields (map (cell_of value) es) ≡ map (field_of value) es
fields-cells value [] = refl
fields-cells value (e ∷ es) = rw (fields-cells value es) refl

fields-slots : (value : NamedLeaf → ℕ → Value Target) (xs : List NamedLeaf)
    → fields (cells (λ j x k. value x k) xs) ≡ map (field_of value) (slots xs)
unfolding cells
fields-slots value xs = ap fields (cells_from-slots value 0 xs) ∙ fields-cells value (slots xs)

module _ (order : Order) (value : NamedLeaf → ℕ → Value Target) where
  -- ---- what is written of a leaf

  -- what is written of the elements of a leaf, one behind another
  abbrev pub leaf_written : NamedLeaf → List ℕ
  leaf_written x = flat_map (λ k. value_written order x.size (value x k)) (numbers_below x.count)

  -- the bytes from one place up to another: what is written of each leaf, and zeros between
  abbrev pub leaves_written : ℕ → ℕ → List NamedLeaf → List ℕ
  leaves_written end at [] = zeros (end - at)
  leaves_written end at (x ∷ xs) = zeros (x.offset - at) ++ (leaf_written x ++ leaves_written end (end_of_leaf x) xs)

  -- ---- the law

  -- what is written of some leaf elements, from a place on
  abbrev from_slots : ℕ → ℕ → List Slot → List ℕ
  from_slots end at es = laid_out order end at (zip (map place_of es) (map (field_of value) es))

  -- the first elements of a leaf, and then others
  first_slots : (end at : ℕ) (x : NamedLeaf) (m : ℕ) (es : List Slot)
      → from_slots end at (map (λ k. (x, k)) (numbers_below (suc m)) ++ es)
      ≡ zeros (x.offset - at) ++ (flat_map (λ k. value_written order x.size (value x k)) (numbers_below (suc m)) ++ from_slots end (x.offset + suc m * x.size) es)
  first_slots end at x zero es =
      let place : x.offset + 0 * x.size ≡ x.offset = omega arith in
      let behind : x.offset + 0 * x.size + x.size ≡ x.offset + 1 * x.size = omega arith in
      let own : List ℕ = value_written order x.size (value x 0) in
      ap (λ (p : ℕ). zeros (p - at) ++ own ++ from_slots end (x.offset + 0 * x.size + x.size) es) place
      ∙ ap (λ (p : ℕ). zeros (x.offset - at) ++ own ++ from_slots end p es) behind
      ∙ append_assoc (zeros (x.offset - at)) own (from_slots end (x.offset + 1 * x.size) es)
      ∙ ap (λ (t : List ℕ). zeros (x.offset - at) ++ (t ++ from_slots end (x.offset + 1 * x.size) es)) (sym (append-nil own))
  first_slots end at x (suc m) es =
      let n : ℕ = suc m in
      let f : ℕ → List ℕ = λ k. value_written order x.size (value x k) in
      let front : List ℕ = flat_map f (numbers_below n) in
      let rest : List ℕ = from_slots end (x.offset + suc n * x.size) es in
      let none : x.offset + n * x.size - (x.offset + n * x.size) ≡ 0 = omega arith in
      let behind : x.offset + n * x.size + x.size ≡ x.offset + suc n * x.size = omega arith in
      let one : from_slots end (x.offset + n * x.size) ((x, n) ∷ es) ≡ f n ++ rest =
      ap (λ (g : ℕ). zeros g ++ f n ++ from_slots end (x.offset + n * x.size + x.size) es) none
      ∙ ap (λ (p : ℕ). f n ++ from_slots end p es) behind in
      ap (λ (ys : List Slot). from_slots end at (ys ++ es)) (map-append {B = Slot} (λ (k : ℕ). (x, k)) (numbers_below n) (n ∷ []))
      ∙ ap (from_slots end at) (append_assoc (map (λ k. (x, k)) (numbers_below n)) ((x, n) ∷ []) es)
      ∙ first_slots end at x m ((x, n) ∷ es)
      ∙ ap (λ (t : List ℕ). zeros (x.offset - at) ++ (front ++ t)) one
      ∙ ap (λ (t : List ℕ). zeros (x.offset - at) ++ t) (sym (append_assoc front (f n) rest))
      ∙ ap (λ (t : List ℕ). zeros (x.offset - at) ++ (t ++ rest)) (sym (flat_map-suc f n))

  -- all elements of a leaf, and then others
  all_slots : (end at : ℕ) (x : NamedLeaf) (n : ℕ) (es : List Slot) → 0 < n
      → from_slots end at (map (λ k. (x, k)) (numbers_below n) ++ es)
      ≡ zeros (x.offset - at) ++ (flat_map (λ k. value_written order x.size (value x k)) (numbers_below n) ++ from_slots end (x.offset + x.size * n) es)
  all_slots end at x zero es some = absurd (omega arith)
  all_slots end at x (suc m) es some =
      let turned : x.offset + suc m * x.size ≡ x.offset + x.size * suc m = omega arith in
      first_slots end at x m es
      ∙ ap (λ (p : ℕ). zeros (x.offset - at) ++ (flat_map (λ k. value_written order x.size (value x k)) (numbers_below (suc m)) ++ from_slots end p es)) turned

  slots-leaves : (end at : ℕ) (xs : List NamedLeaf) → All (λ x. 0 < x.count) xs → from_slots end at (slots xs) ≡ leaves_written end at xs
  slots-leaves end at [] some = refl
  slots-leaves end at (x ∷ xs) some =
      all_slots end at x x.count (slots xs) (All-head (λ x. 0 < x.count) x xs some)
      ∙ ap (λ (t : List ℕ). zeros (x.offset - at) ++ (leaf_written x ++ t)) (slots-leaves end (end_of_leaf x) xs (All-tail (λ x. 0 < x.count) x xs some))

  -- an element of a struct is written leaf by leaf, where no leaf is empty
  pub element_written-leaves : (end : ℕ) (xs : List NamedLeaf) → All (λ x. 0 < x.count) xs
      → element_written order end xs (fields (cells (λ j x k. value x k) xs)) ≡ leaves_written end 0 xs
  unfolding element_written
  element_written-leaves end xs some =
      ap (λ (fs : Fields). laid_out order end 0 (zip (places xs) fs)) (fields-slots value xs)
      ∙ ap (λ (ps : List (ℕ × ℕ)). laid_out order end 0 (zip ps (map (field_of value) (slots xs)))) (places-slots xs)
      ∙ slots-leaves end 0 xs some

  -- ---- one leaf more

  -- what is written up to a place of some leaves and one behind them
  pub leaves_written-push : (end at : ℕ) (xs : List NamedLeaf) (x : NamedLeaf)
      → leaves_written end at (xs ++ x ∷ []) ≡ leaves_written x.offset at xs ++ (leaf_written x ++ zeros (end - end_of_leaf x))
  leaves_written-push end at [] x = refl
  leaves_written-push end at (y ∷ ys) x =
      let gap : List ℕ = zeros (y.offset - at) in
      let last : List ℕ = leaf_written x ++ zeros (end - end_of_leaf x) in
      ap (λ (t : List ℕ). gap ++ (leaf_written y ++ t)) (leaves_written-push end (end_of_leaf y) ys x)
      ∙ ap (λ (t : List ℕ). gap ++ t) (sym (append_assoc (leaf_written y) (leaves_written x.offset (end_of_leaf y) ys) last))
      ∙ sym (append_assoc gap (leaf_written y ++ leaves_written x.offset (end_of_leaf y) ys) last)
