-- To leaves that are alike but for where they stand and how long pointers are, the same values are carried.
use Rattle.std.proofs.Common.{◌≡◌, ℕ, ◌+◌, Bool, cond, List, [], ◌∷◌, ◌++◌, get_or, drop, Option, Some, None, refl, sym, ap, ◌∙◌}
use Rattle.std.specs.Prelude.{◌&&◌, ◌==◌, nat_lt, map, flat_map}
use Rattle.std.specs.List.{enumerate_from, find}
use Rattle.std.specs.Str.{bytes_eq}
use Rattle.std.proofs.lemmas.List.{map-append}
use Rattle.bl_num.specs.declared.number.Order.{Order}
use Rattle.bl_format.specs.declared.layout.Kind.{Kind}
use Rattle.bl_format.specs.declared.layout.Kind.TheVariants as kinds
use Rattle.bl_format.specs.Words.{numbers_below}
use Rattle.bl_format.specs.Layout.{MemberStep, NamedLeaf, no_leaf}
use Rattle.bl_format.specs.Graph.{Target, Value, Points, Naming, Cell, cells, leaf_value}
use Rattle.bl_format.proofs.RewidthLeaves.{Outline, outline_of, size_but_pointer}
use Rattle.bl_selection.specs.Fate.{kept_count, ways_meet, source_leaf, converted_value, value_from, carried_value}

-- ---- one value

-- a leaf of an outline, with elements of so many bytes
abbrev leaf_with : Outline → ℕ → NamedLeaf
leaf_with o n = record { way = o.way; type_name = o.type_name; kind = o.kind; offset = 0; size = n; count = o.count }

-- the same with another kind
abbrev leaf_of_kind : Outline → Kind → ℕ → NamedLeaf
leaf_of_kind o kind n = record { way = o.way; type_name = o.type_name; kind = kind; offset = 0; size = n; count = o.count }

to_pointer : (kind : Kind) (depth t : ℕ) (a b : Bool) (v : Value Target)
    → converted_value a (Points None) kind (kinds.Pointer depth t) v ≡ converted_value b (Points None) kind (kinds.Pointer depth t) v
to_pointer (kinds.Whole whole) depth t a b v = refl
to_pointer (kinds.Bits n) depth t a b v = refl
to_pointer (kinds.Pointer other u) depth t a b v = refl
to_pointer kinds.Opaque depth t a b v = refl

module _ (names : Naming Target) (order : Order) (bytes : List ℕ) (k : ℕ) where
  -- the value that a leaf gets of the one that it meets
  abbrev value_of : Option NamedLeaf → NamedLeaf → Value Target
  value_of met y = value_from None names order bytes met y k

  pointer_size : (met : Option NamedLeaf) (o : Outline) (depth t n m : ℕ)
      → value_of met (leaf_of_kind o (kinds.Pointer depth t) n) ≡ value_of met (leaf_of_kind o (kinds.Pointer depth t) m)
  pointer_size None o depth t n m = refl
  pointer_size (Some x) o depth t n m =
      ap (λ (v : Value Target). cond (nat_lt k (kept_count x (leaf_of_kind o (kinds.Pointer depth t) n))) v (Points None))
      (to_pointer x.kind depth t (bytes_eq x.type_name o.type_name && x.size == n) (bytes_eq x.type_name o.type_name && x.size == m) (leaf_value names order bytes x k))

  -- it doesn't hang on how long a pointer is
  size_alike : (met : Option NamedLeaf) (o : Outline) (kind : Kind) (n m : ℕ) → size_but_pointer kind n ≡ size_but_pointer kind m
      → value_of met (leaf_of_kind o kind n) ≡ value_of met (leaf_of_kind o kind m)
  size_alike met o (kinds.Whole whole) n m same = ap (λ (s : ℕ). value_of met (leaf_of_kind o (kinds.Whole whole) s)) same
  size_alike met o (kinds.Bits b) n m same = ap (λ (s : ℕ). value_of met (leaf_of_kind o (kinds.Bits b) s)) same
  size_alike met o (kinds.Pointer depth t) n m same = pointer_size met o depth t n m
  size_alike met o kinds.Opaque n m same = ap (λ (s : ℕ). value_of met (leaf_of_kind o kinds.Opaque s)) same

  -- nor on where the leaf stands
  without_place : (met : Option NamedLeaf) (y : NamedLeaf) → value_of met y ≡ value_of met (leaf_with (outline_of y) y.size)
  without_place None y = refl
  without_place (Some x) y = refl

  -- leaves of one outline get the same value
  pub carried-alike : (xs : List NamedLeaf) (y z : NamedLeaf) → outline_of y ≡ outline_of z
      → carried_value None names order xs bytes y k ≡ carried_value None names order xs bytes z k
  unfolding carried_value
  carried-alike xs y z same =
      let kind : y.kind ≡ z.kind = ap (λ (o : Outline). o.kind) same in
      let size : size_but_pointer z.kind y.size ≡ size_but_pointer z.kind z.size = sym (ap (λ (q : Kind). size_but_pointer q y.size) kind) ∙ ap (λ (o : Outline). o.size) same in
      without_place (source_leaf xs y) y
      ∙ (λ i. value_of (find (λ (x : NamedLeaf). ways_meet x.way (same i).way) xs) (leaf_with (same i) y.size))
      ∙ size_alike (source_leaf xs z) (outline_of z) z.kind y.size z.size size
      ∙ sym (without_place (source_leaf xs z) z)

-- ---- all cells

module _ {Y : Type 0} (g : List MemberStep → Kind → ℕ → Value Target → Y) (f h : NamedLeaf → ℕ → Value Target)
    (same : (y z : NamedLeaf) (k : ℕ) → outline_of y ≡ outline_of z → f y k ≡ h z k) where
  -- what is made of a cell, but for where its leaf stands
  abbrev made : Cell → Y
  made x = g x.leaf.way x.leaf.kind x.at x.value

  leaf_cells-alike : (y z : NamedLeaf) (ks : List ℕ) → outline_of y ≡ outline_of z
      → map made (map (λ k. record { leaf = y; at = k; value = f y k }) ks) ≡ map made (map (λ k. record { leaf = z; at = k; value = h z k }) ks)
  leaf_cells-alike y z [] alike = refl
  leaf_cells-alike y z (k ∷ ks) alike =
      let value = same y z k alike in
      let later = leaf_cells-alike y z ks alike in
      λ i. g (alike i).way (alike i).kind k (value i) ∷ later i

  cells_from-alike : (j : ℕ) (ys zs : List NamedLeaf) → map outline_of ys ≡ map outline_of zs
      → map made (flat_map (λ (p : ℕ × NamedLeaf). map (λ k. record { leaf = p.1; at = k; value = f p.1 k }) (numbers_below p.1.count)) (enumerate_from j ys))
      ≡ map made (flat_map (λ (p : ℕ × NamedLeaf). map (λ k. record { leaf = p.1; at = k; value = h p.1 k }) (numbers_below p.1.count)) (enumerate_from j zs))
  cells_from-alike j [] [] alike = refl
  cells_from-alike j [] (z ∷ zs) alike = absurd (cc)
  cells_from-alike j (y ∷ ys) [] alike = absurd (cc)
  cells_from-alike j (y ∷ ys) (z ∷ zs) alike =
      let none : Outline = outline_of no_leaf in
      let head : outline_of y ≡ outline_of z = ap (λ (os : List Outline). get_or os 0 none) alike in
      let tail : map outline_of ys ≡ map outline_of zs = ap (λ (os : List Outline). drop 1 os) alike in
      let first_f : List Cell = map (λ k. record { leaf = y; at = k; value = f y k }) (numbers_below y.count) in
      let first_h : ℕ → List Cell = λ n. map (λ k. record { leaf = z; at = k; value = h z k }) (numbers_below n) in
      let first : map made first_f ≡ map made (first_h z.count) = leaf_cells-alike y z (numbers_below y.count) head ∙ ap (λ (n : ℕ). map made (first_h n)) (ap (λ (o : Outline). o.count) head) in
      let later = cells_from-alike (j + 1) ys zs tail in
      map-append made first_f (flat_map (λ (p : ℕ × NamedLeaf). map (λ k. record { leaf = p.1; at = k; value = f p.1 k }) (numbers_below p.1.count)) (enumerate_from (j + 1) ys))
      ∙ (λ i. first i ++ later i)
      ∙ sym (map-append made (first_h z.count) (flat_map (λ (p : ℕ × NamedLeaf). map (λ k. record { leaf = p.1; at = k; value = h p.1 k }) (numbers_below p.1.count)) (enumerate_from (j + 1) zs)))

  -- what is made of the cells of leaves of the same outlines is the same
  pub cells-alike : (ys zs : List NamedLeaf) → map outline_of ys ≡ map outline_of zs → map made (cells (λ j y k. f y k) ys) ≡ map made (cells (λ j z k. h z k) zs)
  unfolding cells
  cells-alike ys zs alike = cells_from-alike 0 ys zs alike
