-- The fields of an element of a struct fit its leaves, where each cell's value fits its leaf.
use Rattle.std.proofs.Common.{ℕ, zero, suc, ◌+◌, ◌<◌, All, List, [], ◌∷◌, ◌++◌, refl, arith}
use Rattle.std.specs.Prelude.{map, flat_map}
use Rattle.std.specs.List.{enumerate_from}
use Rattle.std.proofs.lemmas.List.{map-append}
use Rattle.std.proofs.lemmas.List.Elements.{All-nil, All-cons, All-append, All-head, All-tail, All-weaker}
use Rattle.bl_format.specs.Words.{numbers_below}
use Rattle.bl_format.specs.Layout.{NamedLeaf}
use Rattle.bl_format.specs.Graph.{Target, Value, Naming, Path, Fields, path_of, Cell, cells, fields}
use Rattle.bl_selection.specs.Fits.{ValueFits, Slot, slots, FieldsFit}

pub numbers_below-lt : (n : ℕ) → All (λ k. k < n) (numbers_below n)
numbers_below-lt zero = All-nil (λ k. k < 0)
numbers_below-lt (suc n) =
    All-append (λ k. k < suc n) (numbers_below n) (n ∷ [])
    (All-weaker (λ k. k < n) (λ k. k < suc n) (λ k lt. omega (arith, lt)) (numbers_below n) (numbers_below-lt n))
    (All-cons (λ k. k < suc n) n [] (omega arith) (All-nil (λ k. k < suc n)))

FieldsFit-append : (names : Naming Target) (es others : List Slot) (fs more : Fields)
    → FieldsFit names es fs → FieldsFit names others more → FieldsFit names (es ++ others) (fs ++ more)
FieldsFit-append names [] others [] more fit rest = rest
FieldsFit-append names [] others (f ∷ fs) more fit rest = absurd fit
FieldsFit-append names (e ∷ es) others [] more fit rest = absurd fit
FieldsFit-append names (e ∷ es) others (f ∷ fs) more fit rest = (fit.0, fit.1, FieldsFit-append names es others fs more fit.2 rest)

module _ (names : Naming Target) (value : ℕ → NamedLeaf → ℕ → Value Target) where
  -- the value of each element of a leaf fits it, where it is leaf j
  abbrev pub AllValuesFit : ℕ → NamedLeaf → Type 0
  AllValuesFit j x = (k : ℕ) → k < x.count → ValueFits names x.kind x.size (value j x k)

  leaf_fits : (j : ℕ) (x : NamedLeaf) (ks : List ℕ) → AllValuesFit j x → All (λ k. k < x.count) ks
      → FieldsFit names (map (λ k. (x, k)) ks) (fields (map (λ k. record { leaf = x; at = k; value = value j x k }) ks))
  leaf_fits j x [] fit below = tt
  leaf_fits j x (k ∷ ks) fit below =
      (refl, fit k (All-head (λ k. k < x.count) k ks below), leaf_fits j x ks fit (All-tail (λ k. k < x.count) k ks below))

  cells_from-fit : (j : ℕ) (xs : List NamedLeaf) → All (λ x. (j : ℕ) → AllValuesFit j x) xs
      → FieldsFit names (slots xs) (fields (flat_map (λ (p : ℕ × NamedLeaf). map (λ k. record { leaf = p.1; at = k; value = value p.0 p.1 k }) (numbers_below p.1.count)) (enumerate_from j xs)))
  cells_from-fit j [] fit = tt
  cells_from-fit j (x ∷ xs) fit =
      let first : List Cell = map (λ k. record { leaf = x; at = k; value = value j x k }) (numbers_below x.count) in
      let others : List Cell = flat_map (λ (p : ℕ × NamedLeaf). map (λ k. record { leaf = p.1; at = k; value = value p.0 p.1 k }) (numbers_below p.1.count)) (enumerate_from (j + 1) xs) in
      rw (map-append {B = Path × Value Target} (λ (c : Cell). (path_of c.leaf.way c.at, c.value)) first others)
      (FieldsFit-append names (map (λ k. (x, k)) (numbers_below x.count)) (slots xs) (fields first) (fields others)
      (leaf_fits j x (numbers_below x.count) (All-head (λ x. (j : ℕ) → AllValuesFit j x) x xs fit j) (numbers_below-lt x.count))
      (cells_from-fit (j + 1) xs (All-tail (λ x. (j : ℕ) → AllValuesFit j x) x xs fit)))

  -- the fields of cells fit, where each value does, whatever its leaf's number
  pub cells-fit : (xs : List NamedLeaf) → All (λ x. (j : ℕ) → AllValuesFit j x) xs → FieldsFit names (slots xs) (fields (cells value xs))
  unfolding cells
  cells-fit xs fit = cells_from-fit 0 xs fit
