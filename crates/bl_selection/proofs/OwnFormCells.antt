-- What is carried over to a leaf of the same struct is what that leaf holds, so the cells of a source entry in its own
-- catalogue and width are those that its node has by the entry's names.
use Rattle.std.proofs.Common.{◌≡◌, ℕ, ◌+◌, ◌-◌, ◌<◌, Bool, true, false, cond, All, List, [], ◌∷◌, ◌++◌, get_or, Some, None, refl, ap, ◌∙◌, arith}
use Rattle.std.specs.Prelude.{◌&&◌, ◌==◌, min, nat_lt, map, flat_map}
use Rattle.std.specs.List.{enumerate_from}
use Rattle.std.proofs.Math.Path.{fun_ext}
use Rattle.std.proofs.lemmas.Bool.{eq-eqb, lt-ltb, le-ltb}
use Rattle.std.proofs.lemmas.List.Elements.{All-head, All-tail}
use Rattle.std.proofs.lemmas.Slice.Eq.{bytes_eq-Decides}
use Rattle.bl_num.specs.declared.number.Order.{Order}
use Rattle.bl_num.specs.declared.number.Width.{Width}
use Rattle.bl_num.specs.Numbers.{number_of, number_meant}
use Rattle.bl_format.specs.declared.file.Head.{Head}
use Rattle.bl_format.specs.declared.catalogue.Catalogue.{Catalogue}
use Rattle.bl_format.specs.declared.layout.Kind.{Kind}
use Rattle.bl_format.specs.declared.layout.Kind.TheVariants as kinds
use Rattle.bl_format.specs.Words.{numbers_below}
use Rattle.bl_format.specs.Layout.{NamedLeaf, named_leaves, first_fault}
use Rattle.bl_format.specs.Nodes.{File}
use Rattle.bl_format.specs.Graph.{Target, Value, Number, Naming, Cell, cells, struct_cells, leaf_bytes, leaf_value, value_by, node_elements}
use Rattle.bl_selection.specs.declared.draft.Draft.{Draft}
use Rattle.bl_selection.specs.Fate.{kept_count, is_char, same_type, zero_of, converted_value, value_from, carried_value}
use Rattle.bl_selection.specs.Selection.{file_at, node_at, index_under, entry_names, source_cells}
use Rattle.bl_selection.specs.Carried.{StructForm, struct_form, carried_cells}
use Rattle.bl_selection.proofs.CarriedCells.{source_cells-carried}
use Rattle.bl_selection.proofs.CarriedFits.{number_meant-in_range}
use Rattle.bl_selection.proofs.CellsFit.{numbers_below-lt}
use Rattle.bl_selection.proofs.ValuesBack.{number_meant-bits_of}
use Rattle.bl_selection.proofs.OwnFormWays.{source_leaf-own}

-- ---- one value

-- a value that is read as a kind is the same under that kind
converted_own : {P : Type 0} (other : Value P) (kind : Kind) (names : Naming P) (order : Order) (bytes : List ℕ)
    → converted_value true other kind kind (value_by kind names order bytes) ≡ value_by kind names order bytes
converted_own other (kinds.Whole whole) names order bytes =
    let v : ℕ = number_of order whole.bytes bytes in
    ap Number (number_meant-bits_of whole (number_meant whole v) (number_meant-in_range whole v))
converted_own other (kinds.Bits n) names order bytes = refl
converted_own other (kinds.Pointer depth t) names order bytes = refl
converted_own other kinds.Opaque names order bytes = refl

all_kept : (char : Bool) (n : ℕ) → cond (char && char && nat_lt n n) (n - 1) (min n n) ≡ n
all_kept true n = rw (le-ltb n n (omega arith)) (omega arith)
all_kept false n = omega arith

-- a leaf keeps its own value
value_from-own : {P : Type 0} (null : P) (names : Naming P) (order : Order) (bytes : List ℕ) (y : NamedLeaf) (k : ℕ)
    → k < y.count → value_from null names order bytes (Some y) y k ≡ leaf_value names order bytes y k
unfolding leaf_value
value_from-own null names order bytes y k lt =
    let all : kept_count y y ≡ y.count = all_kept (is_char y) y.count in
    let kept : nat_lt k (kept_count y y) ≡ true = lt-ltb k (kept_count y y) (omega (arith, all, lt)) in
    let type : same_type y y ≡ true = (bytes_eq-Decides y.type_name y.type_name).1 refl in
    let size : (y.size == y.size) ≡ true = eq-eqb y.size y.size refl in
    let alike : (same_type y y && y.size == y.size) ≡ true = λ i. type i && size i in
    let read = value_by y.kind names order (leaf_bytes y bytes k) in
    ap (λ b. cond b (converted_value (same_type y y && y.size == y.size) (zero_of null y) y.kind y.kind read) (zero_of null y)) kept
    ∙ ap (λ b. converted_value b (zero_of null y) y.kind y.kind read) alike
    ∙ converted_own (zero_of null y) y.kind names order (leaf_bytes y bytes k)

-- what is carried over to a leaf of the same struct is what it holds
pub carried-own : {P : Type 0} (null : P) (names : Naming P) (order : Order) (c : Catalogue) (w : Width) (s : ℕ) (bytes : List ℕ)
    → first_fault c w ≡ None
    → All (λ y. (k : ℕ) → k < y.count → carried_value null names order (named_leaves c w s) bytes y k ≡ leaf_value names order bytes y k) (named_leaves c w s)
unfolding carried_value
carried-own null names order c w s bytes no_fault j d lt k below =
    let y : NamedLeaf = get_or (named_leaves c w s) j d in
    ap (λ o. value_from null names order bytes o y k) (source_leaf-own c w s no_fault j d lt)
    ∙ value_from-own null names order bytes y k below

-- ---- cells

module _ (f g : ℕ → NamedLeaf → ℕ → Value Target) where
  -- two functions give the same value for each element of a leaf, whatever its number
  abbrev pub GiveTheSame : NamedLeaf → Type 0
  GiveTheSame x = (j k : ℕ) → k < x.count → f j x k ≡ g j x k

  -- the cell of a leaf's element, by what gives values
  abbrev cell_by : (ℕ → NamedLeaf → ℕ → Value Target) → ℕ → NamedLeaf → ℕ → Cell
  cell_by value j x k = record { leaf = x; at = k; value = value j x k }

  leaf_cells-same : (j : ℕ) (x : NamedLeaf) (ks : List ℕ) → GiveTheSame x → All (λ k. k < x.count) ks
      → map (cell_by f j x) ks ≡ map (cell_by g j x) ks
  leaf_cells-same j x [] same below = refl
  leaf_cells-same j x (k ∷ ks) same below =
      let first : f j x k ≡ g j x k = same j k (All-head (λ k. k < x.count) k ks below) in
      let later = leaf_cells-same j x ks same (All-tail (λ k. k < x.count) k ks below) in
      λ i. (record { leaf = x; at = k; value = first i }) ∷ later i

  cells_from-same : (j : ℕ) (xs : List NamedLeaf) → All GiveTheSame xs
      → flat_map (λ (p : ℕ × NamedLeaf). map (cell_by f p.0 p.1) (numbers_below p.1.count)) (enumerate_from j xs)
      ≡ flat_map (λ (p : ℕ × NamedLeaf). map (cell_by g p.0 p.1) (numbers_below p.1.count)) (enumerate_from j xs)
  cells_from-same j [] same = refl
  cells_from-same j (x ∷ xs) same =
      let first = leaf_cells-same j x (numbers_below x.count) (All-head GiveTheSame x xs same) (numbers_below-lt x.count) in
      let later = cells_from-same (j + 1) xs (All-tail GiveTheSame x xs same) in
      λ i. first i ++ later i

  cells-same : (xs : List NamedLeaf) → All GiveTheSame xs → cells f xs ≡ cells g xs
  unfolding cells
  cells-same xs same = cells_from-same 0 xs same

-- ---- the cells of a source entry

-- the cells that an element gets in its own form are those that it has
pub carried_cells-own : (names : Naming Target) (order : Order) (c : Catalogue) (w : Width) (s : ℕ) (bytes : List ℕ) → first_fault c w ≡ None
    → carried_cells names (struct_form order c w s) (named_leaves c w s) bytes ≡ struct_cells names order c w s bytes
carried_cells-own names order c w s bytes no_fault =
    cells-same (λ j y k. carried_value None names order (named_leaves c w s) bytes y k) (λ j y k. leaf_value names order bytes y k) (named_leaves c w s)
    (λ m z lt j k below. carried-own None names order c w s bytes no_fault m z lt k below)

-- under its own catalogue and width a source entry has the cells of its node, by the entry's names
pub source_cells-own : (files : List File) (d : Draft) (e i n : ℕ) → d.overrides ≡ []
    → first_fault (file_at files i).catalogue (file_at files i).header.width ≡ None
    → d.catalogue ≡ (file_at files i).catalogue → d.header.width ≡ (file_at files i).header.width
    → index_under d.catalogue (file_at files i).catalogue (node_at files i n).index ≡ (node_at files i n).index
    → source_cells files d e i n
    ≡ map (struct_cells (entry_names files d e i n) (file_at files i).header.order (file_at files i).catalogue (file_at files i).header.width (node_at files i n).index) (node_elements (file_at files i) (node_at files i n))
source_cells-own files d e i n none no_fault catalogue width index =
    let f : File = file_at files i in
    let x : Head = node_at files i n in
    let names : Naming Target = entry_names files d e i n in
    let own : StructForm = struct_form f.header.order f.catalogue f.header.width x.index in
    source_cells-carried files d e i n none
    ∙ (λ k. map (carried_cells names own (named_leaves (catalogue k) (width k) (index k))) (node_elements f x))
    ∙ ap (λ (cells_of : List ℕ → List Cell). map cells_of (node_elements f x))
    (fun_ext (λ bytes. carried_cells-own names f.header.order f.catalogue f.header.width x.index bytes no_fault))
