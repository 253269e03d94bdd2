-- What a struct's leaves say, as they are read, is what the file's graph has.
use Rattle.std.proofs.Common.{◌≡◌, ◌≢◌, ◌<◌, inl, inr, ℕ, zero, suc, ◌+◌, Bool, List, [], ◌∷◌, ◌++◌, length, Option, Some, None, refl, sym, ap, ◌∙◌, arith}
use Rattle.std.specs.Prelude.{All, map, filter, flat_map, slice_index_or, option_map}
use Rattle.std.specs.List.{enumerate_from, cons_option}
use Rattle.std.proofs.lemmas.Bool.{cases_lt}
use Rattle.std.proofs.lemmas.List.{get_or-map, get_or_past, length-map, append-nil}
use Rattle.std.proofs.lemmas.List.Elements.{filter-append, All-head, All-tail}
use Rattle.std.proofs.lemmas.Grind.{flat_map-append}
use Rattle.bl_num.specs.declared.number.Order.{Order}
use Rattle.bl_num.specs.declared.number.Width.{Width}
use Rattle.bl_format.specs.declared.catalogue.Catalogue.{Catalogue}
use Rattle.bl_format.specs.declared.catalogue.TypeEntry.{TypeEntry}
use Rattle.bl_format.specs.declared.layout.Kind.{Kind}
use Rattle.bl_format.specs.declared.layout.Kind.TheVariants as kinds
use Rattle.bl_format.specs.declared.layout.Leaf.{Leaf}
use Rattle.bl_format.specs.declared.raw.RawKind.{RawKind}
use Rattle.bl_format.specs.declared.raw.View.{View}
use Rattle.bl_format.specs.Words.{numbers_below}
use Rattle.bl_format.specs.Layout.{Basic, IsWhole, IsFloat, IsVoid, NamedLeaf, HasLayout, leaf_of, leaves_of, named_leaves, type_entry, struct_length, basic_named}
use Rattle.bl_format.specs.Nodes.{pointed_length, view_of, view_of_type}
use Rattle.bl_format.specs.Graph.{Target, Naming, Value, Points, Cell, cells, leaf_value, struct_cells, view_by, views_of}
use Rattle.bl_format.proofs.LeavesApart.{flat_map-numbers_below}
use Rattle.bl_members.specs.Leaf.{number_of_leaf, value_of_number}
use Rattle.bl_members.proofs.Leaves.{named_leaves-numbers}
use Rattle.bl_file.specs.declared.speakers.Speaker.{Speaker}
use Rattle.bl_file.specs.Speakers.{basic_length, basic_lengths, said_by, speaker_with, speakers_of}
use Rattle.bl_file.specs.Heard.{views_of_target, leaf_heard, element_heard}

-- ---- basic types

pointed_by : (c : Catalogue) (t : ℕ) (b : Option Basic) → basic_length b (type_entry c t).length ≡ pointed_length c t b
pointed_by c t None = refl
pointed_by c t (Some (IsWhole signed [])) = refl
pointed_by c t (Some (IsWhole signed (k ∷ []))) = refl
pointed_by c t (Some (IsWhole signed (k ∷ l ∷ ks))) = refl
pointed_by c t (Some (IsFloat k)) = refl
pointed_by c t (Some IsVoid) = refl

nameless : basic_named [] ≡ None
unfolding basic_named
nameless = refl

-- the table of basic types says what pointers to a type point to
pub basic_at : (c : Catalogue) (t : ℕ)
    → slice_index_or (basic_lengths c) t None ≡ pointed_length c t (basic_named (type_entry c t).name)
basic_at c t = elim (cases_lt t (length c.types)) [
  | inl lt ↦ (get_or-map (λ (e : TypeEntry). basic_length (basic_named e.name) e.length) c.types t (record { name = []; length = 0 }) None lt
      ∙ pointed_by c t (basic_named (type_entry c t).name))
  | inr ge ↦ (get_or_past (basic_lengths c) t None (omega (arith, ge, length-map c.types (λ (e : TypeEntry). basic_length (basic_named e.name) e.length)))
      ∙ sym (ap (λ (e : TypeEntry). pointed_length c t (basic_named e.name)) (get_or_past c.types t (record { name = []; length = 0 }) ge)
      ∙ ap (pointed_length c t) nameless))
]

-- ---- one value

-- the views that an element gives, by what its leaf says
abbrev pub views_said : Target → Option RawKind → List View
views_said target None = []
views_said target (Some kind) = views_of_target kind target

said_of : (n : ℕ) (said : Option RawKind)
    → elim said [ None ↦ [] | Some k ↦ record { node = n; kind = k } ∷ [] ] ≡ views_said (Some n) said
said_of n None = refl
said_of n (Some kind) = refl

said_none : (said : Option RawKind) → [] ≡ views_said None said
said_none None = refl
said_none (Some kind) = refl

-- the view of a pointer
pub pointer_said : (c : Catalogue) (depth t : ℕ) (target : Target)
    → view_by c (kinds.Pointer depth t) (Points target) ≡ views_said target (said_by (basic_lengths c) (kinds.Pointer depth t))
pointer_said c depth t None = said_none (said_by (basic_lengths c) (kinds.Pointer depth t))
pointer_said c depth t (Some n) =
    said_of n (view_of_type c depth t)
    ∙ ap (λ (o : Option ℕ). views_said (Some n) (view_of depth o)) (sym (basic_at c t))

-- the view of a value
value_said : (c : Catalogue) (names : Naming Target) (kind : Kind) (value : Value Target) (v : ℕ)
    → (kind ≢ kinds.Opaque → value ≡ value_of_number kind names v)
    → view_by c kind value ≡ views_said (names v) (said_by (basic_lengths c) kind)
value_said c names (kinds.Whole whole) value v is = refl
value_said c names (kinds.Bits n) value v is = refl
value_said c names (kinds.Pointer depth t) value v is =
    ap (λ x. view_by c (kinds.Pointer depth t) x) (is (λ e. absurd (cc)))
    ∙ pointer_said c depth t (names v)
value_said c names kinds.Opaque value v is = refl

-- ---- lists

-- functions that agree below n give the same lists
pub flat_map-below : {X : Type 0} (f g : ℕ → List X) (n : ℕ) → ((k : ℕ) → k < n → f k ≡ g k)
    → flat_map f (numbers_below n) ≡ flat_map g (numbers_below n)
flat_map-below f g zero same = refl
flat_map-below f g (suc n) same =
    flat_map-numbers_below f n
    ∙ ap (λ xs. xs ++ (f n ++ [])) (flat_map-below f g n (λ k lt. same k (omega arith)))
    ∙ ap (λ xs. flat_map g (numbers_below n) ++ (xs ++ [])) (same n (omega arith))
    ∙ sym (flat_map-numbers_below g n)

-- one number more
pub flat_map-more : {X : Type 0} (f : ℕ → List X) (n : ℕ)
    → flat_map f (numbers_below (n + 1)) ≡ flat_map f (numbers_below n) ++ f n
flat_map-more f n =
    let next : n + 1 ≡ suc n = omega arith in
    ap (λ m. flat_map f (numbers_below m)) next ∙ flat_map-numbers_below f n
    ∙ ap (λ xs. flat_map f (numbers_below n) ++ xs) (append-nil (f n))

-- no number says anything
abbrev pub none_said : ℕ → List View
none_said k = []

-- nothing is said
pub flat_map-nothing : (n : ℕ) → flat_map none_said (numbers_below n) ≡ []
flat_map-nothing zero = refl
flat_map-nothing (suc n) = flat_map-numbers_below none_said n ∙ ap (λ xs. xs ++ []) (flat_map-nothing n)

-- what is kept of some lists behind one another
pub filter-flat_map : {X Y : Type 0} (p : Y → Bool) (f : X → List Y) (xs : List X)
    → filter p (flat_map f xs) ≡ flat_map (λ x. filter p (f x)) xs
filter-flat_map p f [] = refl
filter-flat_map p f (x ∷ xs) =
    filter-append p (f x) (flat_map f xs) ∙ ap (λ ys. filter p (f x) ++ ys) (filter-flat_map p f xs)

-- ---- leaves

-- the views of a leaf, by what it says
abbrev leaf_views : Naming Target → Order → List ℕ → Leaf → Option RawKind → List View
leaf_views names order bytes x None = []
leaf_views names order bytes x (Some kind) = leaf_heard names order bytes (speaker_with x kind)

views_by-said : (names : Naming Target) (order : Order) (bytes : List ℕ) (x : Leaf) (said : Option RawKind)
    → flat_map (λ k. views_said (names (number_of_leaf order x bytes k)) said) (numbers_below x.count)
    ≡ leaf_views names order bytes x said
views_by-said names order bytes x None = flat_map-nothing x.count
views_by-said names order bytes x (Some kind) = refl

first_heard : (names : Naming Target) (order : Order) (bytes : List ℕ) (x : Leaf) (said : Option RawKind) (others : List Speaker)
    → leaf_views names order bytes x said ++ element_heard names order others bytes
    ≡ element_heard names order (cons_option (option_map (speaker_with x) said) others) bytes
first_heard names order bytes x None others = refl
first_heard names order bytes x (Some kind) others = refl

module _ (c : Catalogue) (names : Naming Target) (order : Order) (bytes : List ℕ) where
  -- the elements of a leaf that isn't opaque have the values of their numbers
  abbrev pub HasNumbers : NamedLeaf → Type 0
  HasNumbers x =
      x.kind ≢ kinds.Opaque → (k : ℕ) → k < x.count
      → leaf_value names order bytes x k ≡ value_of_number x.kind names (number_of_leaf order (leaf_of x) bytes k)

  abbrev views_at : NamedLeaf → ℕ → List View
  views_at x k = view_by c x.kind (leaf_value names order bytes x k)

  heard_leaf : (x : NamedLeaf) → HasNumbers x
      → flat_map (views_at x) (numbers_below x.count) ≡ leaf_views names order bytes (leaf_of x) (said_by (basic_lengths c) x.kind)
  heard_leaf x has =
      flat_map-below (views_at x)
      (λ k. views_said (names (number_of_leaf order (leaf_of x) bytes k)) (said_by (basic_lengths c) x.kind)) x.count
      (λ k lt. value_said c names x.kind (leaf_value names order bytes x k) (number_of_leaf order (leaf_of x) bytes k) (λ some. has some k lt))
      ∙ views_by-said names order bytes (leaf_of x) (said_by (basic_lengths c) x.kind)

  cells_views : (x : NamedLeaf) (ks : List ℕ)
      → views_of c (map (λ k. record { leaf = x; at = k; value = leaf_value names order bytes x k }) ks) ≡ flat_map (views_at x) ks
  cells_views x [] = refl
  cells_views x (k ∷ ks) = ap (λ vs. views_at x k ++ vs) (cells_views x ks)

  heard_cells : (i : ℕ) (xs : List NamedLeaf) → All HasNumbers xs
      → views_of c (flat_map (λ (p : ℕ × NamedLeaf). map (λ k. record { leaf = p.1; at = k; value = leaf_value names order bytes p.1 k }) (numbers_below p.1.count)) (enumerate_from i xs))
      ≡ element_heard names order (speakers_of (basic_lengths c) (map leaf_of xs)) bytes
  heard_cells i [] all = refl
  heard_cells i (x ∷ xs) all =
      let own : List Cell = map (λ k. record { leaf = x; at = k; value = leaf_value names order bytes x k }) (numbers_below x.count) in
      let others : List Cell = flat_map (λ (p : ℕ × NamedLeaf). map (λ k. record { leaf = p.1; at = k; value = leaf_value names order bytes p.1 k }) (numbers_below p.1.count)) (enumerate_from (i + 1) xs) in
      flat_map-append (λ (y : Cell). view_by c y.leaf.kind y.value) own others
      ∙ ap (λ vs. vs ++ views_of c others) (cells_views x (numbers_below x.count))
      ∙ ap (λ vs. vs ++ views_of c others) (heard_leaf x (All-head HasNumbers x xs all))
      ∙ ap (λ vs. leaf_views names order bytes (leaf_of x) (said_by (basic_lengths c) x.kind) ++ vs) (heard_cells (i + 1) xs (All-tail HasNumbers x xs all))
      ∙ first_heard names order bytes (leaf_of x) (said_by (basic_lengths c) x.kind) (speakers_of (basic_lengths c) (map leaf_of xs))

  -- what a struct's leaves say is what its cells do
  pub element_heard-cells : (w : Width) (s : ℕ) → HasLayout c w → length bytes ≡ struct_length c s
      → element_heard names order (speakers_of (basic_lengths c) (leaves_of c w s)) bytes
      ≡ views_of c (struct_cells names order c w s bytes)
  unfolding leaves_of cells
  element_heard-cells w s has len =
      sym (heard_cells 0 (named_leaves c w s) (named_leaves-numbers c w s names order bytes has len))
