-- No two elements of a struct's leaves have the same path: so the list from paths to values that an element of a
-- struct node holds is a finite map. It needs that identifiers in each struct differ, which a layout without a fault
-- of a member has.
use Rattle.std.proofs.Common.{◌≡◌, ◌≢◌, ℕ, zero, suc, ◌+◌, ◌*◌, ◌<◌, Bool, true, false, cond, All, AllPairs, List, [], ◌∷◌, ◌++◌, length, get_or, Option, Some, None, refl, sym, ap, ◌∙◌, arith, inl, inr, append-nil}
use Rattle.std.specs.Prelude.{◌||◌, map, flat_map, ◌==◌}
use Rattle.std.specs.List.{list_any, enumerate_from}
use Rattle.std.specs.Str.{bytes_eq}
use Rattle.std.proofs.lemmas.Bool.{cases_lt, or_parts}
use Rattle.std.proofs.lemmas.Grind.{flat_map-append}
use Rattle.std.proofs.lemmas.List.{map-append, get_or-map, length-map}
use Rattle.std.proofs.lemmas.List.Concat.{flat_map_single}
use Rattle.std.proofs.lemmas.List.Folds.{list_any-append}
use Rattle.std.proofs.lemmas.List.Elements.{All-nil, All-cons, All-append, All-map}
use Rattle.std.proofs.lemmas.List.Kept.{AllPairs-cons}
use Rattle.bl_num.specs.declared.number.Width.{Width}
use Rattle.bl_format.specs.declared.catalogue.Catalogue.{Catalogue}
use Rattle.bl_format.specs.Limits.{deepest_nesting}
use Rattle.bl_format.specs.Words.{numbers_below, is_one_of}
use Rattle.bl_format.specs.Layout.{MemberStep, NamedLeaf, name_of, member_count, element_size, member_size, member_offset, inner_struct, leaf_behind, member_step, own_leaf, inner_leaves, leaves_by, member_leaves, leaves_within, named_leaves, first_fault}
use Rattle.bl_num.specs.declared.number.Order.{Order}
use Rattle.bl_format.specs.Graph.{Value, Target, Naming, Path, path_of, Cell, cells, fields, struct_cells, leaf_value}
use Rattle.bl_format.proofs.MemberPasses.{member_passes}
use Rattle.bl_format.proofs.LeavesApart.{flat_map-numbers_below}
use Rattle.bl_format.proofs.LeafKinds.{each_number, leaves_within-hold}
use Rattle.bl_format.proofs.CatalogueBack.{text_eq}

-- the paths of all elements of a leaf
abbrev pub leaf_paths : NamedLeaf → List Path
leaf_paths x = map (path_of x.way) (numbers_below x.count)

-- the paths of all elements of some leaves
abbrev pub paths_of : List NamedLeaf → List Path
paths_of xs = flat_map leaf_paths xs

-- ---- pairs of lists

AllPairs-nil : {X : Type 0} (R : X → X → Type 0) → AllPairs R []
AllPairs-nil R i j d lt within = absurd (omega arith)

AllPairs-append : {X : Type 0} (R : X → X → Type 0) (xs ys : List X)
    → AllPairs R xs → AllPairs R ys → All (λ x. All (R x) ys) xs → AllPairs R (xs ++ ys)
AllPairs-append R [] ys h k both = k
AllPairs-append R (x ∷ xs) ys h k both =
    AllPairs-cons R x (xs ++ ys)
    (All-append (R x) xs ys (λ j d lt. h 0 (suc j) d (omega arith) (omega arith)) (both 0 x (omega arith)))
    (AllPairs-append R xs ys (λ i j d lt within. h (suc i) (suc j) d (omega arith) (omega arith)) k (λ i d lt. both (suc i) d (omega arith)))

-- some lists one behind another, by a mark that each element of list k bears: elements of two lists differ by their
-- marks
record Marked {X : Type 0} (R : X → X → Type 0) (Bears : ℕ → X → Type 0) (f : ℕ → List X) (n : ℕ) : Type 0 where
  each : (k : ℕ) → k < n → AllPairs R (f k)
  bears : (k : ℕ) → k < n → All (Bears k) (f k)
  differ : (j k : ℕ) (x y : X) → j < k → k < n → Bears j x → Bears k y → R x y

pairs_by_mark : {X : Type 0} (R : X → X → Type 0) (Bears : ℕ → X → Type 0) (f : ℕ → List X) (n : ℕ)
    → Marked R Bears f n → AllPairs R (flat_map f (numbers_below n))
pairs_by_mark R Bears f zero m = AllPairs-nil R
pairs_by_mark {X} R Bears f (suc n) m =
    rw (flat_map-numbers_below f n)
    (AllPairs-append R (flat_map f (numbers_below n)) (f n ++ [])
    (pairs_by_mark R Bears f n (record {
      each = λ k lt. m.each k (omega arith);
      bears = λ k lt. m.bears k (omega arith);
      differ = λ j k x y lt within. m.differ j k x y lt (omega arith);
    }))
    (AllPairs-append R (f n) [] (m.each n (omega arith)) (AllPairs-nil R) (λ i d lt. All-nil (R (get_or (f n) i d))))
    (each_number (λ (x : X). All (R x) (f n ++ [])) f n
    (λ k lt i d within. All-append (R (get_or (f k) i d)) (f n) [] (λ j e below. m.differ k n _ _ lt (omega arith) (m.bears k (omega arith) i d within) (m.bears n (omega arith) j e below)) (All-nil (R (get_or (f k) i d))))))

-- ---- marks of paths

-- the name with which a path begins, and the element there
abbrev first_name : Path → List ℕ
first_name [] = []
first_name (p ∷ ps) = p.0

abbrev first_element : Path → ℕ
first_element [] = 0
first_element (p ∷ ps) = p.1

by_element : (j k : ℕ) (p q : Path) → j < k → first_element p ≡ j → first_element q ≡ k → p ≢ q
by_element j k p q lt is is' e = let same : j ≡ k = sym is ∙ ap first_element e ∙ is' in omega arith

-- ---- a leaf behind one member more

-- a leaf stands behind a member at least
abbrev pub HasWay : NamedLeaf → Type 0
HasWay x = 0 < length x.way

-- leaves of a struct stand behind members
leaves_have_ways : (n : ℕ) (c : Catalogue) (w : Width) (s : ℕ) → All HasWay (leaves_within n c w s)
leaves_have_ways n c w s =
    leaves_within-hold HasWay n c w s (record { behind = λ step by x h. omega arith; own = λ s k lt some. omega arith })

-- the paths of a leaf that stands behind one member more, which begin with that member
leaf_paths-behind : (step : MemberStep) (by : ℕ) (x : NamedLeaf) → HasWay x
    → leaf_paths (leaf_behind step by x) ≡ map (λ (p : Path). (step.identifier, step.element) ∷ p) (leaf_paths x)
leaf_paths-behind step by x has = go x.way (numbers_below x.count) has
  where
    go : (way : List MemberStep) (ks : List ℕ) → 0 < length way
        → map (path_of (step ∷ way)) ks ≡ map (λ (p : Path). (step.identifier, step.element) ∷ p) (map (path_of way) ks)
    go [] ks has = absurd (omega arith)
    go (next ∷ steps) [] has = refl
    go (next ∷ steps) (k ∷ ks) has = ap (λ (ps : List Path). ((step.identifier, step.element) ∷ path_of (next ∷ steps) k) ∷ ps) (go (next ∷ steps) ks has)

paths_of-behind : (step : MemberStep) (by : ℕ) (xs : List NamedLeaf) → All HasWay xs
    → paths_of (map (leaf_behind step by) xs) ≡ map (λ (p : Path). (step.identifier, step.element) ∷ p) (paths_of xs)
paths_of-behind step by [] has = refl
paths_of-behind step by (x ∷ xs) has =
    rw (map-append (λ (p : Path). (step.identifier, step.element) ∷ p) (leaf_paths x) (paths_of xs), leaf_paths-behind step by x (has 0 x (omega arith)), paths_of-behind step by xs (λ k d lt. has (suc k) d (omega arith))) refl

paths_of-flat_map : (f : ℕ → List NamedLeaf) (ks : List ℕ) → paths_of (flat_map f ks) ≡ flat_map (λ k. paths_of (f k)) ks
paths_of-flat_map f [] = refl
paths_of-flat_map f (k ∷ ks) = rw (flat_map-append leaf_paths (f k) (flat_map f ks), paths_of-flat_map f ks) refl

-- paths with one step more in front still differ
differ_behind : (hd : List ℕ × ℕ) (ps : List Path)
    → AllPairs (λ p q. p ≢ q) ps → AllPairs (λ p q. p ≢ q) (map (λ (p : Path). hd ∷ p) ps)
differ_behind hd [] h = AllPairs-nil (λ (p q : Path). p ≢ q)
differ_behind hd (p ∷ ps) h =
    AllPairs-cons (λ (p q : Path). p ≢ q) (hd ∷ p) (map (λ (p : Path). hd ∷ p) ps)
    (All-map (λ (q : Path). hd ∷ p ≢ q) (λ (p : Path). hd ∷ p) ps (λ j d lt e. h 0 (suc j) d (omega arith) (omega arith) (let same : p ≡ get_or ps j d = cc in same)))
    (differ_behind hd ps (λ i j d lt within. h (suc i) (suc j) d (omega arith) (omega arith)))

-- ---- the paths of an element, of a member, of a struct

-- the paths of some elements of a member differ, and begin with the member's name
record Differ (name : List ℕ) (ps : List Path) : Type 0 where
  pairs : AllPairs (λ p q. p ≢ q) ps
  begin : All (λ p. first_name p ≡ name) ps

all_begin : (hd : List ℕ × ℕ) (ps : List Path) → All (λ p. first_name p ≡ hd.0) (map (λ (p : Path). hd ∷ p) ps)
all_begin hd ps = All-map (λ (p : Path). first_name p ≡ hd.0) (λ (p : Path). hd ∷ p) ps (λ k d lt. refl)

all_at : (hd : List ℕ × ℕ) (ps : List Path) → All (λ p. first_element p ≡ hd.1) (map (λ (p : Path). hd ∷ p) ps)
all_at hd ps = All-map (λ (p : Path). first_element p ≡ hd.1) (λ (p : Path). hd ∷ p) ps (λ k d lt. refl)

inner_differ : (inside : List NamedLeaf) (c : Catalogue) (w : Width) (s k n : ℕ)
    → All HasWay inside → AllPairs (λ p q. p ≢ q) (paths_of inside)
    → Differ (name_of c s k).identifier (paths_of (flat_map (inner_leaves inside c w s k) (numbers_below n)))
inner_differ inside c w s k n has h =
    let name : List ℕ = (name_of c s k).identifier in
    rw (paths_of-flat_map (inner_leaves inside c w s k) (numbers_below n)) (record {
      pairs = pairs_by_mark (λ (p q : Path). p ≢ q) (λ e (p : Path). first_element p ≡ e) (λ e. paths_of (inner_leaves inside c w s k e)) n (record {
        each = λ e lt. rw (paths_of-behind (member_step c s k e) (member_offset c w s k + e * element_size c w s k) inside has) (differ_behind (name, e) (paths_of inside) h);
        bears = λ e lt. rw (paths_of-behind (member_step c s k e) (member_offset c w s k + e * element_size c w s k) inside has) (all_at (name, e) (paths_of inside));
        differ = λ i j p q lt within. by_element i j p q lt;
      });
      begin = each_number (λ (p : Path). first_name p ≡ name) (λ e. paths_of (inner_leaves inside c w s k e)) n (λ e lt. rw (paths_of-behind (member_step c s k e) (member_offset c w s k + e * element_size c w s k) inside has) (all_begin (name, e) (paths_of inside)));
    })

one : {X : Type 0} (P : X → Type 0) (x : X) → P x → All P (x ∷ [])
one P x h = All-cons P x [] h (All-nil P)

one_pair : {X : Type 0} (R : X → X → Type 0) (x : X) → AllPairs R (x ∷ [])
one_pair R x i j d lt within = absurd (omega arith)

own_differ : (c : Catalogue) (w : Width) (s k : ℕ) → Differ (name_of c s k).identifier (paths_of (own_leaf c w s k ∷ []))
own_differ c w s k =
    let name : List ℕ = (name_of c s k).identifier in
    let n : ℕ = (name_of c s k).count in
    let path : ℕ → Path = λ e. (name, e) ∷ [] in
    let is : flat_map (λ e. path e ∷ []) (numbers_below n) ≡ map path (numbers_below n) = flat_map_single path (numbers_below n) in
    let all : Differ name (flat_map (λ e. path e ∷ []) (numbers_below n)) = record {
      pairs = pairs_by_mark (λ (p q : Path). p ≢ q) (λ e (p : Path). first_element p ≡ e) (λ e. path e ∷ []) n (record {
        each = λ e lt. one_pair (λ (p q : Path). p ≢ q) (path e);
        bears = λ e lt. one (λ (p : Path). first_element p ≡ e) (path e) refl;
        differ = λ i j p q lt within. by_element i j p q lt;
      });
      begin = each_number (λ (p : Path). first_name p ≡ name) (λ e. path e ∷ []) n (λ e lt. one (λ (p : Path). first_name p ≡ name) (path e) refl);
    } in
    rw (append-nil (map path (numbers_below n))) (rw is at all)

member_differs : (inside : ℕ → List NamedLeaf) (c : Catalogue) (w : Width) (s k : ℕ)
    → ((t : ℕ) → All HasWay (inside t)) → ((t : ℕ) → AllPairs (λ p q. p ≢ q) (paths_of (inside t)))
    → Differ (name_of c s k).identifier (paths_of (member_leaves inside c w s k))
unfolding member_leaves
member_differs inside c w s k has h = unless_empty (member_size c w s k == 0)
  where
    by_inner : (o : Option ℕ) → Differ (name_of c s k).identifier (paths_of (leaves_by inside c w s k o))
    by_inner (Some t) = inner_differ (inside t) c w s k (name_of c s k).count (has t) (h t)
    by_inner None = own_differ c w s k

    unless_empty : (b : Bool) → Differ (name_of c s k).identifier (paths_of (cond b [] (leaves_by inside c w s k (inner_struct c s k))))
    unless_empty true = record { pairs = AllPairs-nil (λ (p q : Path). p ≢ q); begin = All-nil (λ (p : Path). first_name p ≡ (name_of c s k).identifier) }
    unless_empty false = by_inner (inner_struct c s k)

not_among : (text : List ℕ) (f : ℕ → List ℕ) (n k : ℕ) → is_one_of text (map f (numbers_below n)) ≡ false → k < n → text ≢ f k
not_among text f zero k e lt same = omega arith
not_among text f (suc n) k e lt same =
    let split : (list_any (bytes_eq text) (map f (numbers_below n)) || (bytes_eq text (f n) || false)) ≡ false = rw (map-append f (numbers_below n) (n ∷ []), list_any-append (bytes_eq text) (map f (numbers_below n)) (f n ∷ [])) at e in
    let both = or_parts (list_any (bytes_eq text) (map f (numbers_below n))) (bytes_eq text (f n) || false) split in
    elim (cases_lt k n) [
      | inl below ↦ not_among text f n k both.0 below same
      | inr le ↦ (
          let last : k ≡ n = omega arith in
          let is : text ≡ f n = same ∙ ap f last in
          let differs : bytes_eq text (f n) ≡ false = (or_parts (bytes_eq text (f n)) false both.1).0 in
          let equal : bytes_eq text text ≡ false = rw (← is) at differs in
          let yes : bytes_eq text text ≡ true = text_eq text in
          cc)
    ]

-- the paths of all elements of a struct's leaves differ
pub leaves_within-paths_differ : (n : ℕ) (c : Catalogue) (w : Width) (s : ℕ)
    → first_fault c w ≡ None → AllPairs (λ p q. p ≢ q) (paths_of (leaves_within n c w s))
unfolding leaves_within
leaves_within-paths_differ zero c w s e = AllPairs-nil (λ (p q : Path). p ≢ q)
leaves_within-paths_differ (suc n) c w s e =
    let member : (k : ℕ) → Differ (name_of c s k).identifier (paths_of (member_leaves (leaves_within n c w) c w s k)) = λ k. member_differs (leaves_within n c w) c w s k (λ t. leaves_have_ways n c w t) (λ t. leaves_within-paths_differ n c w t e) in
    rw (paths_of-flat_map (member_leaves (leaves_within n c w) c w s) (numbers_below (member_count c s)))
    (pairs_by_mark (λ (p q : Path). p ≢ q) (λ k (p : Path). first_name p ≡ (name_of c s k).identifier) (λ k. paths_of (member_leaves (leaves_within n c w) c w s k)) (member_count c s) (record {
      each = λ k lt. (member k).pairs;
      bears = λ k lt. (member k).begin;
      differ = λ j k p q lt within is is' same. not_among (name_of c s k).identifier (λ i. (name_of c s i).identifier) k j (member_passes c w s k e within).identifier lt (sym is' ∙ sym (ap first_name same) ∙ is);
    }))

-- no two elements of a struct's leaves have the same path
pub named_leaves-paths_differ : (c : Catalogue) (w : Width) (s : ℕ)
    → first_fault c w ≡ None → AllPairs (λ p q. p ≢ q) (paths_of (named_leaves c w s))
unfolding named_leaves
named_leaves-paths_differ c w s e = leaves_within-paths_differ (deepest_nesting + 1) c w s e

-- ---- what it gives of the fields of an element

leaf_cells_paths : {X : Type 0} (path : X → Path) (xs : List X) (cell : X → Cell)
    → ((x : X) → path_of (cell x).leaf.way (cell x).at ≡ path x)
    → map (λ (f : Path × Value Target). f.0) (fields (map cell xs)) ≡ map path xs
leaf_cells_paths path [] cell same = refl
leaf_cells_paths path (x ∷ xs) cell same = rw (same x, leaf_cells_paths path xs cell same) refl

cells_paths : (cell : ℕ → NamedLeaf → ℕ → Cell) (i : ℕ) (xs : List NamedLeaf)
    → ((j : ℕ) (x : NamedLeaf) (k : ℕ) → path_of (cell j x k).leaf.way (cell j x k).at ≡ path_of x.way k)
    → map (λ (f : Path × Value Target). f.0) (fields (flat_map (λ p. map (cell p.0 p.1) (numbers_below p.1.count)) (enumerate_from i xs))) ≡ paths_of xs
cells_paths cell i [] same = refl
cells_paths cell i (x ∷ xs) same =
    let field : Cell → Path × Value Target = λ (c : Cell). (path_of c.leaf.way c.at, c.value) in
    let first : List Cell = map (cell i x) (numbers_below x.count) in
    let others : List Cell = flat_map (λ (p : ℕ × NamedLeaf). map (cell p.0 p.1) (numbers_below p.1.count)) (enumerate_from (i + 1) xs) in
    rw (map-append field first others, map-append (λ (f : Path × Value Target). f.0) (map field first) (map field others), leaf_cells_paths (path_of x.way) (numbers_below x.count) (cell i x) (same i x), cells_paths cell (i + 1) xs same) refl

-- the paths of some cells' fields are those of their leaves
pub fields-paths : (value : ℕ → NamedLeaf → ℕ → Value Target) (xs : List NamedLeaf)
    → map (λ (f : Path × Value Target). f.0) (fields (cells value xs)) ≡ paths_of xs
unfolding cells
fields-paths value xs = cells_paths (λ j x k. record { leaf = x; at = k; value = value j x k }) 0 xs (λ j x k. refl)

differ_by : {X Y : Type 0} (f : X → Y) (xs : List X) → AllPairs (λ a b. a ≢ b) (map f xs) → AllPairs (λ a b. f a ≢ f b) xs
differ_by {X} f [] h = AllPairs-nil (λ (a b : X). f a ≢ f b)
differ_by {X} f (x ∷ xs) h =
    AllPairs-cons (λ (a b : X). f a ≢ f b) x xs
    (λ j d lt e. h 0 (suc j) (f d) (omega arith) (omega (arith, length-map xs f)) (e ∙ sym (get_or-map f xs j d (f d) lt)))
    (differ_by f xs (λ i j d lt within. h (suc i) (suc j) d (omega arith) (omega arith)))

-- the fields of an element of a struct node are a finite map: no path stands in it twice
pub struct_cells-fields_differ : (names : Naming Target) (order : Order) (c : Catalogue) (w : Width) (s : ℕ) (bytes : List ℕ)
    → first_fault c w ≡ None → AllPairs (λ f g. f.0 ≢ g.0) (fields (struct_cells names order c w s bytes))
struct_cells-fields_differ names order c w s bytes e =
    differ_by (λ (f : Path × Value Target). f.0) (fields (struct_cells names order c w s bytes))
    (rw (fields-paths (λ j x k. leaf_value names order bytes x k) (named_leaves c w s)) (named_leaves-paths_differ c w s e))
