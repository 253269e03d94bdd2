-- No two leaves of a struct have an element of the same path, nor the same way. So a path names at most one leaf.
use Rattle.std.proofs.Common.{◌≡◌, ◌≢◌, ℕ, zero, suc, ◌<◌, All, AllPairs, List, [], ◌∷◌, ◌++◌, length, get_or, None, ap, arith, inl, inr}
use Rattle.std.specs.Prelude.{map}
use Rattle.std.proofs.lemmas.Bool.{cases_lt}
use Rattle.std.proofs.lemmas.List.{map-append}
use Rattle.std.proofs.lemmas.List.Elements.{All-nil, All-head, All-tail, All-cons}
use Rattle.std.proofs.lemmas.List.Kept.{AllPairs-cons}
use Rattle.bl_num.specs.declared.number.Width.{Width}
use Rattle.bl_format.specs.declared.catalogue.Catalogue.{Catalogue}
use Rattle.bl_format.specs.Words.{numbers_below}
use Rattle.bl_format.specs.Layout.{MemberStep, NamedLeaf, named_leaves, first_fault}
use Rattle.bl_format.specs.Graph.{Path, path_of}
use Rattle.bl_format.proofs.LeafKinds.{named_leaves-have_bytes}
use Rattle.bl_format.proofs.PathsDiffer.{leaf_paths, paths_of, named_leaves-paths_differ}

-- ---- what holds of all of a longer list

all_first : {X : Type 0} (P : X → Type 0) (xs ys : List X) → All P (xs ++ ys) → All P xs
all_first P [] ys h = All-nil P
all_first P (x ∷ xs) ys h = All-cons P x xs (All-head P x (xs ++ ys) h) (all_first P xs ys (All-tail P x (xs ++ ys) h))

all_second : {X : Type 0} (P : X → Type 0) (xs ys : List X) → All P (xs ++ ys) → All P ys
all_second P [] ys h = h
all_second P (x ∷ xs) ys h = all_second P xs ys (All-tail P x (xs ++ ys) h)

all_of_numbers : {X : Type 0} (P : X → Type 0) (f : ℕ → X) (n k : ℕ) → All P (map f (numbers_below n)) → k < n → P (f k)
all_of_numbers P f zero k h lt = absurd (omega arith)
all_of_numbers P f (suc n) k h lt =
    let both : All P (map f (numbers_below n) ++ (f n ∷ [])) = rw (map-append f (numbers_below n) (n ∷ [])) at h in
    elim (cases_lt k n) [
      | inl below ↦ all_of_numbers P f n k (all_first P (map f (numbers_below n)) (f n ∷ []) both) below
      | inr le ↦ (let last : k ≡ n = omega arith in rw last (All-head P (f n) [] (all_second P (map f (numbers_below n)) (f n ∷ []) both)))
    ]

all_of_leaf : (P : Path → Type 0) (xs : List NamedLeaf) (i : ℕ) (d : NamedLeaf) → All P (paths_of xs) → i < length xs → All P (leaf_paths (get_or xs i d))
all_of_leaf P [] i d h lt = absurd (omega arith)
all_of_leaf P (x ∷ xs) zero d h lt = all_first P (leaf_paths x) (paths_of xs) h
all_of_leaf P (x ∷ xs) (suc i) d h lt = all_of_leaf P xs i d (all_second P (leaf_paths x) (paths_of xs) h) (omega arith)

pairs_across : {X : Type 0} (R : X → X → Type 0) (xs ys : List X) → AllPairs R (xs ++ ys) → All (λ x. All (R x) ys) xs
pairs_across {X} R [] ys h = All-nil (λ (x : X). All (R x) ys)
pairs_across {X} R (x ∷ xs) ys h =
    All-cons (λ (y : X). All (R y) ys) x xs
    (all_second (R x) xs ys (λ j d lt. h 0 (suc j) d (omega arith) (omega arith)))
    (pairs_across R xs ys (λ i j d lt within. h (suc i) (suc j) d (omega arith) (omega arith)))

pairs_behind : {X : Type 0} (R : X → X → Type 0) (xs ys : List X) → AllPairs R (xs ++ ys) → AllPairs R ys
pairs_behind R [] ys h = h
pairs_behind R (x ∷ xs) ys h = pairs_behind R xs ys (λ i j d lt within. h (suc i) (suc j) d (omega arith) (omega arith))

-- ---- leaves

-- no element of one leaf has the path of an element of the other
abbrev pub ElementsDiffer : NamedLeaf → NamedLeaf → Type 0
ElementsDiffer x y = (j k : ℕ) → j < x.count → k < y.count → path_of x.way j ≢ path_of y.way k

leaves_differ : (xs : List NamedLeaf) → AllPairs (λ p q. p ≢ q) (paths_of xs) → AllPairs ElementsDiffer xs
leaves_differ [] h = λ i j d lt within. absurd (omega arith)
leaves_differ (x ∷ xs) h =
    let Other : Path → Path → Type 0 = λ p q. p ≢ q in
    let across : All (λ p. All (Other p) (paths_of xs)) (leaf_paths x) = pairs_across Other (leaf_paths x) (paths_of xs) h in
    AllPairs-cons ElementsDiffer x xs
    (λ i d lt j k below within.
    all_of_numbers (Other (path_of x.way j)) (path_of (get_or xs i d).way) (get_or xs i d).count k
    (all_of_leaf (Other (path_of x.way j)) xs i d (all_of_numbers (λ p. All (Other p) (paths_of xs)) (path_of x.way) x.count j across below) lt) within)
    (leaves_differ xs (pairs_behind Other (leaf_paths x) (paths_of xs) h))

-- no two leaves of a struct have an element of the same path
pub named_leaves-elements_differ : (c : Catalogue) (w : Width) (s : ℕ)
    → first_fault c w ≡ None → AllPairs ElementsDiffer (named_leaves c w s)
named_leaves-elements_differ c w s e = leaves_differ (named_leaves c w s) (named_leaves-paths_differ c w s e)

-- no two leaves of a struct stand behind the same members
pub named_leaves-ways_differ : (c : Catalogue) (w : Width) (s : ℕ)
    → first_fault c w ≡ None → AllPairs (λ x y. x.way ≢ y.way) (named_leaves c w s)
named_leaves-ways_differ c w s e i j d lt within same =
    let first = named_leaves-have_bytes c w s i d (omega arith) in
    let second = named_leaves-have_bytes c w s j d within in
    named_leaves-elements_differ c w s e i j d lt within 0 0 first.count second.count (ap (λ (way : List MemberStep). path_of way 0) same)
