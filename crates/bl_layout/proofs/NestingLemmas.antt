-- The nesting of structs: what a round gives, what a round that changes nothing shows, and the limit.
use Rattle.std.proofs.Common.{◌≡◌, ℕ, zero, suc, ◌+◌, ◌≤◌, ◌<◌, true, eqb, List, [], ◌∷◌, ◌++◌, length, get_or, take, drop, map, refl, sym, ◌∙◌, ap, arith, eq-eqb}
use Rattle.std.specs.Option.{option_or}
use Rattle.std.specs.Prelude.{Option, All, max, min, fold, replicate, slice_index}
use Rattle.std.specs.declared.vec.Vec.{Vec}
use Rattle.std.specs.declared.alloc.Global.{Global}
use Rattle.std.proofs.lemmas.Bool.{or_left, or_right}
use Rattle.std.proofs.lemmas.List.{length-map, take_all, take_more, drop_more, map_push}
use Rattle.std.proofs.lemmas.List.Elements.{All-cons}
use Rattle.bl_format.specs.Words.{contains, numbers_below, find_map}
use Rattle.bl_format.specs.declared.catalogue.Catalogue.{Catalogue}
use Rattle.bl_format.specs.Layout.{inner_structs, nesting_within, nesting, struct_numbers, depth_fault}
use Rattle.bl_format.proofs.NumbersBelow.{length-numbers_below, get_or-by}
use Rattle.bl_format.proofs.NewLengths.{map_same}
use Rattle.bl_layout.specs.Graph.{AreInnerStructs, links_of}
use Rattle.bl_layout.specs.Nesting.{deeper_by_one, next_nestings, nestings_in, fault_of_nesting}
use Rattle.bl_layout.proofs.GraphLemmas.{links-inner, links-len, links_inside}

-- the deepest of some numbers, each cut at k
deepest_cut : (k a : ℕ) (f : ℕ → ℕ) (g : ℕ → ℕ) (row : List ℕ) → ((t : ℕ) → contains row t ≡ true → f t ≡ min k (g t))
    → fold max (min k a) (map f row) ≡ min k (fold max a (map g row))
deepest_cut k a f g [] same = refl
deepest_cut k a f g (t ∷ row) same =
    let here : f t ≡ min k (g t) = same t (or_left (eqb t t) (contains row t) (eq-eqb t t refl)) in
    let most : max (min k a) (f t) ≡ min k (max a (g t)) = omega (arith, here) in
    ap (λ (m : ℕ). fold max m (map f row)) most ∙ deepest_cut k (max a (g t)) f g row (λ u e. same u (or_right (eqb t u) (contains row u) e))

-- the row of a number
get_or-next : (links : List (List ℕ)) (n : List ℕ) (s : ℕ) → s < length links → slice_index (next_nestings links n) s ≡ deeper_by_one n (get_or links s [])
get_or-next [] n s lt = absurd (omega arith)
get_or-next (row ∷ links) n zero lt = refl
get_or-next (row ∷ links) n (suc s) lt = get_or-next links n s (omega arith)

-- where a round changes nothing, the nesting is what it has, as far as k
pub nesting_fixed : (c : Catalogue) (inner : List (Vec ℕ Global)) (n : List ℕ) → AreInnerStructs c inner → next_nestings (links_of inner) n ≡ n
    → (k s : ℕ) → s < length (links_of inner) → nesting_within k c s ≡ min k (slice_index n s)
unfolding nesting_within
nesting_fixed c inner n are fixed zero s lt = omega arith
nesting_fixed c inner n are fixed (suc k) s lt =
    let row = get_or (links_of inner) s [] in
    let is : inner_structs c s ≡ row = sym (links-inner c inner s are) in
    let cut : fold max (min k 0) (map (nesting_within k c) row) ≡ min k (fold max 0 (map (slice_index n) row)) =
    deepest_cut k 0 (nesting_within k c) (slice_index n) row (λ t e. nesting_fixed c inner n are fixed k t (links_inside c inner are s t e)) in
    let own : slice_index n s ≡ deeper_by_one n row = ap (λ (xs : List ℕ). slice_index xs s) (sym fixed) ∙ get_or-next (links_of inner) n s lt in
    let none : min k 0 ≡ 0 = omega arith in
    ap (λ (xs : List ℕ). suc (fold max 0 (map (nesting_within k c) xs))) is
    ∙ ap (λ (m : ℕ). suc (fold max m (map (nesting_within k c) row))) (sym none)
    ∙ ap suc cut
    ∙ omega (arith, own)

-- a list by its numbers
numbers_take : (xs : List ℕ) (n : ℕ) → n ≤ length xs → map (slice_index xs) (numbers_below n) ≡ take n xs
numbers_take xs zero le = refl
numbers_take xs (suc n) le =
    let next : suc n ≡ n + 1 = omega arith in
    map_push (slice_index xs) (numbers_below n) n
    ∙ ap (λ (ys : List ℕ). ys ++ slice_index xs n ∷ []) (numbers_take xs n (omega arith))
    ∙ sym (ap (λ (m : ℕ). take m xs) next ∙ take_more xs n 0 (omega arith))

pub by_numbers : (xs : List ℕ) → map (slice_index xs) (numbers_below (length xs)) ≡ xs
by_numbers xs = numbers_take xs (length xs) (omega arith) ∙ take_all (length xs) xs (omega arith)

map-map : (f : ℕ → ℕ) (g : ℕ → ℕ) (xs : List ℕ) → map f (map g xs) ≡ map (λ x. f (g x)) xs
map-map f g [] = refl
map-map f g (x ∷ xs) = ap (λ (ys : List ℕ). f (g x) ∷ ys) (map-map f g xs)

-- where a round changes nothing, the nestings are what it has, at most as many as there are structs
pub nestings_fixed : (c : Catalogue) (inner : List (Vec ℕ Global)) (n : List ℕ) (count : ℕ)
    → AreInnerStructs c inner → next_nestings (links_of inner) n ≡ n → count ≡ length c.structs
    → map (λ x. min x count) n ≡ map (nesting c) (struct_numbers c)
unfolding nesting
nestings_fixed c inner n count are fixed is =
    let len : length n ≡ length c.structs = ap length (sym fixed) ∙ length-map (links_of inner) (deeper_by_one n) ∙ links-len c inner are in
    ap (map (λ x. min x count)) (sym (by_numbers n))
    ∙ map-map (λ x. min x count) (slice_index n) (numbers_below (length n))
    ∙ ap (λ (m : ℕ). map (λ s. min (slice_index n s) count) (numbers_below m)) len
    ∙ map_same (λ s. min (slice_index n s) count) (nesting c) (length c.structs)
    (λ s lt. (let fits : s < length (links_of inner) = omega (arith, lt, links-len c inner are) in
    let cut = nesting_fixed c inner n are fixed (length c.structs) s fits in
    omega (arith, cut, is)))

-- no struct is nested deeper than it is opened
within_most : (c : Catalogue) (k : ℕ) (s : ℕ) → nesting_within k c s ≤ k
unfolding nesting_within
within_most c zero s = omega arith
within_most c (suc k) s = omega (arith, most 0 (inner_structs c s) (omega arith) (within_most c k))
  where
    most : (a : ℕ) (ts : List ℕ) → a ≤ k → ((t : ℕ) → nesting_within k c t ≤ k) → fold max a (map (nesting_within k c) ts) ≤ k
    most a [] le all = le
    most a (t ∷ ts) le all = most (max a (nesting_within k c t)) ts (omega (arith, le, all t)) all

-- the nestings after k rounds
abbrev pub nestings_within : ℕ → Catalogue → List ℕ
nestings_within k c = map (nesting_within k c) (struct_numbers c)

-- what stands at a number below n
pub at_number : (f : ℕ → ℕ) (n t : ℕ) → t < n → slice_index (map f (numbers_below n)) t ≡ f t
at_number f n t lt = get_or-by f n t 0 lt

fold_same : (f g : ℕ → ℕ) (a : ℕ) (row : List ℕ) → ((t : ℕ) → contains row t ≡ true → f t ≡ g t) → fold max a (map f row) ≡ fold max a (map g row)
fold_same f g a [] same = refl
fold_same f g a (t ∷ row) same =
    ap (λ (m : ℕ). fold max (max a m) (map f row)) (same t (or_left (eqb t t) (contains row t) (eq-eqb t t refl)))
    ∙ fold_same f g (max a (g t)) row (λ u e. same u (or_right (eqb t u) (contains row u) e))

-- a round goes one struct deeper
pub round_deeper : (c : Catalogue) (inner : List (Vec ℕ Global)) (k m : ℕ) → AreInnerStructs c inner → m ≡ k + 1
    → next_nestings (links_of inner) (nestings_within k c) ≡ nestings_within m c
unfolding nesting_within
round_deeper c inner k m are is =
    let n = next_nestings (links_of inner) (nestings_within k c) in
    let len : length n ≡ length c.structs = length-map (links_of inner) (deeper_by_one (nestings_within k c)) ∙ links-len c inner are in
    let next : m ≡ suc k = omega arith in
    sym (by_numbers n) ∙ ap (λ (x : ℕ). map (slice_index n) (numbers_below x)) len
    ∙ map_same (slice_index n) (nesting_within m c) (length c.structs)
    (λ s lt. (let fits : s < length (links_of inner) = omega (arith, lt, links-len c inner are) in
    get_or-next (links_of inner) (nestings_within k c) s fits
    ∙ ap suc (fold_same (slice_index (nestings_within k c)) (nesting_within k c) 0 (get_or (links_of inner) s [])
    (λ t e. at_number (nesting_within k c) (length c.structs) t (omega (arith, links_inside c inner are s t e, links-len c inner are))))
    ∙ ap (λ (row : List ℕ). suc (fold max 0 (map (nesting_within k c) row))) (links-inner c inner s are)
    ∙ ap (λ (x : ℕ). nesting_within x c s) (sym next)))

-- a list of one number over and over, with one more
pub replicate_push : (m x : ℕ) → replicate m x ++ x ∷ [] ≡ replicate (suc m) x
replicate_push zero x = refl
replicate_push (suc m) x = ap (λ (xs : List ℕ). x ∷ xs) (replicate_push m x)

-- before the first round
zeros_none : (c : Catalogue) (n : ℕ) → map (nesting_within 0 c) (numbers_below n) ≡ replicate n 0
unfolding nesting_within
zeros_none c zero = refl
zeros_none c (suc n) = map_push (nesting_within 0 c) (numbers_below n) n ∙ ap (λ (xs : List ℕ). xs ++ 0 ∷ []) (zeros_none c n) ∙ replicate_push n 0

pub nestings_start : (c : Catalogue) (n : ℕ) → n ≡ length c.structs → replicate n 0 ≡ nestings_within 0 c
nestings_start c n is = ap (λ (m : ℕ). replicate m 0) is ∙ sym (zeros_none c (length c.structs))

-- all nestings so far are small
pub nestings_small : (c : Catalogue) (k bound : ℕ) → k ≤ bound → All (λ n. n ≤ bound) (nestings_within k c)
nestings_small c k bound le = small (struct_numbers c)
  where
    small : (ss : List ℕ) → All (λ n. n ≤ bound) (map (nesting_within k c) ss)
    small [] = λ j d lt. absurd (omega arith)
    small (s ∷ ss) = All-cons (λ n. n ≤ bound) (nesting_within k c s) (map (nesting_within k c) ss) (omega (arith, within_most c k s)) (small ss)

pub nestings-len : (c : Catalogue) (k : ℕ) → length (nestings_within k c) ≡ length c.structs
nestings-len c k = length-map (numbers_below (length c.structs)) (nesting_within k c) ∙ length-numbers_below (length c.structs)

-- what is found by one function after another
pub find_map-map : {X : Type 0} (g : ℕ → Option X) (h : ℕ → ℕ) (f : ℕ → Option X) (xs : List ℕ) → ((x : ℕ) → f x ≡ g (h x)) → find_map f xs ≡ find_map g (map h xs)
find_map-map g h f [] same = refl
find_map-map g h f (x ∷ xs) same = ap (λ o. option_or o (find_map f xs)) (same x) ∙ ap (option_or (g (h x))) (find_map-map g h f xs same)

-- the first struct that is too deep, by the nestings
pub depth_fault-nestings : (c : Catalogue) → depth_fault c ≡ find_map fault_of_nesting (nestings_in c)
unfolding depth_fault
depth_fault-nestings c = find_map-map fault_of_nesting (nesting c) _ (struct_numbers c) (λ s. refl)

-- what is found from a place on
pub find_map-drop : {A X : Type 0} (f : A → Option X) (xs : List A) (i : ℕ) (d : A) → i < length xs → find_map f (drop i xs) ≡ option_or (f (get_or xs i d)) (find_map f (drop (i + 1) xs))
find_map-drop f xs i d lt = ap (find_map f) (drop_more xs i d lt)
