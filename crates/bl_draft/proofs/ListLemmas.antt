-- Lists by the numbers below n.
use Rattle.std.proofs.Common.{◌≡◌, ◌<◌, inl, inr, ℕ, zero, suc, ◌+◌, Bool, true, false, cond, List, [], ◌∷◌, ◌++◌, length, get_or, take, Option, Some, None, refl, sym, ap, ◌∙◌, arith}
use Rattle.std.specs.Prelude.{map, filter, count_by}
use Rattle.std.specs.Option.{option_or}
use Rattle.std.proofs.lemmas.Bool.{cases_lt}
use Rattle.std.proofs.lemmas.List.{take_more, get_or-map, map_more, map_push, get_or_push, get_or_append_left}
use Rattle.std.proofs.lemmas.List.Elements.{filter-append}
use Rattle.std.proofs.lemmas.List.Sums.{length-filter}
use Rattle.bl_format.specs.Words.{numbers_below, last_from, last_place}
use Rattle.bl_selection.proofs.EntriesAsNodes.{length-numbers_below}

-- number k stands at place k
pub get_or-numbers_below : (n k d : ℕ) → k < n → get_or (numbers_below n) k d ≡ k
get_or-numbers_below zero k d lt = absurd (omega arith)
get_or-numbers_below (suc n) k d lt = elim (cases_lt k n) [
  | inl less ↦ (get_or_append_left (numbers_below n) (n ∷ []) d k (omega (arith, length-numbers_below n))
      ∙ get_or-numbers_below n k d less)
  | inr most ↦ (let is : n ≡ k = omega arith in get_or_push (numbers_below n) n d k (length-numbers_below n ∙ is) ∙ is)
]

-- what a function gives for number k stands at place k
pub get_or-by : {X : Type 0} (f : ℕ → X) (n k : ℕ) (d : X) → k < n → get_or (map f (numbers_below n)) k d ≡ f k
get_or-by f n k d lt =
    get_or-map f (numbers_below n) k 0 d (omega (arith, length-numbers_below n)) ∙ ap f (get_or-numbers_below n k 0 lt)

-- one number more
pub map-numbers : {X : Type 0} (f : ℕ → X) (n : ℕ)
    → map f (numbers_below (n + 1)) ≡ map f (numbers_below n) ++ f n ∷ []
map-numbers f n =
    let next : n + 1 ≡ suc n = omega arith in
    ap (λ m. map f (numbers_below m)) next ∙ map_push f (numbers_below n) n

-- what a function gives for the first elements, with one element more
pub map-more : {X Y : Type 0} (f : X → Y) (xs : List X) (i : ℕ) (ys : List Y) (y : Y) (d : X) → i < length xs
    → y ≡ f (get_or xs i d) → ys ≡ map f (take i xs) → ys ++ y ∷ [] ≡ map f (take (i + 1) xs)
map-more f xs i ys y d lt is so_far =
    ap (λ zs. zs ++ y ∷ []) so_far ∙ ap (λ z. map f (take i xs) ++ z ∷ []) is ∙ sym (map_more f xs i d lt)

-- tests that agree below n let the same numbers through
pub filter-same : (p q : ℕ → Bool) (n : ℕ) → ((k : ℕ) → k < n → p k ≡ q k)
    → filter p (numbers_below n) ≡ filter q (numbers_below n)
filter-same p q zero same = refl
filter-same p q (suc n) same =
    filter-append p (numbers_below n) (n ∷ [])
    ∙ ap (λ ns. ns ++ filter p (n ∷ [])) (filter-same p q n (λ k lt. same k (omega arith)))
    ∙ ap (λ b. filter q (numbers_below n) ++ cond b (n ∷ []) []) (same n (omega arith))
    ∙ sym (filter-append q (numbers_below n) (n ∷ []))

-- and as many
pub count-same : (p q : ℕ → Bool) (n : ℕ) → ((k : ℕ) → k < n → p k ≡ q k)
    → count_by p (numbers_below n) ≡ count_by q (numbers_below n)
count-same p q n same =
    sym (length-filter p (numbers_below n)) ∙ ap (λ (ns : List ℕ). length ns) (filter-same p q n same)
    ∙ length-filter q (numbers_below n)

chosen : {X : Type 0} (o : Option X) (b c : Bool) (x y : X)
    → option_or (cond b (Some x) o) (cond c (Some y) None) ≡ cond b (Some x) (option_or o (cond c (Some y) None))
chosen o true c x y = refl
chosen o false c x y = refl

last_from-push : {X : Type 0} (p : X → Bool) (i : ℕ) (xs : List X) (x : X)
    → last_from p i (xs ++ x ∷ []) ≡ cond (p x) (Some (i + length xs)) (last_from p i xs)
last_from-push p i [] x = let here : i ≡ i + 0 = omega arith in ap (λ n. cond (p x) (Some n) None) here
last_from-push p i (y ∷ ys) x =
    let far : suc i + length ys ≡ i + suc (length ys) = omega arith in
    let own = cond (p y) (Some i) None in
    ap (λ o. option_or o own) (last_from-push p (suc i) ys x)
    ∙ chosen (last_from p (suc i) ys) (p x) (p y) (suc i + length ys) i
    ∙ ap (λ n. cond (p x) (Some n) (option_or (last_from p (suc i) ys) own)) far

-- the last element that passes, where there is one element more
pub last_place-push : {X : Type 0} (p : X → Bool) (xs : List X) (x : X)
    → last_place p (xs ++ x ∷ []) ≡ cond (p x) (Some (length xs)) (last_place p xs)
last_place-push p xs x =
    let here : 0 + length xs ≡ length xs = omega arith in
    last_from-push p 0 xs x ∙ ap (λ n. cond (p x) (Some n) (last_place p xs)) here

-- ---- lists that are the same

-- with one element more the beginnings are the same
pub same-more : {X : Type 0} (xs ys : List X) (k : ℕ) (d e : X) → k < length xs → k < length ys → get_or xs k d ≡ get_or ys k e
    → take k xs ≡ take k ys → take (k + 1) xs ≡ take (k + 1) ys
same-more xs ys k d e lt below same so_far =
    take_more xs k d lt ∙ ap (λ zs. zs ++ get_or xs k d ∷ []) so_far
    ∙ ap (λ z. take k ys ++ z ∷ []) same ∙ sym (take_more ys k e below)
