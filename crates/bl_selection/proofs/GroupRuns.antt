-- Where groups don't fall from number to number, those of some rising numbers that are in one group stand side by side.
use Rattle.std.proofs.Common.{◌≡◌, ℕ, zero, suc, ◌+◌, ◌<◌, ◌≤◌, Bool, true, false, cond, not, All, List, [], ◌∷◌, ◌++◌, length, get_or, drop, take, Option, Some, None, refl, sym, ap, subst, ◌∙◌, arith, inl, inr, eqb-true}
use Rattle.std.specs.Prelude.{◌==◌, ◌&&◌, nat_lt, map, filter, count_by}
use Rattle.std.specs.List.{position_from}
use Rattle.std.specs.Option.{option_or}
use Rattle.std.proofs.lemmas.Bool.{ltb-true, ltb-false, le-ltb, eqb-false, eq-eqb, ne_eqb, cases_lt}
use Rattle.std.proofs.lemmas.List.{get_or_push, get_or_append_left, length-append}
use Rattle.std.proofs.lemmas.List.Elements.{All-nil, All-cons, All-head, All-tail, All-append, All-filter, All-weaker, filter-append}
use Rattle.std.proofs.lemmas.List.Sums.{length-filter, sum_by-take-le}
use Rattle.bl_format.specs.Words.{numbers_below, last_from}
use Rattle.bl_format.specs.Nodes.{group_of, is_data}
use Rattle.bl_selection.specs.declared.draft.Entry.TheVariants as entries
use Rattle.bl_selection.specs.Selection.{head_of}
use Rattle.bl_selection.specs.Drafts.{are_sources}
use Rattle.bl_selection.proofs.CellsFit.{numbers_below-lt}

-- ---- what passes a test

-- where no element passes, none is left
pub filter-none : {X : Type 0} (p : X → Bool) (xs : List X) → All (λ x. p x ≡ false) xs → filter p xs ≡ []
filter-none p [] none = refl
filter-none p (x ∷ xs) none =
    ap (λ b. cond b (x ∷ filter p xs) (filter p xs)) (All-head (λ y. p y ≡ false) x xs none)
    ∙ filter-none p xs (All-tail (λ y. p y ≡ false) x xs none)

both_tests : {X : Type 0} (p : X → Bool) (a b : Bool) (x : X) (us vs : List X) → us ≡ filter p vs → p x ≡ a
    → cond (a && b) (x ∷ us) us ≡ filter p (cond b (x ∷ vs) vs)
both_tests p true true x us vs is own = ap (λ ys. x ∷ ys) is ∙ sym (ap (λ c. cond c (x ∷ filter p vs) (filter p vs)) own)
both_tests p false true x us vs is own = is ∙ sym (ap (λ c. cond c (x ∷ filter p vs) (filter p vs)) own)
both_tests p true false x us vs is own = is
both_tests p false false x us vs is own = is

-- what passes two tests is what passes one of what passes the other
pub filter-both : {X : Type 0} (p q : X → Bool) (xs : List X) → filter (λ x. p x && q x) xs ≡ filter p (filter q xs)
filter-both p q [] = refl
filter-both p q (x ∷ xs) = both_tests p (p x) (q x) x (filter (λ y. p y && q y) xs) (filter q xs) (filter-both p q xs) refl

-- where there is no last element that passes, none passes
pub last_from-none : {X : Type 0} (p : X → Bool) (i : ℕ) (xs : List X) → last_from p i xs ≡ None → filter p xs ≡ []
last_from-none p i [] is = refl
last_from-none {X} p i (x ∷ xs) is = by (last_from p (suc i) xs) (p x) refl is (last_from-none p (suc i) xs)
  where
    by : (o : Option ℕ) (b : Bool) → last_from p (suc i) xs ≡ o → option_or o (cond b (Some i) None) ≡ None
        → (last_from p (suc i) xs ≡ None → filter p xs ≡ []) → cond b (x ∷ filter p xs) (filter p xs) ≡ []
    by (Some u) b later is rest = absurd (cc)
    by None true later is rest = absurd (cc)
    by None false later is rest = rest later

-- ---- rising numbers

-- each number is below all later ones
abbrev pub Rises : List ℕ → Type 0
Rises [] = Unit {0}
Rises (x ∷ xs) = All (λ y. x < y) xs × Rises xs

Rises-push : (xs : List ℕ) (n : ℕ) → All (λ x. x < n) xs → Rises xs → Rises (xs ++ n ∷ [])
Rises-push [] n below rise = (All-nil (λ y. n < y), tt)
Rises-push (x ∷ xs) n below rise = (
  All-append (λ y. x < y) xs (n ∷ []) rise.0 (All-cons (λ y. x < y) n [] (All-head (λ y. y < n) x xs below) (All-nil (λ y. x < y))),
  Rises-push xs n (All-tail (λ y. y < n) x xs below) rise.1,
)

pub Rises-numbers_below : (n : ℕ) → Rises (numbers_below n)
Rises-numbers_below zero = tt
Rises-numbers_below (suc n) = Rises-push (numbers_below n) n (numbers_below-lt n) (Rises-numbers_below n)

one_passes : (b : Bool) (x : ℕ) (xs : List ℕ) → All (λ y. x < y) xs → Rises xs → Rises (cond b (x ∷ xs) xs)
one_passes true x xs above rise = (above, rise)
one_passes false x xs above rise = rise

pub Rises-filter : (p : ℕ → Bool) (xs : List ℕ) → Rises xs → Rises (filter p xs)
Rises-filter p [] rise = tt
Rises-filter p (x ∷ xs) rise = one_passes (p x) x (filter p xs) (All-filter p (λ y. x < y) xs rise.0) (Rises-filter p xs rise.1)

-- before the number that stands at place e of those below n that pass, e numbers pass
pub passed_before : (p : ℕ → Bool) (n e : ℕ) → e < length (filter p (numbers_below n))
    → count_by p (numbers_below (get_or (filter p (numbers_below n)) e 0)) ≡ e
passed_before p zero e lt = absurd (omega arith)
passed_before p (suc n) e lt =
    let all : filter p (numbers_below (suc n)) ≡ filter p (numbers_below n) ++ cond (p n) (n ∷ []) [] = filter-append p (numbers_below n) (n ∷ []) in
    let long = ap (λ (ks : List ℕ). length ks) all in
    let at = ap (λ (ks : List ℕ). get_or ks e 0) all in
    elim (cases_lt e (length (filter p (numbers_below n)))) [
      | inl less ↦ ap (λ k. count_by p (numbers_below k)) (at ∙ get_or_append_left (filter p (numbers_below n)) (cond (p n) (n ∷ []) []) 0 e less) ∙ passed_before p n e less
      | inr most ↦ last (p n) long at most
    ]
  where
    last : (b : Bool) → length (filter p (numbers_below (suc n))) ≡ length (filter p (numbers_below n) ++ cond b (n ∷ []) [])
        → get_or (filter p (numbers_below (suc n))) e 0 ≡ get_or (filter p (numbers_below n) ++ cond b (n ∷ []) []) e 0
        → length (filter p (numbers_below n)) ≤ e → count_by p (numbers_below (get_or (filter p (numbers_below (suc n))) e 0)) ≡ e
    last true long at most =
        let is : length (filter p (numbers_below n)) ≡ e = omega (arith, lt, long, most, length-append (filter p (numbers_below n)) (n ∷ [])) in
        ap (λ k. count_by p (numbers_below k)) (at ∙ get_or_push (filter p (numbers_below n)) n 0 e is)
        ∙ sym (length-filter p (numbers_below n)) ∙ is
    last false long at most = absurd (omega (arith, lt, long, most, length-append (filter p (numbers_below n)) []))

-- ---- groups

-- where a number stands in its group: its place among the group's numbers, by how many numbers of lower groups there are
pub record InGroup (n k e : ℕ) (same lower : List ℕ) : Type 0 where
  pub place : ℕ
  pub found : position_from (λ m. m == n) k same ≡ Some (k + place)
  pub is : e ≡ length lower + place

-- those of group v among some numbers, by the group of each number
abbrev pub numbers_in : (ℕ → ℕ) → ℕ → List ℕ → List ℕ
numbers_in g v xs = filter (λ m. g m == v) xs

-- those of lower groups
abbrev pub numbers_under : (ℕ → ℕ) → ℕ → List ℕ → List ℕ
numbers_under g v xs = filter (λ m. nat_lt (g m) v) xs

module _ (g : ℕ → ℕ) (rise : (a b : ℕ) → a ≤ b → g a ≤ g b) (v : ℕ) where
  none_lower : (x : ℕ) (xs : List ℕ) → All (λ y. x < y) xs → v ≤ g x → numbers_under g v xs ≡ []
  none_lower x xs above le =
      filter-none (λ m. nat_lt (g m) v) xs
      (All-weaker (λ y. x < y) (λ y. nat_lt (g y) v ≡ false) (λ y lt. le-ltb (g y) v (omega (arith, le, rise x y (omega (arith, lt))))) xs above)

  none_same : (x : ℕ) (xs : List ℕ) → All (λ y. x < y) xs → v < g x → numbers_in g v xs ≡ []
  none_same x xs above less =
      filter-none (λ m. g m == v) xs
      (All-weaker (λ y. x < y) (λ y. (g y == v) ≡ false) (λ y lt. ne_eqb (g y) v (λ is. absurd (omega (arith, is, less, rise x y (omega (arith, lt)))))) xs above)

  -- the numbers of the group stand side by side behind those of lower groups
  pub side_by_side : (xs : List ℕ) → Rises xs
      → are_sources 0 (numbers_in g v xs) (drop (length (numbers_under g v xs)) (map (entries.Source 0) xs)) ≡ true
  side_by_side [] h = refl
  side_by_side (x ∷ xs) h = by (g x == v) (nat_lt (g x) v) refl refl (side_by_side xs h.1)
    where
      by : (same lower : Bool) → (g x == v) ≡ same → nat_lt (g x) v ≡ lower
          → are_sources 0 (numbers_in g v xs) (drop (length (numbers_under g v xs)) (map (entries.Source 0) xs)) ≡ true
          → are_sources 0 (cond same (x ∷ numbers_in g v xs) (numbers_in g v xs)) (drop (length (cond lower (x ∷ numbers_under g v xs) (numbers_under g v xs))) (map (entries.Source 0) (x ∷ xs))) ≡ true
      by true true own under later = absurd (omega (arith, eqb-true (g x) v own, ltb-true (g x) v under))
      by true false own under later =
          let none : numbers_under g v xs ≡ [] = none_lower x xs h.0 (omega (arith, eqb-true (g x) v own)) in
          let rest : are_sources 0 (numbers_in g v xs) (map (entries.Source 0) xs) ≡ true = ap (λ (ys : List ℕ). are_sources 0 (numbers_in g v xs) (drop (length ys) (map (entries.Source 0) xs))) (sym none) ∙ later in
          ap (λ (ys : List ℕ). are_sources 0 (x ∷ numbers_in g v xs) (drop (length ys) (map (entries.Source 0) (x ∷ xs)))) none
          ∙ ap (λ b. b && are_sources 0 (numbers_in g v xs) (map (entries.Source 0) xs)) (eq-eqb x x refl) ∙ rest
      by false true own under later = later
      by false false own under later =
          let none : numbers_in g v xs ≡ [] = none_same x xs h.0 (omega (arith, eqb-false (g x) v own, ltb-false (g x) v under)) in
          ap (λ ys. are_sources 0 ys (drop (length (numbers_under g v xs)) (map (entries.Source 0) (x ∷ xs)))) none

  -- a number of the group at place e stands behind those of lower groups and those of the group before it
  pub in_group : (n : ℕ) → g n ≡ v → (xs : List ℕ) (k e : ℕ) → Rises xs → e < length xs → get_or xs e 0 ≡ n
      → InGroup n k e (numbers_in g v xs) (numbers_under g v xs)
  in_group n group [] k e h lt is = absurd (omega arith)
  in_group n group (x ∷ xs) k zero h lt is = by (g x == v) (nat_lt (g x) v) refl refl
    where
      of_group : g x ≡ v
      of_group = ap g is ∙ group

      by : (same lower : Bool) → (g x == v) ≡ same → nat_lt (g x) v ≡ lower
          → InGroup n k 0 (cond same (x ∷ numbers_in g v xs) (numbers_in g v xs)) (cond lower (x ∷ numbers_under g v xs) (numbers_under g v xs))
      by true true own under = absurd (omega (arith, of_group, ltb-true (g x) v under))
      by false lower own under = absurd (omega (arith, of_group, eqb-false (g x) v own))
      by true false own under =
          let none : numbers_under g v xs ≡ [] = none_lower x xs h.0 (omega (arith, of_group)) in
          let at : k ≡ k + 0 = omega arith in
          record {
            place = 0;
            found = ap (λ b. cond b (Some k) (position_from (λ m. m == n) (k + 1) (numbers_in g v xs))) (eq-eqb x n is) ∙ ap Some at;
            is = sym (ap (λ (ys : List ℕ). length ys + 0) none);
          }
  in_group n group (x ∷ xs) k (suc e) h lt is =
      by (g x == v) (nat_lt (g x) v) refl refl (in_group n group xs k e h.1 (omega (arith, lt)) is) (in_group n group xs (k + 1) e h.1 (omega (arith, lt)) is)
    where
      below : x < n
      below = subst (λ (m : ℕ). x < m) is (h.0 e 0 (omega (arith, lt)))

      other : (x == n) ≡ false
      other = ne_eqb x n (λ same. absurd (omega (arith, same, below)))

      by : (same lower : Bool) → (g x == v) ≡ same → nat_lt (g x) v ≡ lower
          → InGroup n k e (numbers_in g v xs) (numbers_under g v xs) → InGroup n (k + 1) e (numbers_in g v xs) (numbers_under g v xs)
          → InGroup n k (suc e) (cond same (x ∷ numbers_in g v xs) (numbers_in g v xs)) (cond lower (x ∷ numbers_under g v xs) (numbers_under g v xs))
      by true true own under here later = absurd (omega (arith, eqb-true (g x) v own, ltb-true (g x) v under))
      by true false own under here later =
          let at : (k + 1) + later.place ≡ k + suc later.place = omega arith in
          let later_is = later.is in
          record {
            place = suc later.place;
            found = ap (λ b. cond b (Some k) (position_from (λ m. m == n) (k + 1) (numbers_in g v xs))) other ∙ later.found ∙ ap Some at;
            is = omega (arith, later_is);
          }
      by false true own under here later =
          let here_is = here.is in
          record { place = here.place; found = here.found; is = omega (arith, here_is) }
      by false false own under here later =
          absurd (omega (arith, eqb-false (g x) v own, ltb-false (g x) v under, group, rise x n (omega (arith, below))))

-- ---- the groups of nodes

-- groups don't fall from node to node
pub group_of-rise : (codes : List (List ℕ)) (a b : ℕ) → a ≤ b → group_of codes a ≤ group_of codes b
group_of-rise codes a b le =
    let front : take (suc a) (take (suc b) codes) ≡ take (suc a) codes = taken (suc a) (suc b) codes (omega (arith, le)) in
    let part : count_by (λ code. not (is_data code)) (take (suc a) (take (suc b) codes)) ≤ group_of codes b = sum_by-take-le (λ (code : List ℕ). cond (not (is_data code)) 1 0) (take (suc b) codes) (suc a) in
    subst (λ (ys : List (List ℕ)). count_by (λ code. not (is_data code)) ys ≤ group_of codes b) front part
  where
    taken : (i j : ℕ) (xs : List (List ℕ)) → i ≤ j → take i (take j xs) ≡ take i xs
    taken zero j xs le = refl
    taken (suc i) zero xs le = absurd (omega (arith, le))
    taken (suc i) (suc j) [] le = refl
    taken (suc i) (suc j) (x ∷ xs) le = ap (λ ys. x ∷ ys) (taken i j xs (omega (arith, le)))

-- a node whose group has no head is in group 0
pub group_of-no_head : (codes : List (List ℕ)) (n : ℕ) → head_of codes n ≡ None → group_of codes n ≡ 0
group_of-no_head codes n none =
    sym (length-filter (λ code. not (is_data code)) (take (suc n) codes))
    ∙ ap (λ (ks : List (List ℕ)). length ks) (last_from-none (λ code. not (is_data code)) 0 (take (suc n) codes) none)
