-- A search over links with marks and a stack.
use Rattle.std.proofs.Common.{◌≡◌, ◌≢◌, ℕ, zero, suc, ◌+◌, ◌<◌, Bool, true, false, eqb, List, [], ◌∷◌, ◌++◌, length, get_or, set, refl, sym, ◌∙◌, ap, arith, inl, inr, eq-eqb}
use Rattle.std.specs.Prelude.{◌||◌, ◌==◌, ◌⊎◌}
use Rattle.std.specs.List.{list_any}
use Rattle.std.proofs.lemmas.Bool.{eqb-true, or_cases, or_left, or_right}
use Rattle.std.proofs.lemmas.List.{get_or-set_same, get_or-set_other}
use Rattle.bl_format.specs.Words.{contains, numbers_reached, IsChain}
use Rattle.bl_format.proofs.Closure.{chain-numbers_reached, numbers_reached-closed, numbers_reached-chain, contains-any}
use Rattle.bl_format.proofs.NoneInItself.{contains-below}
use Rattle.std.specs.declared.vec.Vec.{Vec}
use Rattle.std.specs.declared.alloc.Global.{Global}
use Rattle.bl_layout.specs.Graph.{links_of, leads, reaches, is_marked, KeepsApart, StaysInside}

-- the links of the numbers that aren't marked
abbrev pub pending : List (List ℕ) → List Bool → ℕ
pending [] ms = 0
pending (l ∷ ls) [] = 0
pending (l ∷ ls) (true ∷ ms) = pending ls ms
pending (l ∷ ls) (false ∷ ms) = length l + pending ls ms

-- marking a number leaves its links out
pub pending-set : (ls : List (List ℕ)) (ms : List Bool) (x : ℕ) → x < length ls → x < length ms → is_marked ms x ≡ false
    → pending ls (set ms x true) + length (get_or ls x []) ≡ pending ls ms
pending-set [] ms x lt lt' e = absurd (omega arith)
pending-set (l ∷ ls) [] x lt lt' e = absurd (omega arith)
pending-set (l ∷ ls) (true ∷ ms) zero lt lt' e = absurd cc
pending-set (l ∷ ls) (false ∷ ms) zero lt lt' e = omega arith
pending-set (l ∷ ls) (true ∷ ms) (suc x) lt lt' e = pending-set ls ms x (omega arith) (omega arith) e
pending-set (l ∷ ls) (false ∷ ms) (suc x) lt lt' e = omega (arith, pending-set ls ms x (omega arith) (omega arith) e)

-- what the search keeps
pub record IsSearch (links : List (List ℕ)) (t s : ℕ) (marks : List Bool) (stack : List ℕ) : Type 0 where
  pub reached : (x : ℕ) → contains stack x ≡ true → reaches links t x ≡ true
  pub inside : (x : ℕ) → contains stack x ≡ true → x < length links
  pub closed : (x y : ℕ) → is_marked marks x ≡ true → leads links x y ≡ true → (is_marked marks y || contains stack y) ≡ true
  pub apart : is_marked marks s ≡ false
  pub start : (is_marked marks t || contains stack t) ≡ true

any-both : {A : Type 0} (p : A → Bool) (xs ys : List A) → list_any p (xs ++ ys) ≡ (list_any p xs || list_any p ys)
any-both p [] ys = refl
any-both p (x ∷ xs) ys = go (p x) (any-both p xs ys)
  where
    go : (b : Bool) → list_any p (xs ++ ys) ≡ (list_any p xs || list_any p ys) → (b || list_any p (xs ++ ys)) ≡ ((b || list_any p xs) || list_any p ys)
    go true e = refl
    go false e = e

in_both : (xs ys : List ℕ) (y : ℕ) → contains (xs ++ ys) y ≡ true → (contains xs y ≡ true) ⊎ (contains ys y ≡ true)
in_both xs ys y e = or_cases (contains xs y) (contains ys y) (sym (any-both (λ z. z == y) xs ys) ∙ e)

pub in_left : (xs ys : List ℕ) (y : ℕ) → contains xs y ≡ true → contains (xs ++ ys) y ≡ true
in_left xs ys y e = any-both (λ z. z == y) xs ys ∙ or_left (contains xs y) (contains ys y) e

pub in_right : (xs ys : List ℕ) (y : ℕ) → contains ys y ≡ true → contains (xs ++ ys) y ≡ true
in_right xs ys y e = any-both (λ z. z == y) xs ys ∙ or_right (contains xs y) (contains ys y) e

pub in_one : (x y : ℕ) → contains (x ∷ []) y ≡ true → x ≡ y
in_one x y e = elim (or_cases (eqb x y) false e) [ inl same ↦ eqb-true x y same | inr other ↦ absurd (let f : false ≡ true = other in cc) ]

pub one_in : (x : ℕ) → contains (x ∷ []) x ≡ true
one_in x = or_left (eqb x x) false (eq-eqb x x refl)

-- a number is reached from itself
pub reaches_itself : (links : List (List ℕ)) (t : ℕ) → t < length links → reaches links t t ≡ true
reaches_itself links t lt = chain-numbers_reached (leads links) (length links) (t ∷ []) t [] t (contains-below (length links) t lt) (one_in t) tt refl

-- a link further is reached
reaches_on : (links : List (List ℕ)) (t x y : ℕ) → StaysInside links → reaches links t x ≡ true → leads links x y ≡ true → reaches links t y ≡ true
reaches_on links t x y inside e link =
    numbers_reached-closed (leads links) (length links) (t ∷ []) x y (contains-below (length links) y (inside x y link))
    (contains-any (λ z. leads links z y) (numbers_reached (leads links) (length links) (length links) (t ∷ [])) x e link)

marked_more : (ms : List Bool) (x y : ℕ) → x < length ms → is_marked ms y ≡ true → is_marked (set ms x true) y ≡ true
marked_more ms x y lt e = go (eqb y x) refl
  where
    go : (b : Bool) → eqb y x ≡ b → is_marked (set ms x true) y ≡ true
    go true same = let is : y ≡ x = eqb-true y x same in rw is (get_or-set_same ms x true false lt)
    go false apart = let ne : y ≢ x = λ is. (let t : eqb y x ≡ true = eq-eqb y x is in let g : true ≡ false = sym t ∙ apart in cc) in
        get_or-set_other ms x y true false ne ∙ e

-- the search begins at one number
pub search_start : (links : List (List ℕ)) (t s : ℕ) (marks : List Bool) → t < length links → KeepsApart links marks s → IsSearch links t s marks (t ∷ [])
search_start links t s marks lt k = record {
  reached = λ x e. let is : t ≡ x = in_one t x e in rw (← is) (reaches_itself links t lt);
  inside = λ x e. let is : t ≡ x = in_one t x e in rw (← is) lt;
  closed = λ x y m l. or_left (is_marked marks y) (contains (t ∷ []) y) (k.closed x y m l);
  apart = k.apart;
  start = or_right (is_marked marks t) (contains (t ∷ []) t) (one_in t);
}

-- a number that is marked is passed over
pub search_skip : (links : List (List ℕ)) (t s : ℕ) (marks : List Bool) (rest : List ℕ) (x : ℕ)
    → IsSearch links t s marks (rest ++ x ∷ []) → is_marked marks x ≡ true → IsSearch links t s marks rest
search_skip links t s marks rest x h marked = record {
  reached = λ y e. h.reached y (in_left rest (x ∷ []) y e);
  inside = λ y e. h.inside y (in_left rest (x ∷ []) y e);
  closed = λ a b m l. keep b (h.closed a b m l);
  apart = h.apart;
  start = keep t h.start;
}
  where
    keep : (b : ℕ) → (is_marked marks b || contains (rest ++ x ∷ []) b) ≡ true → (is_marked marks b || contains rest b) ≡ true
    keep b e = elim (or_cases (is_marked marks b) (contains (rest ++ x ∷ []) b) e) [
      | inl m ↦ or_left (is_marked marks b) (contains rest b) m
      | inr held ↦ elim (in_both rest (x ∷ []) b held) [
        | inl r ↦ or_right (is_marked marks b) (contains rest b) r
        | inr o ↦ (let is : x ≡ b = in_one x b o in or_left (is_marked marks b) (contains rest b) (rw (← is) marked))
      ]
    ]

-- a number that isn't marked is marked, and its links are searched
pub search_mark : (links : List (List ℕ)) (t s : ℕ) (marks : List Bool) (rest : List ℕ) (x : ℕ)
    → StaysInside links → IsSearch links t s marks (rest ++ x ∷ []) → x < length marks → (x ≡ s → ⊥)
    → IsSearch links t s (set marks x true) (rest ++ get_or links x [])
search_mark links t s marks rest x stays h lt apart = record {
  reached = λ y e. elim (in_both rest (get_or links x []) y e) [
    | inl r ↦ h.reached y (in_left rest (x ∷ []) y r)
    | inr link ↦ reaches_on links t x y stays (h.reached x (in_right rest (x ∷ []) x (one_in x))) link
  ];
  inside = λ y e. elim (in_both rest (get_or links x []) y e) [
    | inl r ↦ h.inside y (in_left rest (x ∷ []) y r)
    | inr link ↦ stays x y link
  ];
  closed = λ a b m l. closed a b m l (eqb a x) refl;
  apart = (let ne : s ≢ x = λ is. apart (sym is) in get_or-set_other marks x s true false ne ∙ h.apart);
  start = keep t h.start;
}
  where
    keep : (b : ℕ) → (is_marked marks b || contains (rest ++ x ∷ []) b) ≡ true → (is_marked (set marks x true) b || contains (rest ++ get_or links x []) b) ≡ true
    keep b e = elim (or_cases (is_marked marks b) (contains (rest ++ x ∷ []) b) e) [
      | inl m ↦ or_left (is_marked (set marks x true) b) (contains (rest ++ get_or links x []) b) (marked_more marks x b lt m)
      | inr held ↦ elim (in_both rest (x ∷ []) b held) [
        | inl r ↦ or_right (is_marked (set marks x true) b) (contains (rest ++ get_or links x []) b) (in_left rest (get_or links x []) b r)
        | inr o ↦ (let is : x ≡ b = in_one x b o in or_left (is_marked (set marks x true) b) (contains (rest ++ get_or links x []) b) (rw (← is) (get_or-set_same marks x true false lt)))
      ]
    ]

    closed : (a b : ℕ) → is_marked (set marks x true) a ≡ true → leads links a b ≡ true → (same : Bool) → eqb a x ≡ same
        → (is_marked (set marks x true) b || contains (rest ++ get_or links x []) b) ≡ true
    closed a b m l true e =
        let is : a ≡ x = eqb-true a x e in
        or_right (is_marked (set marks x true) b) (contains (rest ++ get_or links x []) b) (in_right rest (get_or links x []) b (rw is at l))
    closed a b m l false e =
        let ne : a ≢ x = λ is. (let t : eqb a x ≡ true = eq-eqb a x is in let g : true ≡ false = sym t ∙ e in cc) in
        keep b (h.closed a b (sym (get_or-set_other marks x a true false ne) ∙ m) l)

chain_marked : (links : List (List ℕ)) (marks : List Bool) (s x : ℕ) (ys : List ℕ) (end : ℕ)
    → KeepsApart links marks s → is_marked marks x ≡ true → IsChain (leads links) x ys end → is_marked marks end ≡ true
chain_marked links marks s x [] end k m chain = rw (← chain) m
chain_marked links marks s x (y ∷ ys) end k m chain = chain_marked links marks s y ys end k (k.closed x y m chain.0) chain.1

-- what no chain reaches from a marked number
pub apart_unreached : (links : List (List ℕ)) (marks : List Bool) (s t : ℕ) → KeepsApart links marks s → is_marked marks t ≡ true → reaches links t s ≡ false
apart_unreached links marks s t k m = go (reaches links t s) refl
  where
    go : (b : Bool) → reaches links t s ≡ b → b ≡ false
    go false e = refl
    go true e =
        let r = numbers_reached-chain (leads links) (length links) (t ∷ []) (length links) s e in
        let root : t ≡ r.root = in_one t r.root r.is_root in
        let marked : is_marked marks s ≡ true = chain_marked links marks s r.root r.others s k (rw (← root) m) r.chain in
        sym marked ∙ k.apart

-- the search ends
pub search_end : (links : List (List ℕ)) (t s : ℕ) (marks : List Bool) → IsSearch links t s marks [] → KeepsApart links marks s
search_end links t s marks h = record {
  closed = λ x y m l. none (is_marked marks y) (h.closed x y m l);
  apart = h.apart;
}
  where
    none : (b : Bool) → (b || false) ≡ true → b ≡ true
    none true e = refl
    none false e = e

pub search_unreached : (links : List (List ℕ)) (t s : ℕ) (marks : List Bool) → IsSearch links t s marks [] → reaches links t s ≡ false
search_unreached links t s marks h = apart_unreached links marks s t (search_end links t s marks h) (none (is_marked marks t) h.start)
  where
    none : (b : Bool) → (b || false) ≡ true → b ≡ true
    none true e = refl
    none false e = e

-- the number on top of the stack is one of the links
pub top_inside : (links : List (List ℕ)) (t s : ℕ) (marks : List Bool) (stack rest : List ℕ) (x : ℕ)
    → IsSearch links t s marks stack → stack ≡ rest ++ x ∷ [] → x < length links
top_inside links t s marks stack rest x h is = h.inside x (rw is (in_right rest (x ∷ []) x (one_in x)))

-- the links of a number as the code has them
pub links_at : (inner : List (Vec ℕ Global)) (x : ℕ) (v : Vec ℕ Global) → x < length inner → v ≡ get_or inner x v → v.items ≡ get_or (links_of inner) x []
links_at inner x v lt is = ap (λ (u : Vec ℕ Global). u.items) is ∙ at inner x lt
  where
    at : (us : List (Vec ℕ Global)) (n : ℕ) → n < length us → (get_or us n v).items ≡ get_or (links_of us) n []
    at [] n lt = absurd (omega arith)
    at (u ∷ us) zero lt = refl
    at (u ∷ us) (suc n) lt = at us n (omega arith)

pub length-links_of : (inner : List (Vec ℕ Global)) → length (links_of inner) ≡ length inner
length-links_of [] = refl
length-links_of (u ∷ us) = omega (arith, length-links_of us)
