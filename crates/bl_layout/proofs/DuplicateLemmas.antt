-- Marks of the identifiers that stood before in a struct.
use Rattle.std.proofs.Common.{◌≡◌, ◌≢◌, ℕ, suc, ◌+◌, ◌≤◌, ◌<◌, Bool, true, false, eqb, List, [], ◌∷◌, ◌++◌, length, get_or, set, refl, sym, ◌∙◌, ap, arith, eq-eqb}
use Rattle.std.specs.Prelude.{◌==◌, ◌||◌, All, map, slice_index}
use Rattle.std.specs.List.{list_any}
use Rattle.std.proofs.lemmas.Bool.{eqb-true}
use Rattle.std.proofs.lemmas.List.{get_or-set_same, get_or-set_other, length-set, map_push}
use Rattle.bl_format.specs.Words.{contains, numbers_below}
use Rattle.bl_format.specs.declared.catalogue.MemberEntry.{MemberEntry}
use Rattle.bl_layout.specs.Identifiers.{IsFirstDuplicate, number_of_member, stood_before}

-- the marks after the first k members: those of their identifiers have this mark
pub record AreMarks (numbers : List ℕ) (members : List MemberEntry) (mark : ℕ) (marks : List ℕ) (k : ℕ) : Type 0 where
  pub low : All (λ m. m ≤ mark) marks
  pub seen : (i : ℕ) → i < length marks → (slice_index marks i == mark) ≡ contains (map (number_of_member numbers members) (numbers_below k)) i
  pub none : (j : ℕ) → j < k → stood_before numbers members j ≡ false

pub eqb_false : (a b : ℕ) → (a ≡ b → ⊥) → eqb a b ≡ false
eqb_false a b ne = go (eqb a b) refl
  where
    go : (x : Bool) → eqb a b ≡ x → eqb a b ≡ false
    go true e = absurd (ne (eqb-true a b e))
    go false e = e

pub AreMarks-none : (numbers : List ℕ) (members : List MemberEntry) (mark : ℕ) (marks : List ℕ)
    → All (λ m. m < mark) marks → AreMarks numbers members mark marks 0
AreMarks-none numbers members mark marks fresh = record {
  low = λ i d lt. let small = fresh i d lt in omega (arith, small);
  seen = λ i lt. eqb_false (slice_index marks i) mark (λ e. let small = fresh i 0 lt in omega (arith, small, e));
  none = λ j lt. absurd (omega arith);
}

pub any-append : {A : Type 0} (p : A → Bool) (xs : List A) (x : A) → list_any p (xs ++ x ∷ []) ≡ (list_any p xs || p x)
any-append p [] x = or_false (p x)
  where
    or_false : (b : Bool) → (b || false) ≡ b
    or_false true = refl
    or_false false = refl
any-append p (y ∷ ys) x = go (p y) (any-append p ys x)
  where
    go : (b : Bool) → list_any p (ys ++ x ∷ []) ≡ (list_any p ys || p x) → (b || list_any p (ys ++ x ∷ [])) ≡ ((b || list_any p ys) || p x)
    go true e = refl
    go false e = e

pub contains-more : (f : ℕ → ℕ) (k i : ℕ) → contains (map f (numbers_below (suc k))) i ≡ (contains (map f (numbers_below k)) i || (f k == i))
contains-more f k i = ap (λ (xs : List ℕ). contains xs i) (map_push f (numbers_below k) k) ∙ any-append (λ y. y == i) (map f (numbers_below k)) (f k)

-- one member more, whose identifier didn't stand before
pub AreMarks-push : (numbers : List ℕ) (members : List MemberEntry) (mark : ℕ) (marks : List ℕ) (k number : ℕ)
    → number ≡ number_of_member numbers members k → number < length marks → (slice_index marks number ≡ mark → ⊥)
    → AreMarks numbers members mark marks k → AreMarks numbers members mark (set marks number mark) (k + 1)
AreMarks-push numbers members mark marks k number is lt fresh m = record {
  low = λ i d small. low i d small (eqb i number) refl;
  seen = λ i small. seen i small (eqb number i) refl;
  none = λ j small. none j small (eqb j k) refl;
}
  where
    f : ℕ → ℕ
    f = number_of_member numbers members

    len : length (set marks number mark) ≡ length marks
    len = length-set marks number mark

    next : k + 1 ≡ suc k
    next = omega arith

    low : (i d : ℕ) → i < length (set marks number mark) → (b : Bool) → eqb i number ≡ b → get_or (set marks number mark) i d ≤ mark
    low i d small true e = let at : i ≡ number = eqb-true i number e in rw (at, get_or-set_same marks number mark d lt) (omega arith)
    low i d small false e = let apart : i ≢ number = λ at. (let t : eqb i number ≡ true = eq-eqb i number at in let g : true ≡ false = sym t ∙ e in cc) in
        rw (get_or-set_other marks number i mark d apart) (m.low i d (omega (arith, len)))

    seen : (i : ℕ) → i < length (set marks number mark) → (b : Bool) → eqb number i ≡ b
        → (slice_index (set marks number mark) i == mark) ≡ contains (map f (numbers_below (k + 1))) i
    seen i small true e =
        let at : number ≡ i = eqb-true number i e in
        let here : (slice_index (set marks number mark) i == mark) ≡ true = rw (← at, get_or-set_same marks number mark 0 lt) (eq-eqb mark mark refl) in
        rw (here, next, contains-more f k i, ← is, e) (sym (or_true (contains (map f (numbers_below k)) i)))
      where
        or_true : (b : Bool) → (b || true) ≡ true
        or_true true = refl
        or_true false = refl
    seen i small false e =
        let apart : i ≢ number = λ at. (let t : eqb number i ≡ true = eq-eqb number i (sym at) in let g : true ≡ false = sym t ∙ e in cc) in
        rw (get_or-set_other marks number i mark 0 apart, m.seen i (omega (arith, len)), next, contains-more f k i, ← is, e) (sym (or_false (contains (map f (numbers_below k)) i)))
      where
        or_false : (b : Bool) → (b || false) ≡ b
        or_false true = refl
        or_false false = refl

    none : (j : ℕ) → j < k + 1 → (b : Bool) → eqb j k ≡ b → stood_before numbers members j ≡ false
    none j small true e =
        let at : j ≡ k = eqb-true j k e in
        rw (at, ← is) (sym (m.seen number lt) ∙ eqb_false (slice_index marks number) mark fresh)
    none j small false e =
        let apart : j ≢ k = λ at. (let t : eqb j k ≡ true = eq-eqb j k at in let g : true ≡ false = sym t ∙ e in cc) in
        m.none j (omega arith)

-- the first member that is marked stood before
pub AreMarks-found : (numbers : List ℕ) (members : List MemberEntry) (mark : ℕ) (marks : List ℕ) (k number : ℕ)
    → number ≡ number_of_member numbers members k → number < length marks → slice_index marks number ≡ mark
    → AreMarks numbers members mark marks k → k < length members → IsFirstDuplicate numbers members k
AreMarks-found numbers members mark marks k number is lt marked m small = record {
  before = m.none;
  at = λ inside. rw (← is) (sym (m.seen number lt) ∙ eq-eqb (slice_index marks number) mark marked);
  within = omega arith;
}
