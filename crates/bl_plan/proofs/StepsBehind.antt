-- What steps write one behind another, and what joined ones do.
use Rattle.std.proofs.Common.{◌≡◌, ℕ, zero, suc, ◌+◌, ◌-◌, ◌*◌, ◌^◌, ◌≤◌, ◌<◌, Bool, true, false, cond, All, List, [], ◌∷◌, ◌++◌, length, refl, sym, ap, subst, ◌∙◌, append_assoc, append-nil, arith, inl, inr, eqb-true}
use Rattle.std.specs.Prelude.{◌==◌, ◌&&◌, nat_lt, flat_map}
use Rattle.std.proofs.Math.Nat.{add-mul}
use Rattle.std.proofs.lemmas.Bool.{ltb-true}
use Rattle.std.proofs.lemmas.List.{replicate-append-replicate}
use Rattle.std.proofs.lemmas.List.Elements.{All-nil, All-cons, All-head, All-tail}
use Rattle.bl_num.specs.declared.number.Order.{Order}
use Rattle.bl_num.specs.Numbers.{IsWholeLength}
use Rattle.bl_format.specs.Words.{part, zeros, numbers_below}
use Rattle.bl_format.specs.Graph.{Target, Naming}
use Rattle.bl_plan.specs.declared.steps.Carry.{Carry}
use Rattle.bl_plan.specs.declared.steps.Carry.TheVariants.{Kept, Cast, Pointers}
use Rattle.bl_plan.specs.declared.steps.Step.{Step}
use Rattle.bl_plan.specs.Steps.{source_size, target_size, element_carried, step_written, step_end, steps_written, StepFits, AreInOrder}
use Rattle.bl_plan.specs.Meetings.{continues, continues_by, joined, one_or_two, with_step}
use Rattle.bl_plan.proofs.LeavesWritten.{flat_map-suc}

-- zeros up to a place and from there on are zeros together
pub zeros_twice : (at place to : ℕ) → at ≤ place → place ≤ to → zeros (place - at) ++ zeros (to - place) ≡ zeros (to - at)
zeros_twice at place to le room =
    let sum : (place - at) + (to - place) ≡ to - at = omega (arith, le, room) in
    replicate-append-replicate {A = ℕ} (place - at) (to - place) 0 ∙ ap zeros sum

-- ---- pieces of one size

-- pieces of so many bytes from a place on, each by a function
abbrev pub run_by : (List ℕ → List ℕ) → List ℕ → ℕ → ℕ → ℕ → List ℕ
run_by f src at size count = flat_map (λ k. f (part src (at + k * size) size)) (numbers_below count)

-- some pieces and those behind them
pub run_behind : (f : List ℕ → List ℕ) (src : List ℕ) (at size m n : ℕ)
    → run_by f src at size (m + n) ≡ run_by f src at size m ++ run_by f src (at + m * size) size n
run_behind f src at size m zero =
    let none : m + 0 ≡ m = omega arith in
    ap (run_by f src at size) none ∙ sym (append-nil (run_by f src at size m))
run_behind f src at size m (suc n) =
    let next : m + suc n ≡ suc (m + n) = omega arith in
    let place : at + (m + n) * size ≡ at + m * size + n * size = omega (arith, add-mul m n size) in
    let last : List ℕ = f (part src (at + m * size + n * size) size) in
    ap (run_by f src at size) next
    ∙ flat_map-suc (λ k. f (part src (at + k * size) size)) (m + n)
    ∙ ap (λ (p : ℕ). run_by f src at size (m + n) ++ f (part src p size)) place
    ∙ ap (λ (t : List ℕ). t ++ last) (run_behind f src at size m n)
    ∙ append_assoc (run_by f src at size m) (run_by f src (at + m * size) size n) last
    ∙ ap (λ (t : List ℕ). run_by f src at size m ++ t) (sym (flat_map-suc (λ k. f (part src (at + m * size + k * size) size)) n))

-- ---- a step that continues another

-- what it needs that a step continues another
pub record IsContinued (a b : Step) : Type 0 where
  pub size : ℕ
  pub first : a.carry ≡ Kept size
  pub second : b.carry ≡ Kept size
  pub from : a.from + a.count * size ≡ b.from
  pub to : a.to + a.count * size ≡ b.to
  pub count : a.count + b.count < 2 ^ 32

pub both_true : (p q : Bool) → (p && q) ≡ true → (p ≡ true) × (q ≡ true)
both_true true q is = (refl, is)
both_true false q is = absurd (cc)

continued_by : (a b : Step) (c d : Carry) → a.carry ≡ c → b.carry ≡ d → continues_by a b c d ≡ true → IsContinued a b
continued_by a b (Kept m) (Kept n) first second is =
    let few = both_true (m == n && (a.from + a.count * m) == b.from && (a.to + a.count * m) == b.to) (nat_lt (a.count + b.count) (2 ^ 32)) is in
    let one = both_true (m == n && (a.from + a.count * m) == b.from) ((a.to + a.count * m) == b.to) few.0 in
    let two = both_true (m == n) ((a.from + a.count * m) == b.from) one.0 in
    record {
      size = m;
      first = first;
      second = second ∙ ap Kept (sym (eqb-true m n two.0));
      from = eqb-true (a.from + a.count * m) b.from two.1;
      to = eqb-true (a.to + a.count * m) b.to one.1;
      count = ltb-true (a.count + b.count) (2 ^ 32) few.1;
    }
continued_by a b (Kept m) (Cast s t) first second is = absurd (cc)
continued_by a b (Kept m) (Pointers s t) first second is = absurd (cc)
continued_by a b (Cast s t) d first second is = absurd (cc)
continued_by a b (Pointers s t) d first second is = absurd (cc)

-- so it is where the test says so
pub is_continued : (a b : Step) → continues a b ≡ true → IsContinued a b
is_continued a b is = continued_by a b a.carry b.carry refl refl is

-- elements of a size are so many at most as the bytes in which they stand
pub count_within : (x : Step) (n : ℕ) → StepFits n x → x.count ≤ n
count_within x n fits = few (source_size x.carry) fits.source fits.inside
  where
    few : (size : ℕ) → IsWholeLength size → x.from + x.count * size ≤ n → x.count ≤ n
    few size (inl is) le = let le : x.from + x.count * 1 ≤ n = subst (λ (m : ℕ). x.from + x.count * m ≤ n) is le in omega arith
    few size (inr (inl is)) le = let le : x.from + x.count * 2 ≤ n = subst (λ (m : ℕ). x.from + x.count * m ≤ n) is le in omega arith
    few size (inr (inr (inl is))) le = let le : x.from + x.count * 4 ≤ n = subst (λ (m : ℕ). x.from + x.count * m ≤ n) is le in omega arith
    few size (inr (inr (inr is))) le = let le : x.from + x.count * 8 ≤ n = subst (λ (m : ℕ). x.from + x.count * m ≤ n) is le in omega arith

-- both as one end where the second does
joined_end : (a b : Step) → IsContinued a b → step_end (joined a b) ≡ step_end b
joined_end a b is =
    let size : ℕ = is.size in
    let same : target_size a.carry ≡ size = ap target_size is.first in
    let other : target_size b.carry ≡ size = ap target_size is.second in
    let sum : (a.count + b.count) * size ≡ a.count * size + b.count * size = add-mul a.count b.count size in
    ap (λ (n : ℕ). a.to + (a.count + b.count) * n) same
    ∙ (omega (arith, is.to, sum)) ∙ ap (λ (n : ℕ). b.to + b.count * n) (sym other)

joined_fits : (n : ℕ) (a b : Step) → IsContinued a b → StepFits n a → StepFits n b → StepFits n (joined a b)
joined_fits n a b is first second =
    let size : ℕ = is.size in
    let same : source_size a.carry ≡ size = ap source_size is.first in
    let other : source_size b.carry ≡ size = ap source_size is.second in
    let ends : b.from + b.count * size ≤ n = subst (λ (m : ℕ). b.from + b.count * m ≤ n) other second.inside in
    let sum : (a.count + b.count) * size ≡ a.count * size + b.count * size = add-mul a.count b.count size in
    let all : a.from + (a.count + b.count) * size ≤ n = omega (arith, ends, is.from, sum) in
    record {
      inside = subst (λ (m : ℕ). a.from + (a.count + b.count) * m ≤ n) (sym same) all;
      source = first.source;
      target = first.target;
    }

module _ (names : Naming Target) (from to : Order) (src : List ℕ) where
  -- what both write is what they write one behind another
  joined_written : (a b : Step) → IsContinued a b
      → step_written names from to src (joined a b) ≡ step_written names from to src a ++ step_written names from to src b
  unfolding step_written
  joined_written a b is =
      let size : ℕ = is.size in
      let f : List ℕ → List ℕ = element_carried names from to (Kept size) in
      ap (λ (c : Carry). run_by (element_carried names from to c) src a.from (source_size c) (a.count + b.count)) is.first
      ∙ run_behind f src a.from size a.count b.count
      ∙ ap (λ (p : ℕ). run_by f src a.from size a.count ++ run_by f src p size b.count) is.from
      ∙ ap (λ (c : Carry). run_by (element_carried names from to c) src a.from (source_size c) a.count ++ run_by f src b.from size b.count) (sym is.first)
      ∙ ap (λ (c : Carry). run_by (element_carried names from to a.carry) src a.from (source_size a.carry) a.count ++ run_by (element_carried names from to c) src b.from (source_size c) b.count) (sym is.second)

  -- ---- steps one behind another

  -- what is written up to a place of some steps and one behind them
  pub steps_written-push : (end at : ℕ) (xs : List Step) (x : Step)
      → steps_written names from to src end at (xs ++ x ∷ [])
      ≡ steps_written names from to src x.to at xs ++ (step_written names from to src x ++ zeros (end - step_end x))
  unfolding steps_written
  steps_written-push end at [] x = refl
  steps_written-push end at (y ∷ ys) x =
      let gap : List ℕ = zeros (y.to - at) in
      let own : List ℕ = step_written names from to src y in
      let rest : List ℕ = steps_written names from to src x.to (step_end y) ys in
      let last : List ℕ = step_written names from to src x ++ zeros (end - step_end x) in
      ap (λ (t : List ℕ). gap ++ (own ++ t)) (steps_written-push end (step_end y) ys x)
      ∙ ap (λ (t : List ℕ). gap ++ t) (sym (append_assoc own rest last))
      ∙ sym (append_assoc gap (own ++ rest) last)

  -- what is written up to a place behind them, further on
  pub steps_written-more : (place end at : ℕ) (xs : List Step) → AreInOrder at xs place → place ≤ end
      → steps_written names from to src end at xs ≡ steps_written names from to src place at xs ++ zeros (end - place)
  unfolding steps_written
  steps_written-more place end at [] apart le = sym (zeros_twice at place end apart le)
  steps_written-more place end at (y ∷ ys) apart le =
      let gap : List ℕ = zeros (y.to - at) in
      let own : List ℕ = step_written names from to src y in
      let rest : List ℕ = steps_written names from to src place (step_end y) ys in
      ap (λ (t : List ℕ). gap ++ (own ++ t)) (steps_written-more place end (step_end y) ys apart.1 le)
      ∙ ap (λ (t : List ℕ). gap ++ t) (sym (append_assoc own rest (zeros (end - place))))
      ∙ sym (append_assoc gap (own ++ rest) (zeros (end - place)))

  -- ---- with one more, joined with the last

  one_or_two_written : (end at : ℕ) (a b : Step) (t : Bool) → continues a b ≡ t
      → steps_written names from to src end at (cond t (joined a b ∷ []) (a ∷ b ∷ [])) ≡ steps_written names from to src end at (a ∷ b ∷ [])
  unfolding steps_written
  one_or_two_written end at a b false is = refl
  one_or_two_written end at a b true is =
      let one = is_continued a b is in
      let gap : List ℕ = zeros (a.to - at) in
      let first : List ℕ = step_written names from to src a in
      let second : List ℕ = step_written names from to src b in
      let size : target_size a.carry ≡ one.size = ap target_size one.first in
      let none : b.to - step_end a ≡ 0 =
      ap (λ (n : ℕ). b.to - (a.to + a.count * n)) size ∙ (omega (arith, one.to)) in
      ap (λ (t : List ℕ). gap ++ (t ++ zeros (end - step_end (joined a b)))) (joined_written a b one)
      ∙ ap (λ (n : ℕ). gap ++ ((first ++ second) ++ zeros (end - n))) (joined_end a b one)
      ∙ ap (λ (t : List ℕ). gap ++ t) (append_assoc first second (zeros (end - step_end b)))
      ∙ ap (λ (n : ℕ). gap ++ (first ++ (zeros n ++ (second ++ zeros (end - step_end b))))) (sym none)

  pub with_step-written : (end at : ℕ) (xs : List Step) (b : Step)
      → steps_written names from to src end at (with_step xs b) ≡ steps_written names from to src end at (xs ++ b ∷ [])
  unfolding with_step steps_written
  with_step-written end at [] b = refl
  with_step-written end at (a ∷ []) b = one_or_two_written end at a b (continues a b) refl
  with_step-written end at (a ∷ x ∷ xs) b =
      ap (λ (t : List ℕ). zeros (a.to - at) ++ (step_written names from to src a ++ t)) (with_step-written end (step_end a) (x ∷ xs) b)

-- ---- order and fits

-- steps that end by a place end by a later one
pub AreInOrder-more : (at place end : ℕ) (xs : List Step) → AreInOrder at xs place → place ≤ end → AreInOrder at xs end
AreInOrder-more at place end [] apart le = omega (arith, apart, le)
AreInOrder-more at place end (x ∷ xs) apart le = (apart.0, AreInOrder-more (step_end x) place end xs apart.1 le)

AreInOrder-push : (at end : ℕ) (xs : List Step) (x : Step) → AreInOrder at xs x.to → step_end x ≤ end → AreInOrder at (xs ++ x ∷ []) end
AreInOrder-push at end [] x apart le = (apart, le)
AreInOrder-push at end (y ∷ ys) x apart le = (apart.0, AreInOrder-push (step_end y) end ys x apart.1 le)

one_or_two_order : (at end : ℕ) (a b : Step) (t : Bool) → continues a b ≡ t
    → AreInOrder at (a ∷ b ∷ []) end → AreInOrder at (cond t (joined a b ∷ []) (a ∷ b ∷ [])) end
one_or_two_order at end a b false is apart = apart
one_or_two_order at end a b true is apart =
    (apart.0, subst (λ (n : ℕ). n ≤ end) (sym (joined_end a b (is_continued a b is))) apart.1.1)

with_step_order : (at end : ℕ) (xs : List Step) (b : Step) → AreInOrder at (xs ++ b ∷ []) end → AreInOrder at (with_step xs b) end
unfolding with_step
with_step_order at end [] b apart = apart
with_step_order at end (a ∷ []) b apart = one_or_two_order at end a b (continues a b) refl apart
with_step_order at end (a ∷ x ∷ xs) b apart = (apart.0, with_step_order (step_end a) end (x ∷ xs) b apart.1)

-- a step behind others, joined with the last, stands behind them
pub with_step-order : (at end : ℕ) (xs : List Step) (x : Step) → AreInOrder at xs x.to → step_end x ≤ end → AreInOrder at (with_step xs x) end
with_step-order at end xs x apart le = with_step_order at end xs x (AreInOrder-push at end xs x apart le)

one_or_two_fit : (n : ℕ) (a b : Step) (t : Bool) → continues a b ≡ t
    → StepFits n a → StepFits n b → All (StepFits n) (cond t (joined a b ∷ []) (a ∷ b ∷ []))
one_or_two_fit n a b false is first second = All-cons (StepFits n) a (b ∷ []) first (All-cons (StepFits n) b [] second (All-nil (StepFits n)))
one_or_two_fit n a b true is first second =
    All-cons (StepFits n) (joined a b) [] (joined_fits n a b (is_continued a b is) first second) (All-nil (StepFits n))

pub with_step-fits : (n : ℕ) (xs : List Step) (b : Step) → All (StepFits n) xs → StepFits n b → All (StepFits n) (with_step xs b)
unfolding with_step
with_step-fits n [] b fits own = All-cons (StepFits n) b [] own (All-nil (StepFits n))
with_step-fits n (a ∷ []) b fits own = one_or_two_fit n a b (continues a b) refl (All-head (StepFits n) a [] fits) own
with_step-fits n (a ∷ x ∷ xs) b fits own =
    All-cons (StepFits n) a (with_step (x ∷ xs) b) (All-head (StepFits n) a (x ∷ xs) fits)
    (with_step-fits n (x ∷ xs) b (All-tail (StepFits n) a (x ∷ xs) fits) own)

-- some steps, the last one and one more
pub with_step-last : (xs : List Step) (a b : Step) → with_step (xs ++ a ∷ []) b ≡ xs ++ one_or_two a b
unfolding with_step
with_step-last [] a b = refl
with_step-last (x ∷ []) a b = refl
with_step-last (x ∷ y ∷ ys) a b = ap (λ (t : List Step). x ∷ t) (with_step-last (y ∷ ys) a b)

-- no steps and one more
pub with_step-first : (old new pushed : List Step) (b : Step) → length old ≡ 0 → old ≡ new ++ [] → pushed ≡ new ++ b ∷ [] → pushed ≡ with_step old b
unfolding with_step
with_step-first [] new pushed b none same is =
    is ∙ ap (λ (t : List Step). t ++ b ∷ []) (sym (same ∙ append-nil new))
with_step-first (x ∷ xs) new pushed b none same is = absurd (omega (arith, none))
