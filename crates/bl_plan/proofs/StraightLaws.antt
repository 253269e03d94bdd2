-- A straight plan does what the plan does, between forms of one order of bytes; and when a plan copies elements whole.
use Rattle.std.proofs.Common.{◌≡◌, ℕ, ◌+◌, ◌-◌, ◌*◌, ◌^◌, ◌≤◌, ◌<◌, Bool, true, false, cond, All, List, [], ◌∷◌, ◌++◌, length, drop, take, get_or, Some, refl, sym, ap, subst, ◌∙◌, append_assoc, append-nil, arith, inl, eqb-true, eq-eqb, mul-le-mul_right}
use Rattle.std.specs.Prelude.{◌==◌, ◌&&◌, nat_lt}
use Rattle.std.specs.List.{fold}
use Rattle.std.proofs.lemmas.List.{length-take-le, length-drop, take_all}
use Rattle.std.proofs.lemmas.List.Elements.{All-take, All-drop, All-pop}
use Rattle.std.proofs.lemmas.List.Sums.{fold_more}
use Rattle.bl_num.specs.declared.number.Order.{Order}
use Rattle.bl_num.specs.declared.number.Width.{Width}
use Rattle.bl_num.specs.Numbers.{number_of, bytes_of}
use Rattle.bl_num.proofs.BytesBack.{bytes_of-number_of}
use Rattle.bl_format.specs.declared.catalogue.Catalogue.{Catalogue}
use Rattle.bl_format.specs.Words.{part, zeros}
use Rattle.bl_format.specs.Graph.{Target, Naming}
use Rattle.bl_selection.specs.Carried.{StructForm, struct_form}
use Rattle.bl_plan.specs.declared.steps.Carry.{Carry}
use Rattle.bl_plan.specs.declared.steps.Carry.TheVariants.{Kept, Cast, Pointers}
use Rattle.bl_plan.specs.declared.steps.Plan.{Plan}
use Rattle.bl_plan.specs.declared.steps.Step.{Step}
use Rattle.bl_plan.specs.Steps.{source_size, target_size, element_carried, step_written, step_end, steps_written, StepFits, AreInOrder}
use Rattle.bl_plan.specs.Plans.{IsPlanOf, Carries, CopiesWhole}
use Rattle.bl_plan.specs.Straight.{bytewise, bytewise_by, with_straight, straight, keeps_first, keeps_first_by, keep_first, copies_whole}
use Rattle.bl_plan.proofs.StepsBehind.{run_by, both_true, steps_written-push, with_step-written, with_step-order, with_step-fits}
use Rattle.bl_plan.proofs.ElementsCarried.{flat_map-same, parts_joined}

-- ---- plans of two structs

-- a plan of two structs carries elements over between their forms, whatever the orders
pub IsPlanOf-carries : (c : Catalogue) (v : Width) (s : ℕ) (d : Catalogue) (w : Width) (t : ℕ) (plan : Plan) (from to : Order)
    → IsPlanOf c v s d w t plan → Carries (struct_form from c v s) (struct_form to d w t) plan
IsPlanOf-carries c v s d w t plan from to is = record {
  fits = is.fits;
  carries = λ names src long all. is.carries names from to src long all;
}

-- ---- one step by its bytes

-- numbers that are kept in one order are the bytes that they were
kept_part : (order : Order) (src : List ℕ) (at size count : ℕ) → at + count * size ≤ length src → All (λ b. b < 256) src
    → run_by (λ p. bytes_of order size (number_of order size p)) src at size count ≡ part src at (count * size)
kept_part order src at size count inside all =
    flat_map-same (λ k. bytes_of order size (number_of order size (part src (at + k * size) size))) (λ k. part src (at + k * size) size) count each
    ∙ parts_joined src at size count
  where
    each : (k : ℕ) → k < count → bytes_of order size (number_of order size (part src (at + k * size) size)) ≡ part src (at + k * size) size
    each k lt =
        let next : (k + 1) * size ≤ count * size = mul-le-mul_right size (omega (arith, lt)) in
        let sum : (k + 1) * size ≡ k * size + size = omega arith in
        let rest : List ℕ = drop (at + k * size) src in
        let long : length (take size rest) ≡ size = length-take-le size rest (omega (arith, next, sum, inside, length-drop (at + k * size) src)) in
        bytes_of-number_of order size (take size rest) (All-take (λ b. b < 256) size rest (All-drop (λ b. b < 256) (at + k * size) src all)) (omega (arith, long))
        ∙ take_all size (take size rest) (omega (arith, long))

-- what a step is by its bytes, by the way in which it carries elements
record IsBytewise (x y : Step) : Type 0 where
  pub from : y.from ≡ x.from
  pub to : y.to ≡ x.to
  pub source : y.count * source_size y.carry ≡ x.count * source_size x.carry
  pub target : y.count * target_size y.carry ≡ x.count * target_size x.carry
  pub fits : (n : ℕ) → StepFits n x → StepFits n y
  pub written : (names : Naming Target) (order : Order) (src : List ℕ) → StepFits (length src) x → All (λ b. b < 256) src
      → step_written names order order src y ≡ step_written names order order src x

bytewise_same : (x : Step) → IsBytewise x x
bytewise_same x = record {
  from = refl;
  to = refl;
  source = refl;
  target = refl;
  fits = λ n fits. fits;
  written = λ names order src fits all. refl;
}

bytewise_kept : (x : Step) (size : ℕ) → x.carry ≡ Kept size → IsBytewise x (record x { count = x.count * size; carry = Kept 1 })
unfolding step_written
bytewise_kept x size is =
    let bytes : x.count * size * 1 ≡ x.count * size = omega arith in
    let source : x.count * size * 1 ≡ x.count * source_size x.carry = bytes ∙ ap (λ (c : Carry). x.count * source_size c) (sym is) in
    record {
      from = refl;
      to = refl;
      source = source;
      target = bytes ∙ ap (λ (c : Carry). x.count * target_size c) (sym is);
      fits = λ n fits. record { inside = subst (λ (k : ℕ). x.from + k ≤ n) (sym source) fits.inside; source = inl refl; target = inl refl };
      written = λ names order src fits all.
          let inside : x.from + x.count * size ≤ length src = subst (λ (c : Carry). x.from + x.count * source_size c ≤ length src) is fits.inside in
          kept_part order src x.from 1 (x.count * size) (subst (λ (k : ℕ). x.from + k ≤ length src) (sym bytes) inside) all
          ∙ ap (part src x.from) bytes
          ∙ sym (kept_part order src x.from size x.count inside all)
          ∙ ap (λ (c : Carry). run_by (element_carried names order order c) src x.from (source_size c) x.count) (sym is);
    }

bytewise_by-is : (x : Step) (carry : Carry) → x.carry ≡ carry → IsBytewise x (bytewise_by x carry)
bytewise_by-is x (Kept size) is = go (nat_lt (x.count * size) (2 ^ 32))
  where
    go : (b : Bool) → IsBytewise x (cond b (record x { count = x.count * size; carry = Kept 1 }) x)
    go true = bytewise_kept x size is
    go false = bytewise_same x
bytewise_by-is x (Cast a b) is = bytewise_same x
bytewise_by-is x (Pointers v w) is = bytewise_same x

bytewise-is : (x : Step) → IsBytewise x (bytewise x)
bytewise-is x = bytewise_by-is x x.carry refl

-- it ends where the step does
bytewise-end : (x : Step) → step_end (bytewise x) ≡ step_end x
bytewise-end x =
    let is = bytewise-is x in
    ap (λ (k : ℕ). (bytewise x).to + k) is.target ∙ ap (λ (k : ℕ). k + x.count * target_size x.carry) is.to

-- ---- all steps

-- steps ys do what steps xs do, where the order of bytes stays
record DoSame (xs ys : List Step) : Type 0 where
  pub fits : (n : ℕ) → All (StepFits n) xs → All (StepFits n) ys
  pub order : (at end : ℕ) → AreInOrder at xs end → AreInOrder at ys end
  pub written : (names : Naming Target) (order : Order) (src : List ℕ) (end at : ℕ) → All (StepFits (length src)) xs → All (λ b. b < 256) src
      → steps_written names order order src end at ys ≡ steps_written names order order src end at xs

-- the steps before the last one, and that one
order_split : (at end : ℕ) (xs : List Step) (x : Step) → AreInOrder at (xs ++ x ∷ []) end → AreInOrder at xs x.to × (step_end x ≤ end)
order_split at end [] x apart = apart
order_split at end (y ∷ ys) x apart =
    let later = order_split (step_end y) end ys x apart.1 in
    ((apart.0, later.0), later.1)

fits_split : (n : ℕ) (xs : List Step) (x : Step) → All (StepFits n) (xs ++ x ∷ []) → All (StepFits n) xs × StepFits n x
fits_split n xs x fits = All-pop (StepFits n) (xs ++ x ∷ []) xs (Some x) refl fits

same_more : (xs ys : List Step) (x : Step) → DoSame xs ys → DoSame (xs ++ x ∷ []) (with_straight ys x)
same_more xs ys x before =
    let y : Step = bytewise x in
    let is = bytewise-is x in
    record {
      fits = λ n fits.
          let split = fits_split n xs x fits in
          with_step-fits n ys y (before.fits n split.0) (is.fits n split.1);
      order = λ at end apart.
          let split = order_split at end xs x apart in
          with_step-order at end ys y
          (subst (AreInOrder at ys) (sym is.to) (before.order at x.to split.0))
          (subst (λ (k : ℕ). k ≤ end) (sym (bytewise-end x)) split.1);
      written = λ names order src end at fits all.
          let split = fits_split (length src) xs x fits in
          let own : List ℕ = step_written names order order src x in
          with_step-written names order order src end at ys y
          ∙ steps_written-push names order order src end at ys y
          ∙ ap (λ (k : ℕ). steps_written names order order src k at ys ++ (step_written names order order src y ++ zeros (end - step_end y))) is.to
          ∙ ap (λ (k : ℕ). steps_written names order order src x.to at ys ++ (step_written names order order src y ++ zeros (end - k))) (bytewise-end x)
          ∙ ap (λ (t : List ℕ). steps_written names order order src x.to at ys ++ (t ++ zeros (end - step_end x))) (is.written names order src split.1 all)
          ∙ ap (λ (t : List ℕ). t ++ (own ++ zeros (end - step_end x))) (before.written names order src x.to at split.0 all)
          ∙ sym (steps_written-push names order order src end at xs x);
    }

same_all : (done ys xs : List Step) → DoSame done ys → DoSame (done ++ xs) (fold with_straight ys xs)
same_all done ys [] before = subst (λ (t : List Step). DoSame t ys) (sym (append-nil done)) before
same_all done ys (x ∷ xs) before =
    subst (λ (t : List Step). DoSame t (fold with_straight (with_straight ys x) xs)) (append_assoc done (x ∷ []) xs)
    (same_all (done ++ x ∷ []) (with_straight ys x) xs (same_more done ys x before))

straight-same : (xs : List Step) → DoSame xs (straight xs)
straight-same xs = same_all [] [] xs (record { fits = λ n fits. fits; order = λ at end apart. apart; written = λ names order src end at fits all. refl })

-- a straight plan carries elements over as the plan does, where the order of bytes stays
pub straight-carries : (plan other : Plan) → other.steps ≡ straight plan.steps → (x y : StructForm) → x.order ≡ y.order
    → Carries x y plan → Carries x y other
straight-carries plan other is x y same of =
    let alike = straight-same plan.steps in
    record {
      fits = record {
        steps = subst (All (StepFits x.size)) (sym is) (alike.fits x.size of.fits.steps);
        apart = subst (λ (t : List Step). AreInOrder 0 t y.size) (sym is) (alike.order 0 y.size of.fits.apart);
      };
      carries = λ names src long all.
          ap (steps_written names x.order y.order src y.size 0) is
          ∙ subst (λ (o : Order). steps_written names x.order o src y.size 0 (straight plan.steps) ≡ steps_written names x.order o src y.size 0 plan.steps) same
          (alike.written names x.order src y.size 0 (subst (λ (n : ℕ). All (StepFits n) plan.steps) (sym long) of.fits.steps) all)
          ∙ of.carries names src long all;
    }

-- the steps so far, and one more
pub straight_more : (xs steps new : List Step) (i : ℕ) (d : Step) → i < length xs → steps ≡ straight (take i xs)
    → new ≡ with_straight steps (get_or xs i d) → new ≡ straight (take (i + 1) xs)
straight_more xs steps new i d lt before is =
    is ∙ ap (λ (t : List Step). with_straight t (get_or xs i d)) before ∙ sym (fold_more with_straight [] xs i d lt)

pub straight_all : (xs steps : List Step) (i : ℕ) → length xs ≤ i → steps ≡ straight (take i xs) → steps ≡ straight xs
straight_all xs steps i le is = is ∙ ap straight (take_all i xs le)

-- ---- copied whole

-- a step that keeps the first bytes keeps all that there are
kept_first : (order : Order) (names : Naming Target) (src : List ℕ) (x : Step) (carry : Carry) → x.carry ≡ carry → keeps_first_by (length src) x carry ≡ true
    → All (λ b. b < 256) src → steps_written names order order src (length src) 0 (x ∷ []) ≡ src
unfolding steps_written step_written
kept_first order names src x (Kept size) is keeps all =
    let one = both_true (x.from == 0 && x.to == 0) (x.count * size == length src) keeps in
    let two = both_true (x.from == 0) (x.to == 0) one.0 in
    let from : x.from ≡ 0 = eqb-true x.from 0 two.0 in
    let to : x.to ≡ 0 = eqb-true x.to 0 two.1 in
    let size_is : x.count * size ≡ length src = eqb-true (x.count * size) (length src) one.1 in
    let end : step_end x ≡ length src = ap (λ (c : Carry). x.to + x.count * target_size c) is ∙ (omega (arith, to, size_is)) in
    let none : length src - length src ≡ 0 = omega arith in
    let inside : x.from + x.count * size ≤ length src = omega (arith, from, size_is) in
    ap (λ (k : ℕ). zeros (k - 0) ++ (step_written names order order src x ++ zeros (length src - step_end x))) to
    ∙ ap (λ (k : ℕ). step_written names order order src x ++ zeros (length src - k)) end
    ∙ ap (λ (k : ℕ). step_written names order order src x ++ zeros k) none
    ∙ append-nil (step_written names order order src x)
    ∙ ap (λ (c : Carry). run_by (element_carried names order order c) src x.from (source_size c) x.count) is
    ∙ kept_part order src x.from size x.count inside all
    ∙ ap (λ (k : ℕ). part src k (x.count * size)) from
    ∙ take_all (x.count * size) src (omega (arith, size_is))
kept_first order names src x (Cast a b) is keeps all = absurd (cc)
kept_first order names src x (Pointers v w) is keeps all = absurd (cc)

kept_whole : (order : Order) (names : Naming Target) (src : List ℕ) (xs : List Step) → keep_first (length src) xs ≡ true → All (λ b. b < 256) src
    → steps_written names order order src (length src) 0 xs ≡ src
unfolding steps_written
kept_whole order names [] [] keeps all = refl
kept_whole order names (b ∷ bs) [] keeps all = let none = eqb-true (length (b ∷ bs)) 0 keeps in absurd (omega (arith, none))
kept_whole order names src (x ∷ []) keeps all = kept_first order names src x x.carry refl keeps all
kept_whole order names src (x ∷ y ∷ xs) keeps all =
    let none = eqb-true (length (y ∷ xs)) 0 (both_true (length (y ∷ xs) == 0) (keeps_first (length src) x) keeps).0 in
    absurd (omega (arith, none))

-- a plan that copies whole leaves all bytes as they are, where the order of bytes stays
pub copies_whole-copies : (x y : StructForm) (plan : Plan) → copies_whole x.size y.size plan ≡ true → x.order ≡ y.order → CopiesWhole x y plan
copies_whole-copies x y plan is same =
    let both = both_true (x.size == y.size) (keep_first x.size plan.steps) is in
    let size : x.size ≡ y.size = eqb-true x.size y.size both.0 in
    record {
      size = size;
      copies = λ names src long all.
          subst (λ (o : Order). steps_written names x.order o src y.size 0 plan.steps ≡ src) same
          (subst (λ (n : ℕ). steps_written names x.order x.order src n 0 plan.steps ≡ src) (long ∙ size)
          (kept_whole x.order names src plan.steps (subst (λ (n : ℕ). keep_first n plan.steps ≡ true) (sym long) both.1) all));
    }

-- the same of elements of one length
pub copies_whole_of : (x y : StructForm) (plan : Plan) (from to : ℕ) → from ≡ to → keep_first from plan.steps ≡ true
    → x.order ≡ y.order → x.size ≡ from → y.size ≡ to → CopiesWhole x y plan
copies_whole_of x y plan from to sizes keeps same first second =
    let kept : keep_first x.size plan.steps ≡ true = ap (λ (n : ℕ). keep_first n plan.steps) first ∙ keeps in
    copies_whole-copies x y plan
    (ap (λ (b : Bool). b && keep_first x.size plan.steps) (eq-eqb x.size y.size (first ∙ sizes ∙ sym second)) ∙ kept) same
