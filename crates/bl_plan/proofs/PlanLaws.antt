-- The steps so far write what is written of the leaves so far; with all leaves they are the plan.
use Rattle.std.proofs.Common.{◌≡◌, ℕ, suc, ◌+◌, ◌-◌, ◌*◌, ◌^◌, ◌≤◌, ◌<◌, Bool, true, false, cond, All, List, [], ◌∷◌, ◌++◌, length, drop, take, get_or, Option, Some, None, refl, sym, ap, subst, ◌∙◌, append_assoc, arith, drop_of_length-le, mul-le-mul_right}
use Rattle.std.specs.Prelude.{option_map, map}
use Rattle.std.specs.List.{find, position_from}
use Rattle.std.proofs.lemmas.List.{drop_more, take_more, take_all, get_or-map}
use Rattle.std.proofs.lemmas.List.Elements.{All-nil}
use Rattle.bl_num.specs.declared.number.Order.{Order}
use Rattle.bl_num.specs.declared.number.Width.{Width}
use Rattle.bl_format.specs.declared.catalogue.Catalogue.{Catalogue}
use Rattle.bl_format.specs.Words.{zeros}
use Rattle.bl_format.specs.declared.layout.Leaf.{Leaf}
use Rattle.bl_format.specs.Layout.{NamedLeaf, HasLayout, leaf_of, named_leaves, struct_length, no_leaf, first_fault}
use Rattle.bl_format.specs.Graph.{Target, Naming, Value}
use Rattle.bl_format.proofs.LeavesApart.{AreApart, end_of_leaf, named_leaves-apart, named_leaves-within}
use Rattle.bl_format.proofs.LeafKinds.{named_leaves-have_bytes, named_leaves-fit}
use Rattle.bl_format.proofs.CatalogueRead.{IsCatalogue-can_be_read}
use Rattle.bl_format.proofs.MemberPasses.{first_fault-none}
use Rattle.bl_layout.proofs.BuildLemmas.{struct_length-small}
use Rattle.bl_selection.specs.Fate.{ways_meet, source_leaf, carried_value, clashes, direct_member, first_clash, kept_count}
use Rattle.bl_plan.specs.declared.steps.Step.{Step}
use Rattle.bl_plan.specs.declared.meeting.Meeting.{Meeting}
use Rattle.bl_plan.specs.declared.meeting.Meeting.TheVariants.{Fresh, Carried, Clash}
use Rattle.bl_plan.specs.Steps.{step_written, step_end, steps_written, StepFits, AreInOrder}
use Rattle.bl_plan.specs.Plans.{IsPlanOf}
use Rattle.bl_plan.specs.SourcePlaces.{source_place}
use Rattle.bl_plan.specs.Meetings.{meeting_at, meeting_of, with_step}
use Rattle.bl_plan.proofs.LeavesWritten.{leaf_written, leaves_written, leaves_written-push, element_written-leaves}
use Rattle.bl_plan.proofs.StepsBehind.{zeros_twice, steps_written-push, steps_written-more, with_step-written, with_step-order, with_step-fits, AreInOrder-more}
use Rattle.bl_plan.proofs.FloatNames.{named_leaves-floats}
use Rattle.bl_plan.proofs.MeetingLaws.{kept_few, IsSound, IsMet, values_written, clashes_with, fresh_met, both_met}

-- ---- the leaf that is met

-- the place that is found, and the leaf there
record IsFoundAt (y : NamedLeaf) (i : ℕ) (xs : List NamedLeaf) (o : Option ℕ) (found : Option NamedLeaf) : Type 0 where
  pub none : o ≡ None → found ≡ None
  pub some : (j : ℕ) → o ≡ Some j → (i ≤ j) × (j < i + length xs) × (found ≡ Some (get_or xs (j - i) no_leaf))

source_found : (y : NamedLeaf) (i : ℕ) (xs : List NamedLeaf)
    → IsFoundAt y i xs (position_from (λ (x : NamedLeaf). ways_meet x.way y.way) i xs) (find (λ (x : NamedLeaf). ways_meet x.way y.way) xs)
source_found y i [] = record { none = λ is. refl; some = λ j is. absurd (cc) }
source_found y i (x ∷ xs) = go (ways_meet x.way y.way) (source_found y (i + 1) xs)
  where
    go : (b : Bool) → IsFoundAt y (i + 1) xs (position_from (λ (x : NamedLeaf). ways_meet x.way y.way) (i + 1) xs) (find (λ (x : NamedLeaf). ways_meet x.way y.way) xs)
        → IsFoundAt y i (x ∷ xs) (cond b (Some i) (position_from (λ (x : NamedLeaf). ways_meet x.way y.way) (i + 1) xs)) (cond b (Some x) (find (λ (x : NamedLeaf). ways_meet x.way y.way) xs))
    go true later = record {
      none = λ is. absurd (cc);
      some = λ j is.
          let same : i ≡ j = cc in
          let here : 0 ≡ j - i = omega (arith, same) in
          (omega (arith, same), omega (arith, same), ap (λ (n : ℕ). Some (get_or (x ∷ xs) n no_leaf)) here);
    }
    go false later = record {
      none = later.none;
      some = λ j is.
          let there = later.some j is in
          let further : suc (j - (i + 1)) ≡ j - i = omega (arith, there.0) in
          (omega (arith, there.0), omega (arith, there.1), there.2 ∙ ap (λ (n : ℕ). Some (get_or (x ∷ xs) n no_leaf)) further);
    }

-- the leaf at the place that is found is the one that is met
pub source_at : (xs : List NamedLeaf) (y : NamedLeaf) (j : ℕ) → source_place xs y ≡ Some j → (j < length xs) × (source_leaf xs y ≡ Some (get_or xs j no_leaf))
source_at xs y j is =
    let there = (source_found y 0 xs).some j is in
    let same : j - 0 ≡ j = omega arith in
    (omega (arith, there.1), there.2 ∙ ap (λ (n : ℕ). Some (get_or xs n no_leaf)) same)

pub source_nowhere : (xs : List NamedLeaf) (y : NamedLeaf) → source_place xs y ≡ None → source_leaf xs y ≡ None
source_nowhere xs y is = (source_found y 0 xs).none is

-- leaf i of a list meets what was found for it
pub found_for : (xs ys : List NamedLeaf) (found : List (Option ℕ)) (i : ℕ) (d : Option ℕ) → found ≡ map (source_place xs) ys → i < length ys
    → get_or found i d ≡ source_place xs (get_or ys i no_leaf)
found_for xs ys found i d is lt =
    ap (λ (t : List (Option ℕ)). get_or t i d) is ∙ get_or-map (source_place xs) ys i no_leaf d lt

-- ---- what becomes of a leaf

-- the leaves of a struct are sound
pub leaves_sound : (c : Catalogue) (w : Width) (s : ℕ) → HasLayout c w → All (IsSound w (struct_length c s)) (named_leaves c w s)
leaves_sound c w s has i d lt =
    let none : first_fault c w ≡ None = first_fault-none c w has.no_fault in
    record {
      size = named_leaves-fit c w s none i d lt;
      some = named_leaves-have_bytes c w s i d lt;
      within = named_leaves-within c w s none i d lt;
      named = named_leaves-floats c w s none i d lt;
    }

-- what is told of a leaf is right of the one that it meets, or none
pub meeting_met : (v w : Width) (n m : ℕ) (xs : List NamedLeaf) (y : NamedLeaf) → All (IsSound v n) xs → IsSound w m y
    → IsMet n (source_leaf xs y) y (meeting_of v w xs (source_place xs y) y)
unfolding meeting_of
meeting_met v w n m xs y sources target = go (source_place xs y) refl
  where
    go : (o : Option ℕ) → source_place xs y ≡ o → IsMet n (source_leaf xs y) y (meeting_of v w xs o y)
    go None is = subst (λ (x : Option NamedLeaf). IsMet n x y Fresh) (sym (source_nowhere xs y is)) (fresh_met n y)
    go (Some j) is =
        let there = source_at xs y j is in
        subst (λ (x : Option NamedLeaf). IsMet n x y (meeting_at v w (get_or xs j no_leaf) y)) (sym there.1)
        (both_met v w n m (get_or xs j no_leaf) y (sources j no_leaf there.0) target)

-- the same of a leaf of a struct, by what was found
pub leaf_met : (c : Catalogue) (v : Width) (s : ℕ) (d : Catalogue) (w : Width) (t i : ℕ) (found : List (Option ℕ)) (e : Option ℕ) (told met : Meeting)
    → HasLayout c v → HasLayout d w → found ≡ map (source_place (named_leaves c v s)) (named_leaves d w t) → i < length (named_leaves d w t)
    → told ≡ meeting_of v w (named_leaves c v s) (get_or found i e) (get_or (named_leaves d w t) i no_leaf) → told ≡ met
    → IsMet (struct_length c s) (source_leaf (named_leaves c v s) (get_or (named_leaves d w t) i no_leaf)) (get_or (named_leaves d w t) i no_leaf) met
leaf_met c v s d w t i found e told met has other is lt told_is same =
    let xs : List NamedLeaf = named_leaves c v s in
    let y : NamedLeaf = get_or (named_leaves d w t) i no_leaf in
    let all : meeting_of v w xs (source_place xs y) y ≡ met =
    ap (λ (o : Option ℕ). meeting_of v w xs o y) (sym (found_for xs (named_leaves d w t) found i e is lt)) ∙ sym told_is ∙ same in
    subst (IsMet (struct_length c s) (source_leaf xs y) y) all
    (meeting_met v w (struct_length c s) (struct_length d t) xs y (leaves_sound c v s has) (leaves_sound d w t other i no_leaf lt))

clashes_by : (xs : List NamedLeaf) (y : NamedLeaf) (o : Option NamedLeaf) → source_leaf xs y ≡ o → clashes xs y ≡ clashes_with o y
clashes_by xs y None is = rw is refl
clashes_by xs y (Some x) is = rw is refl

-- ---- the first clash

-- what is found from a leaf on
found_here : (xs ys : List NamedLeaf) (i : ℕ) (b : Bool) → i < length ys → clashes xs (get_or ys i no_leaf) ≡ b
    → find (clashes xs) (drop i ys) ≡ cond b (Some (get_or ys i no_leaf)) (find (clashes xs) (drop (i + 1) ys))
found_here xs ys i b lt is =
    ap (find (clashes xs)) (drop_more ys i no_leaf lt)
    ∙ ap (λ (t : Bool). cond t (Some (get_or ys i no_leaf)) (find (clashes xs) (drop (i + 1) ys))) is

-- ---- the steps so far

module _ (n m : ℕ) (xs ys : List NamedLeaf) where
  -- the value that is carried over to an element of a leaf
  abbrev carried : Naming Target → Order → List ℕ → NamedLeaf → ℕ → Value Target
  carried names from src y k = carried_value None names from xs src y k

  -- some steps write what is written of the first i leaves, and no leaf before has a clash
  pub record IsPlanned (i : ℕ) (steps : List Step) : Type 0 where
    pub end : ℕ
    pub fits : All (StepFits n) steps
    pub apart : AreInOrder 0 steps end
    pub left : AreApart end (drop i ys) m
    pub written : (names : Naming Target) (from to : Order) (src : List ℕ) (e : ℕ) → length src ≡ n → All (λ b. b < 256) src → end ≤ e
        → steps_written names from to src e 0 steps ≡ leaves_written to (carried names from src) e 0 (take i ys)
    pub passes : find (clashes xs) (drop i ys) ≡ find (clashes xs) ys

  -- before the first leaf
  pub planned_none : (steps : List Step) → steps ≡ [] → AreApart 0 ys m → IsPlanned 0 steps
  unfolding steps_written
  planned_none steps is apart = record {
    end = 0;
    fits = subst (All (StepFits n)) (sym is) (All-nil (StepFits n));
    apart = subst (λ (t : List Step). AreInOrder 0 t 0) (sym is) (omega arith);
    left = apart;
    written = λ names from to src e long all le. ap (steps_written names from to src e 0) is;
    passes = refl;
  }

  -- what is written of a leaf is what is written of its values
  leaf_values : (names : Naming Target) (from to : Order) (src : List ℕ) (y : NamedLeaf)
      → leaf_written to (carried names from src) y ≡ values_written names from to src (source_leaf xs y) y
  unfolding carried_value
  leaf_values names from to src y = refl

  -- the leaf that comes next
  next_leaf : (i end : ℕ) → i < length ys → AreApart end (drop i ys) m
      → (end ≤ (get_or ys i no_leaf).offset) × AreApart (end_of_leaf (get_or ys i no_leaf)) (drop (i + 1) ys) m
  next_leaf i end lt apart = subst (λ (t : List NamedLeaf). AreApart end t m) (drop_more ys i no_leaf lt) apart

  -- one leaf more, of which some bytes are written
  one_more : (names : Naming Target) (from to : Order) (src : List ℕ) (i e : ℕ) (own : List ℕ) → i < length ys
      → values_written names from to src (source_leaf xs (get_or ys i no_leaf)) (get_or ys i no_leaf) ≡ own
      → leaves_written to (carried names from src) e 0 (take (i + 1) ys)
      ≡ leaves_written to (carried names from src) (get_or ys i no_leaf).offset 0 (take i ys) ++ (own ++ zeros (e - end_of_leaf (get_or ys i no_leaf)))
  one_more names from to src i e own lt is =
      let y : NamedLeaf = get_or ys i no_leaf in
      let value : NamedLeaf → ℕ → Value Target = carried names from src in
      ap (leaves_written to value e 0) (take_more ys i no_leaf lt)
      ∙ leaves_written-push to value e 0 (take i ys) y
      ∙ ap (λ (t : List ℕ). leaves_written to value y.offset 0 (take i ys) ++ (t ++ zeros (e - end_of_leaf y))) (leaf_values names from to src y ∙ is)

  -- it becomes zeros
  pub planned_fresh : (i : ℕ) (steps : List Step) → i < length ys → IsMet n (source_leaf xs (get_or ys i no_leaf)) (get_or ys i no_leaf) Fresh
      → IsPlanned i steps → IsPlanned (i + 1) steps
  planned_fresh i steps lt met before =
      let y : NamedLeaf = get_or ys i no_leaf in
      let next = next_leaf i before.end lt before.left in
      let further : before.end ≤ end_of_leaf y = omega (arith, next.0) in
      let none : clashes xs y ≡ false = clashes_by xs y (source_leaf xs y) refl ∙ met.1 in
      record {
        end = end_of_leaf y;
        fits = before.fits;
        apart = AreInOrder-more 0 before.end (end_of_leaf y) steps before.apart further;
        left = next.1;
        written = λ names from to src e long all le.
            let size : end_of_leaf y - y.offset ≡ y.size * y.count = omega arith in
            let rises : y.offset ≤ end_of_leaf y = omega arith in
            steps_written-more names from to src y.offset e 0 steps (AreInOrder-more 0 before.end y.offset steps before.apart next.0) (omega (arith, rises, le))
            ∙ ap (λ (t : List ℕ). t ++ zeros (e - y.offset)) (before.written names from to src y.offset long all next.0)
            ∙ ap (λ (t : List ℕ). leaves_written to (carried names from src) y.offset 0 (take i ys) ++ t)
            (sym (zeros_twice y.offset (end_of_leaf y) e rises le) ∙ ap (λ (k : ℕ). zeros k ++ zeros (e - end_of_leaf y)) size)
            ∙ sym (one_more names from to src i e (zeros (y.size * y.count)) lt (met.0.written names from to src long all));
        passes = sym (found_here xs ys i false lt none) ∙ before.passes;
      }

  -- a step carries it over
  pub planned_step : (i : ℕ) (steps new : List Step) (step : Step) → i < length ys
      → IsMet n (source_leaf xs (get_or ys i no_leaf)) (get_or ys i no_leaf) (Carried step) → new ≡ with_step steps step
      → IsPlanned i steps → IsPlanned (i + 1) new
  planned_step i steps new step lt met is before =
      let y : NamedLeaf = get_or ys i no_leaf in
      let next = next_leaf i before.end lt before.left in
      let own = met.0 in
      let none : clashes xs y ≡ false = clashes_by xs y (source_leaf xs y) refl ∙ met.1 in
      let behind : before.end ≤ step.to = omega (arith, next.0, own.place) in
      record {
        end = end_of_leaf y;
        fits = subst (All (StepFits n)) (sym is) (with_step-fits n steps step before.fits own.fits);
        apart = subst (λ (t : List Step). AreInOrder 0 t (end_of_leaf y)) (sym is)
            (with_step-order 0 (end_of_leaf y) steps step (AreInOrder-more 0 before.end step.to steps before.apart behind) own.end);
        left = next.1;
        written = λ names from to src e long all le.
            let value : NamedLeaf → ℕ → Value Target = carried names from src in
            let image : List ℕ = step_written names from to src step in
            let gap : List ℕ = zeros (end_of_leaf y - step_end step) in
            ap (steps_written names from to src e 0) is
            ∙ with_step-written names from to src e 0 steps step
            ∙ steps_written-push names from to src e 0 steps step
            ∙ ap (λ (k : ℕ). steps_written names from to src k 0 steps ++ (image ++ zeros (e - step_end step))) own.place
            ∙ ap (λ (t : List ℕ). t ++ (image ++ zeros (e - step_end step))) (before.written names from to src y.offset long all next.0)
            ∙ ap (λ (t : List ℕ). leaves_written to value y.offset 0 (take i ys) ++ (image ++ t)) (sym (zeros_twice (step_end step) (end_of_leaf y) e own.end le))
            ∙ ap (λ (t : List ℕ). leaves_written to value y.offset 0 (take i ys) ++ t) (sym (append_assoc image gap (zeros (e - end_of_leaf y))))
            ∙ sym (one_more names from to src i e (image ++ gap) lt (own.written names from to src long all));
        passes = sym (found_here xs ys i false lt none) ∙ before.passes;
      }

  -- a clash is the first one
  pub planned_clash : (i : ℕ) (steps : List Step) → i < length ys → IsMet n (source_leaf xs (get_or ys i no_leaf)) (get_or ys i no_leaf) Clash
      → IsPlanned i steps → first_clash xs ys ≡ Some (direct_member (get_or ys i no_leaf).way)
  unfolding first_clash
  planned_clash i steps lt met before =
      let y : NamedLeaf = get_or ys i no_leaf in
      let some : clashes xs y ≡ true = clashes_by xs y (source_leaf xs y) refl ∙ met in
      ap (option_map (λ (y : NamedLeaf). direct_member y.way)) (sym before.passes ∙ found_here xs ys i true lt some)

  -- behind the last leaf there is no clash
  pub planned_passes : (i : ℕ) (steps : List Step) → length ys ≤ i → IsPlanned i steps → first_clash xs ys ≡ None
  unfolding first_clash
  planned_passes i steps le before =
      ap (option_map (λ (y : NamedLeaf). direct_member y.way))
      (sym before.passes ∙ ap (find (clashes xs)) (drop_of_length-le ys le))

  ends_apart : (from to : ℕ) (zs : List NamedLeaf) → AreApart from zs to → from ≤ to
  ends_apart from to [] apart = apart
  ends_apart from to (z ∷ zs) apart = let later = ends_apart (end_of_leaf z) to zs apart.1 in omega (arith, apart.0, later)

  -- where the last leaf ends
  planned_end : (i : ℕ) (steps : List Step) (planned : IsPlanned i steps) → planned.end ≤ m
  planned_end i steps planned = ends_apart planned.end m (drop i ys) planned.left

  -- then the steps fit, and write what is written of all leaves
  pub planned_fits : (i : ℕ) (steps : List Step) → IsPlanned i steps → All (StepFits n) steps × AreInOrder 0 steps m
  planned_fits i steps planned = (planned.fits, AreInOrder-more 0 planned.end m steps planned.apart (planned_end i steps planned))

  pub planned_all : (names : Naming Target) (from to : Order) (src : List ℕ) (i : ℕ) (steps : List Step) → length ys ≤ i → length src ≡ n → All (λ b. b < 256) src
      → IsPlanned i steps → steps_written names from to src m 0 steps ≡ leaves_written to (carried names from src) m 0 ys
  planned_all names from to src i steps le long all planned =
      planned.written names from to src m long all (planned_end i steps planned)
      ∙ ap (leaves_written to (carried names from src) m 0) (take_all i ys le)

-- steps of all leaves are the plan
pub plan_made : (c : Catalogue) (v : Width) (s : ℕ) (d : Catalogue) (w : Width) (t i : ℕ) (steps : List Step) → length (named_leaves d w t) ≤ i
    → IsPlanned (struct_length c s) (struct_length d t) (named_leaves c v s) (named_leaves d w t) i steps → IsPlanOf c v s d w t (record { steps = steps })
plan_made c v s d w t i steps le planned =
    let n : ℕ = struct_length c s in
    let m : ℕ = struct_length d t in
    let xs : List NamedLeaf = named_leaves c v s in
    let ys : List NamedLeaf = named_leaves d w t in
    let fits = planned_fits n m xs ys i steps planned in
    record {
      fits = record { steps = fits.0; apart = fits.1 };
      carries = λ names from to src long all.
          planned_all n m xs ys names from to src i steps le long all planned
          ∙ sym (element_written-leaves to (λ y k. carried_value None names from xs src y k) m ys (λ j e lt. (named_leaves-have_bytes d w t j e lt).count));
    }

-- before the first leaf of a struct
pub plan_begun : (c : Catalogue) (v : Width) (s : ℕ) (d : Catalogue) (w : Width) (t : ℕ) (steps : List Step) → HasLayout d w → steps ≡ []
    → IsPlanned (struct_length c s) (struct_length d t) (named_leaves c v s) (named_leaves d w t) 0 steps
plan_begun c v s d w t steps has is =
    planned_none (struct_length c s) (struct_length d t) (named_leaves c v s) (named_leaves d w t) steps is
    (named_leaves-apart d w t (first_fault-none d w has.no_fault))

-- ---- numbers

-- a leaf has elements
pub count_some : (c : Catalogue) (w : Width) (s i : ℕ) (x : Leaf) → i < length (named_leaves c w s) → x ≡ leaf_of (get_or (named_leaves c w s) i no_leaf) → 1 ≤ x.count
count_some c w s i x lt is =
    let some = (named_leaves-have_bytes c w s i no_leaf lt).count in
    let same : x.count ≡ (get_or (named_leaves c w s) i no_leaf).count = ap (λ (z : Leaf). z.count) is in
    omega (arith, some, same)

-- the bytes that are kept of one are few
pub kept_fits : (c : Catalogue) (w : Width) (s i kept : ℕ) (x : Leaf) (y : NamedLeaf) → HasLayout c w → s < length c.structs → i < length (named_leaves c w s)
    → x ≡ leaf_of (get_or (named_leaves c w s) i no_leaf) → kept ≡ kept_count (get_or (named_leaves c w s) i no_leaf) y → kept * x.size < 2 ^ 32
kept_fits c w s i kept x y has there lt is kept_is =
    let z : NamedLeaf = get_or (named_leaves c w s) i no_leaf in
    let few = (kept_few z y).0 in
    let all : kept * z.size ≤ z.count * z.size = mul-le-mul_right z.size (omega (arith, few, kept_is)) in
    let turned : z.count * z.size ≡ z.size * z.count = omega arith in
    let within = (leaves_sound c w s has i no_leaf lt).within in
    let small = struct_length-small c s (IsCatalogue-can_be_read c has.can_be_read) there in
    let same : kept * x.size ≡ kept * z.size = ap (λ (v : Leaf). kept * v.size) is in
    omega (arith, all, turned, within, small, same)
