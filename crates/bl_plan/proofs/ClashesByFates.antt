-- A leaf clashes just where the printed fates of the members on its way say it. So a struct can't be carried to its namesake just
-- where a member of it, or one inside, is printed as float-cast; and the member that is told is such.
use Rattle.std.proofs.Common.{◌≡◌, ◌≢◌, ℕ, zero, suc, ◌*◌, ◌<◌, Bool, true, false, cond, All, List, [], ◌∷◌, ◌++◌, length, get_or, drop, Option, Some, None, refl, sym, ap, subst, ◌∙◌, arith, inl, inr}
use Rattle.std.specs.Prelude.{◌↔◌, ◌==◌, ◌&&◌, nat_lt, flat_map, option_map, unwrap_or}
use Rattle.std.specs.List.{find}
use Rattle.std.specs.Str.{bytes_eq}
use Rattle.std.proofs.lemmas.Bool.{and_parts, cases_lt, lt-ltb}
use Rattle.std.proofs.lemmas.List.{append-nil}
use Rattle.std.proofs.lemmas.List.Elements.{All-head, All-tail}
use Rattle.std.proofs.lemmas.List.Folds.{find-append}
use Rattle.std.proofs.lemmas.Slice.Eq.{bytes_eq-Decides}
use Rattle.bl_num.specs.declared.number.Order.TheVariants.{Little}
use Rattle.bl_num.specs.declared.number.Width.{Width}
use Rattle.bl_format.specs.declared.catalogue.Catalogue.{Catalogue}
use Rattle.bl_format.specs.Words.{numbers_below}
use Rattle.bl_format.specs.Layout.{MemberStep, NamedLeaf, HasLayout, struct_name, struct_number, name_of, member_count, member_size, element_size, inner_struct, member_step, own_leaf, no_leaf, inner_leaves, leaves_by, named_leaves}
use Rattle.bl_format.specs.Graph.{Value}
use Rattle.bl_format.proofs.LeavesApart.{flat_map-numbers_below}
use Rattle.bl_format.proofs.MemberPasses.{neither, inner_struct-some}
use Rattle.bl_selection.specs.declared.draft.Fate.{Fate}
use Rattle.bl_selection.specs.declared.draft.Fate.TheVariants as fates
use Rattle.bl_selection.specs.Fate.{fate_by_count, fate_of, member_of_key, clashes, direct_member, first_clash}
use Rattle.bl_selection.proofs.OwnFormStructs.{struct_number-own}
use Rattle.bl_layout.proofs.UnfoldLemmas.{named_leaves-members}
use Rattle.bl_plan.specs.Agreements.{met_member, LeafAgrees, InnerAgrees, struct_within, printed_fate, met_count, is_float_cast, is_met, clash_by_fates, HasFloatCast, directly, inside}
use Rattle.bl_plan.proofs.FirstLeafTable.{laid}
use Rattle.bl_plan.proofs.Found.{met_fate}
use Rattle.bl_plan.proofs.LeafWays.{IsLeafOf, named_begin}
use Rattle.bl_plan.proofs.LeavesFound.{full-leaves, find-map}
use Rattle.bl_plan.proofs.MemberFound.{leaves_in}
use Rattle.bl_plan.proofs.MemberMeets.{leaf_of_element}
use Rattle.bl_plan.proofs.FatesCarried.{IsOwn, IsEither, leaves_are, fresh-none, fresh-empty, fate_by_inner, inner_fate, fate-carried_leaf, fate-carried_inner}

-- ---- by one fate

module _ {P : Type 0} (null : P) (y : NamedLeaf) (clash : Bool) where
  -- a member's one leaf clashes by the member's fate
  leaf_clash : (fate : Fate) (x : NamedLeaf) (values carried : ℕ → Value P)
      → LeafAgrees fate null x y values carried clash → clash ≡ is_float_cast fate
  leaf_clash fates.Kept x values carried agrees = agrees.0
  leaf_clash fates.Cast x values carried agrees = agrees.0
  leaf_clash fates.Cut x values carried agrees = agrees.0
  leaf_clash fates.Extended x values carried agrees = agrees.0
  leaf_clash fates.Fresh x values carried agrees = agrees.0
  leaf_clash fates.FloatCast x values carried agrees = agrees

  -- one in an element clashes by the fate and the element, where it clashes inside
  inner_clash : (fate : Fate) (n m e : ℕ) (within carried : ℕ → Value P) (clash_inside : Bool)
      → InnerAgrees fate null n m e y within carried clash_inside clash
      → clash ≡ (is_met fate && nat_lt e n && clash_inside)
  inner_clash fates.Kept n m e within carried clash_inside agrees = agrees.0
  inner_clash fates.Cast n m e within carried clash_inside agrees = absurd agrees
  inner_clash fates.Cut n m e within carried clash_inside agrees = agrees.0
  inner_clash fates.Extended n m e within carried clash_inside agrees = agrees.0
  inner_clash fates.Fresh n m e within carried clash_inside agrees = agrees.0
  inner_clash fates.FloatCast n m e within carried clash_inside agrees = absurd agrees

-- behind a test that fails nothing counts
and_where : (b more x y : Bool) → (b ≡ true → x ≡ y) → (b && more && x) ≡ (b && more && y)
and_where true more x y same = ap (λ z. more && z) (same refl)
and_where false more x y same = refl

-- a fate is float-cast where the test says it
float_cast-is : (fate : Fate) → is_float_cast fate ≡ true → fate ≡ fates.FloatCast
float_cast-is fates.Kept is = absurd (cc)
float_cast-is fates.Cast is = absurd (cc)
float_cast-is fates.Cut is = absurd (cc)
float_cast-is fates.Extended is = absurd (cc)
float_cast-is fates.Fresh is = absurd (cc)
float_cast-is fates.FloatCast is = refl

-- a fate by counts isn't
counts_no_cast : (n m : ℕ) → is_float_cast (fate_by_count n m) ≡ false
counts_no_cast n m = by (nat_lt m n) (nat_lt n m)
  where
    by : (a b : Bool) → is_float_cast (cond a fates.Cut (cond b fates.Extended fates.Kept)) ≡ false
    by true b = refl
    by false true = refl
    by false false = refl

-- ---- a member that meets one

-- a fate is fresh where the target's member has no bytes
fresh-target : (c : Catalogue) (v : Width) (s : ℕ) (d : Catalogue) (w : Width) (t k j : ℕ)
    → member_of_key c s (name_of d t k).key ≡ Some j → (member_size c v s j == 0) ≡ false → (member_size d w t k == 0) ≡ true
    → fate_of c v s d w t k ≡ fates.Fresh
unfolding fate_of
fresh-target c v s d w t k j found full empty = rw (found, full, empty) refl

positive : (a n : ℕ) → (a * n == 0) ≡ false → 0 < n
positive a zero full =
    let none : a * 0 ≡ 0 = omega arith in
    let some : (0 == 0) ≡ false = ap (λ m. m == 0) (sym none) ∙ full in
    absurd (cc)
positive a (suc n) full = omega arith

-- a member with bytes has elements
has_elements : (c : Catalogue) (w : Width) (s k : ℕ) → (member_size c w s k == 0) ≡ false → 0 < (name_of c s k).count
unfolding member_size
has_elements c w s k full = positive (element_size c w s k) (name_of c s k).count full

-- a member meets one, and both have bytes
record IsMet (c : Catalogue) (v : Width) (s : ℕ) (d : Catalogue) (w : Width) (t k : ℕ) : Type 0 where
  member : ℕ
  found : member_of_key c s (name_of d t k).key ≡ Some member
  source_full : (member_size c v s member == 0) ≡ false
  full : (member_size d w t k == 0) ≡ false

-- so it is where its fate isn't fresh
is_met-IsMet : (c : Catalogue) (v : Width) (s : ℕ) (d : Catalogue) (w : Width) (t k : ℕ)
    → is_met (fate_of c v s d w t k) ≡ true → IsMet c v s d w t k
is_met-IsMet c v s d w t k met = by (member_of_key c s (name_of d t k).key) refl
  where
    fresh : fate_of c v s d w t k ≡ fates.Fresh → IsMet c v s d w t k
    fresh same = let differ : true ≡ false = sym met ∙ ap is_met same in absurd (cc)

    by_sizes : (j : ℕ) → member_of_key c s (name_of d t k).key ≡ Some j → (a b : Bool)
        → (member_size c v s j == 0) ≡ a → (member_size d w t k == 0) ≡ b → IsMet c v s d w t k
    by_sizes j found true b empty size = fresh (fresh-empty c v s d w t k j found empty)
    by_sizes j found false true full empty = fresh (fresh-target c v s d w t k j found full empty)
    by_sizes j found false false full full' = record { member = j; found = found; source_full = full; full = full' }

    by : (o : Option ℕ) → member_of_key c s (name_of d t k).key ≡ o → IsMet c v s d w t k
    by None none = fresh (fresh-none c v s d w t k none)
    by (Some j) found = by_sizes j found (member_size c v s j == 0) (member_size d w t k == 0) refl refl

-- ---- a struct by value that meets one

-- struct u of the one catalogue has the name of struct f of the other
record IsNamesake (c : Catalogue) (u : ℕ) (d : Catalogue) (f : ℕ) : Type 0 where
  within : u < length c.structs
  name : struct_name c u ≡ struct_name d f

module _ (c d : Catalogue) (v w : Width) (has : HasLayout c v) (has' : HasLayout d w) (s t k : ℕ) (there : s < length c.structs)
    (there' : t < length d.structs) (below : k < member_count d t) (name : struct_name c s ≡ struct_name d t)
    (met : is_met (fate_of c v s d w t k) ≡ true) (f : ℕ) (inner : inner_struct d t k ≡ Some f) where
  one : IsMet c v s d w t k
  one = is_met-IsMet c v s d w t k met

  abbrev by_inner : Option ℕ → Fate
  by_inner o = fate_by_inner 0 (λ a. a) Little [] c d v w s t k has has' there there' below name one.member f o

  fate_is : fate_of c v s d w t k ≡ by_inner (inner_struct c s one.member)
  fate_is =
      sym (met_fate c v s d w t k one.member one.found one.source_full one.full)
      ∙ inner_fate 0 (λ a. a) Little [] c d v w s t k has has' there there' below name one.member f
      (inner_struct c s one.member) inner refl

  -- that one has its name
  namesake : IsNamesake c (struct_within c s (met_member c s d t k)) d f
  namesake =
      subst (λ (o : Option ℕ). IsNamesake c (struct_within c s (unwrap_or o 0)) d f) (sym one.found)
      (by (inner_struct c s one.member) refl fate_is)
    where
      fresh : (u : ℕ) → fate_of c v s d w t k ≡ fates.Fresh → IsNamesake c u d f
      fresh u same = let differ : true ≡ false = sym met ∙ ap is_met same in absurd (cc)

      by_name : (u : ℕ) → inner_struct c s one.member ≡ Some u → (b : Bool) → bytes_eq (struct_name c u) (struct_name d f) ≡ b
          → fate_of c v s d w t k ≡ cond b (fate_by_count (name_of c s one.member).count (name_of d t k).count) fates.Fresh
          → IsNamesake c u d f
      by_name u some true alike fate = record {
        within = (inner_struct-some c s one.member u some).is_struct.within;
        name = (bytes_eq-Decides (struct_name c u) (struct_name d f)).0 alike;
      }
      by_name u some false alike fate = fresh u fate

      by : (o : Option ℕ) → inner_struct c s one.member ≡ o → fate_of c v s d w t k ≡ by_inner o
          → IsNamesake c (unwrap_or o 0) d f
      by None none fate = fresh 0 fate
      by (Some u) some fate = by_name u some (bytes_eq (struct_name c u) (struct_name d f)) refl fate

  -- and its fate isn't float-cast
  struct_no_cast : is_float_cast (fate_of c v s d w t k) ≡ false
  struct_no_cast = ap is_float_cast fate_is ∙ by (inner_struct c s one.member)
    where
      by_name : (b : Bool)
          → is_float_cast (cond b (fate_by_count (name_of c s one.member).count (name_of d t k).count) fates.Fresh) ≡ false
      by_name true = counts_no_cast (name_of c s one.member).count (name_of d t k).count
      by_name false = refl

      by : (o : Option ℕ) → is_float_cast (by_inner o) ≡ false
      by None = refl
      by (Some u) = by_name (bytes_eq (struct_name c u) (struct_name d f))

-- ---- what is found

-- where two tests tell the same of each element, they find the same
find-alike : {X : Type 0} (p q : X → Bool) (xs : List X) → All (λ x. p x ≡ q x) xs → find p xs ≡ find q xs
find-alike p q [] same = refl
find-alike p q (x ∷ xs) same =
    let first = All-head (λ x. p x ≡ q x) x xs same in
    let later = find-alike p q xs (All-tail (λ x. p x ≡ q x) x xs same) in
    λ i. cond (first i) (Some x) (later i)

-- where nothing is found in what all numbers give, nothing is in what one of them gives
find-in : {X : Type 0} (p : X → Bool) (f : ℕ → List X) (n k : ℕ) → k < n
    → find p (flat_map f (numbers_below n)) ≡ None → find p (f k) ≡ None
find-in p f zero k lt none = absurd (omega arith)
find-in {X} p f (suc n) k lt none =
    let before : List X = flat_map f (numbers_below n) in
    let list = flat_map-numbers_below f n ∙ ap (λ xs. before ++ xs) (append-nil (f n)) in
    let both = neither (find p before) (find p (f n)) (sym (ap (find p) list ∙ find-append p before (f n)) ∙ none) in
    elim (cases_lt k n) [
      | inl less ↦ find-in p f n k less both.0
      | inr more ↦ (let same : k ≡ n = omega (arith, more, lt) in ap (λ i. find p (f i)) same ∙ both.1)
    ]

-- what holds wherever an element passes holds where one is found
where_found : {X R : Type 0} (p : X → Bool) (xs : List X) → All (λ x. p x ≡ true → R) xs → find p xs ≢ None → R
where_found p [] each some = absurd (some refl)
where_found {X} {R} p (x ∷ xs) each some = by (p x) refl (where_found p xs (All-tail (λ x. p x ≡ true → R) x xs each))
  where
    by : (b : Bool) → p x ≡ b → (find p xs ≢ None → R) → R
    by true is later = All-head (λ x. p x ≡ true → R) x xs each is
    by false is later = later (λ none. some (ap (λ b. cond b (Some x) (find p xs)) is ∙ none))

-- what is found passes
found-passes : {X : Type 0} (p : X → Bool) (xs : List X) (y : X) → find p xs ≡ Some y → p y ≡ true
found-passes p [] y found = absurd (cc)
found-passes {X} p (x ∷ xs) y found = by (p x) refl found (found-passes p xs y)
  where
    by : (b : Bool) → p x ≡ b → cond b (Some x) (find p xs) ≡ Some y → (find p xs ≡ Some y → p y ≡ true) → p y ≡ true
    by true is same later = let own : x ≡ y = cc in ap p (sym own) ∙ is
    by false is same later = later same

unmapped : {X Y : Type 0} (h : X → Y) (o : Option X) → option_map h o ≡ None → o ≡ None
unmapped h None is = refl
unmapped h (Some x) is = absurd (cc)

-- ---- along the way

module _ (c d : Catalogue) (v w : Width) (has : HasLayout c v) (has' : HasLayout d w) where
  -- the printed fates say of a leaf that it clashes
  abbrev says : NamedLeaf → Bool
  says y = clash_by_fates c v d w y.way

  -- the struct of a name is the one that has it
  numbered : (s t : ℕ) → s < length c.structs → struct_name c s ≡ struct_name d t → s ≡ struct_number c (struct_name d t)
  numbered s t there name = sym (ap (struct_number c) (sym name) ∙ struct_number-own c s has.can_be_read there)

  -- what they say behind one step more
  one_more : (t k e f : ℕ) (y : NamedLeaf) → IsLeafOf d f y
      → says (leaf_of_element d w t k e y) ≡ (is_met (printed_fate c v d w t k) && nat_lt e (met_count c d t k) && says y)
  one_more t k e f y leaf =
      subst (λ way. clash_by_fates c v d w (member_step d t k e ∷ way)
      ≡ (is_met (printed_fate c v d w t k) && nat_lt e (met_count c d t k) && clash_by_fates c v d w way))
      (sym leaf.begins.way_is) refl

  -- what is to be shown of a leaf of a struct that meets struct s
  abbrev ClashIs : ℕ → NamedLeaf → Type 0
  ClashIs s y = clashes (named_leaves c v s) y ≡ says y

  own : (s t : ℕ) (y : NamedLeaf) → s < length c.structs → t < length d.structs → struct_name c s ≡ struct_name d t
      → IsOwn d w t y → ClashIs s y
  own s t y there there' name is =
      let k : ℕ = is.member in
      subst (ClashIs s) (sym is.leaf_is)
      (leaf_clash 0 (own_leaf d w t k) _ (fate_of c v s d w t k) _ _ _
      (fate-carried_leaf 0 (λ a. a) Little [] c d v w s t k has has' there there' is.below name is.own is.full)
      ∙ ap (λ i. is_float_cast (fate_of c v i d w t k)) (numbered s t there name))

  -- at a step, by what is said further on
  step_on : (s t k f e : ℕ) (y : NamedLeaf) → s < length c.structs → t < length d.structs → k < member_count d t
      → struct_name c s ≡ struct_name d t → inner_struct d t k ≡ Some f → (member_size d w t k == 0) ≡ false → IsLeafOf d f y
      → ((u : ℕ) → IsNamesake c u d f → ClashIs u y) → ClashIs s (leaf_of_element d w t k e y)
  step_on s t k f e y there there' below name inner full leaf further =
      let j : ℕ = met_member c s d t k in
      let fate : Fate = fate_of c v s d w t k in
      inner_clash 0 y _ fate (name_of c s j).count (name_of d t k).count e _ _ _
      (fate-carried_inner 0 (λ a. a) Little [] c d v w s t k has has' there there' below name f e y inner full leaf)
      ∙ and_where (is_met fate) (nat_lt e (name_of c s j).count) _ _
      (λ met. further (struct_within c s j) (namesake c d v w has has' s t k there there' below name met f inner))
      ∙ ap (λ i. is_met (fate_of c v i d w t k) && nat_lt e (name_of c i (met_member c i d t k)).count && says y)
      (numbered s t there name)
      ∙ sym (one_more t k e f y leaf)

  -- each leaf, by recursion on its way
  by_way : (way : List MemberStep) (s t : ℕ) (y : NamedLeaf) → y.way ≡ way → s < length c.structs → t < length d.structs
      → struct_name c s ≡ struct_name d t → IsEither d w t y → ClashIs s y
  by_way way s t y is there there' name (inl direct) = own s t y there there' name direct
  by_way [] s t y is there there' name (inr within) =
      let none : [] ≡ y.way = sym is in
      let some = ap (λ (x : NamedLeaf). x.way) within.leaf_is in
      absurd (cc)
  by_way (step ∷ way) s t y is there there' name (inr within) =
      let f : ℕ = within.struct in
      let z : NamedLeaf = get_or (named_leaves d w f) within.place no_leaf in
      let lt = (inner_struct-some d t within.member f within.inner).is_struct.within in
      let rest : z.way ≡ way = ap (λ (x : NamedLeaf). drop 1 x.way) (sym within.leaf_is) ∙ ap (drop 1) is in
      subst (ClashIs s) (sym within.leaf_is)
      (step_on s t within.member f within.element z there there' within.below name within.inner within.full
      (named_begin d w f within.place no_leaf within.place_below)
      (λ u same. by_way way u f z rest same.within lt same.name
      (leaves_are d w f has' lt within.place no_leaf within.place_below)))

  -- a leaf clashes just where the printed fates on its way say it
  pub clash-by_fates : (s t : ℕ) → s < length c.structs → t < length d.structs → struct_name c s ≡ struct_name d t
      → All (λ y. clashes (named_leaves c v s) y ≡ clash_by_fates c v d w y.way) (named_leaves d w t)
  clash-by_fates s t there there' name i z below =
      let y : NamedLeaf = get_or (named_leaves d w t) i z in
      by_way y.way s t y refl there there' name (leaves_are d w t has' there' i z below)

  -- the first member that can't be carried is that of the first leaf of which they say it
  pub first_clash-by_fates : (s t : ℕ) → s < length c.structs → t < length d.structs → struct_name c s ≡ struct_name d t
      → first_clash (named_leaves c v s) (named_leaves d w t)
      ≡ option_map (λ (y : NamedLeaf). direct_member y.way)
      (find (λ (y : NamedLeaf). clash_by_fates c v d w y.way) (named_leaves d w t))
  unfolding first_clash
  first_clash-by_fates s t there there' name =
      ap (option_map (λ (y : NamedLeaf). direct_member y.way))
      (find-alike (clashes (named_leaves c v s)) says (named_leaves d w t) (clash-by_fates s t there there' name))

  -- ---- members

  -- where they say it of a leaf, the fate of a member is float-cast
  told : (way : List MemberStep) (t : ℕ) (y : NamedLeaf) → y.way ≡ way → t < length d.structs → IsEither d w t y
      → says y ≡ true → HasFloatCast c v d w t
  told way t y is there (inl direct) clash =
      let at = ap says (sym direct.leaf_is) ∙ clash in
      directly t direct.member direct.below (float_cast-is (printed_fate c v d w t direct.member) at)
  told [] t y is there (inr within) clash =
      let none : false ≡ true = ap (clash_by_fates c v d w) (sym is) ∙ clash in
      absurd (cc)
  told (step ∷ way) t y is there (inr within) clash =
      let k : ℕ = within.member in
      let f : ℕ = within.struct in
      let z : NamedLeaf = get_or (named_leaves d w f) within.place no_leaf in
      let lt = (inner_struct-some d t k f within.inner).is_struct.within in
      let rest : z.way ≡ way = ap (λ (x : NamedLeaf). drop 1 x.way) (sym within.leaf_is) ∙ ap (drop 1) is in
      let all = sym (one_more t k within.element f z (named_begin d w f within.place no_leaf within.place_below))
      ∙ ap says (sym within.leaf_is) ∙ clash in
      let met : Bool = is_met (printed_fate c v d w t k) in
      let there : Bool = nat_lt within.element (met_count c d t k) in
      let last = and_parts (met && there) (says z) all in
      inside t k f within.below within.inner (and_parts met there last.0).0
      (told way f z rest lt (leaves_are d w f has' lt within.place no_leaf within.place_below) last.1)

  -- where they say it of no leaf of a struct, they do of none of a member's
  none_in : (t k : ℕ) → t < length d.structs → k < member_count d t → (member_size d w t k == 0) ≡ false → (o : Option ℕ)
      → inner_struct d t k ≡ o → find says (named_leaves d w t) ≡ None
      → find says (leaves_by (named_leaves d w) d w t k o) ≡ None
  none_in t k there below full o inner none =
      let of = laid d w t has' there in
      ap (find says) (sym (full-leaves d w t k full ∙ ap (leaves_by (named_leaves d w) d w t k) inner))
      ∙ find-in says (leaves_in d w t) (member_count d t) k below
      (ap (find says) (sym (named_leaves-members d w t of.no_fault of.deep of.within)) ∙ none)

  -- where the fate of a member is float-cast, they say it of a leaf
  cast_told : (s t : ℕ) → s < length c.structs → t < length d.structs → struct_name c s ≡ struct_name d t
      → HasFloatCast c v d w t → find says (named_leaves d w t) ≢ None
  cast_told s t there there' name (directly _ k below cast) none = by (inner_struct d t k) refl
    where
      fate : fate_of c v s d w t k ≡ fates.FloatCast
      fate = ap (λ i. fate_of c v i d w t k) (numbered s t there name) ∙ cast

      met : is_met (fate_of c v s d w t k) ≡ true
      met = ap is_met fate

      by : (o : Option ℕ) → inner_struct d t k ≡ o → ⊥
      by None own =
          let own_none = none_in t k there' below (is_met-IsMet c v s d w t k met).full None own none in
          let own_some : find says (own_leaf d w t k ∷ []) ≡ Some (own_leaf d w t k) =
          ap (λ f. cond (is_float_cast f) (Some (own_leaf d w t k)) None) cast in
          cc
      by (Some f) inner =
          let no = struct_no_cast c d v w has has' s t k there there' below name met f inner in
          let yes = ap is_float_cast fate in
          cc
  cast_told s t there there' name (inside _ k f below inner printed further) none =
      let met : is_met (fate_of c v s d w t k) ≡ true =
      ap (λ i. is_met (fate_of c v i d w t k)) (numbered s t there name) ∙ printed in
      let is = is_met-IsMet c v s d w t k met in
      let same = namesake c d v w has has' s t k there there' below name met f inner in
      let ys : List NamedLeaf = named_leaves d w f in
      let count : 0 < met_count c d t k =
      subst (λ i. 0 < (name_of c i (met_member c i d t k)).count) (numbered s t there name)
      (subst (λ (o : Option ℕ). 0 < (name_of c s (unwrap_or o 0)).count) (sym is.found)
      (has_elements c v s is.member is.source_full)) in
      let at = lt-ltb 0 (met_count c d t k) count in
      let elements = none_in t k there' below is.full (Some f) inner none in
      let first = find-in says (inner_leaves ys d w t k) (name_of d t k).count 0 (has_elements d w t k is.full) elements in
      let behind : NamedLeaf → Bool = λ y. says (leaf_of_element d w t k 0 y) in
      let made = find-map says behind (leaf_of_element d w t k 0) ys (λ y. refl) in
      let alike = find-alike behind says ys (λ i z lt. one_more t k 0 f (get_or ys i z) (named_begin d w f i z lt)
      ∙ (λ n. printed n && at n && says (get_or ys i z))) in
      let within = (inner_struct-some d t k f inner).is_struct.within in
      cast_told (struct_within c s (met_member c s d t k)) f same.within within same.name further
      (sym alike ∙ unmapped (leaf_of_element d w t k 0) (find behind ys) (sym made ∙ first))

  -- struct s can't be carried to its namesake t just where a member of t, or one inside, is printed as float-cast
  pub first_clash-HasFloatCast : (s t : ℕ) → s < length c.structs → t < length d.structs → struct_name c s ≡ struct_name d t
      → (first_clash (named_leaves c v s) (named_leaves d w t) ≢ None) ↔ HasFloatCast c v d w t
  first_clash-HasFloatCast s t there there' name =
      let is = first_clash-by_fates s t there there' name in (
        λ some. where_found says (named_leaves d w t)
            (λ i z lt. told _ t (get_or (named_leaves d w t) i z) refl there' (leaves_are d w t has' there' i z lt))
            (λ none. some (is ∙ ap (option_map (λ (y : NamedLeaf). direct_member y.way)) none)),
        λ cast none. cast_told s t there there' name cast
            (unmapped (λ (y : NamedLeaf). direct_member y.way) (find says (named_leaves d w t)) (sym is ∙ none)),
      )

  -- where they say it of a way, the last member on it is printed as float-cast
  last_cast : (way : List MemberStep) → clash_by_fates c v d w way ≡ true
      → printed_fate c v d w (direct_member way).0 (direct_member way).1 ≡ fates.FloatCast
  last_cast [] clash = absurd (cc)
  last_cast (step ∷ []) clash = float_cast-is (printed_fate c v d w step.s step.member) clash
  last_cast (step ∷ next ∷ steps) clash =
      last_cast (next ∷ steps)
      (and_parts (is_met (printed_fate c v d w step.s step.member) && nat_lt step.element (met_count c d step.s step.member))
      (clash_by_fates c v d w (next ∷ steps)) clash).1

  -- the member that is told where s can't be carried is printed as float-cast
  pub first_clash-float_cast : (s t u k : ℕ) → s < length c.structs → t < length d.structs → struct_name c s ≡ struct_name d t
      → first_clash (named_leaves c v s) (named_leaves d w t) ≡ Some (u, k) → printed_fate c v d w u k ≡ fates.FloatCast
  first_clash-float_cast s t u k there there' name is =
      by (find says (named_leaves d w t)) refl (sym (first_clash-by_fates s t there there' name) ∙ is)
    where
      by : (o : Option NamedLeaf) → find says (named_leaves d w t) ≡ o
          → option_map (λ (y : NamedLeaf). direct_member y.way) o ≡ Some (u, k) → printed_fate c v d w u k ≡ fates.FloatCast
      by None found told = absurd (cc)
      by (Some y) found told =
          let same : direct_member y.way ≡ (u, k) = cc in
          subst (λ m. printed_fate c v d w m.0 m.1 ≡ fates.FloatCast) same
          (last_cast y.way (found-passes says (named_leaves d w t) y found))
