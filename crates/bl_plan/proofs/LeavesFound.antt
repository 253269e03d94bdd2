-- The leaf that a leaf meets, by the member of its key: that member's own leaf, or one inside the struct that it is by value.
use Rattle.std.proofs.Common.{◌≡◌, ◌≢◌, ℕ, zero, suc, ◌≤◌, ◌<◌, Bool, true, false, cond, All, List, [], ◌∷◌, ◌++◌, get_or, Option, Some, None, refl, sym, ap, ◌∙◌, arith, inl, inr, eq-eqb, eqb-true}
use Rattle.std.specs.Prelude.{◌==◌, ◌&&◌, nat_lt, map, flat_map, option_map}
use Rattle.std.specs.List.{find}
use Rattle.std.specs.Option.{option_or}
use Rattle.std.specs.Str.{bytes_eq}
use Rattle.std.proofs.lemmas.Bool.{cases_lt, false_from_ne_true, ltb-true, ltb-false}
use Rattle.std.proofs.lemmas.List.{append-nil}
use Rattle.std.proofs.lemmas.List.Elements.{All-map}
use Rattle.std.proofs.lemmas.Slice.Eq.{bytes_eq-Decides}
use Rattle.bl_num.specs.declared.number.Width.{Width}
use Rattle.bl_format.specs.declared.catalogue.Catalogue.{Catalogue}
use Rattle.bl_format.specs.Words.{numbers_below}
use Rattle.bl_format.specs.Layout.{NamedLeaf, struct_name, name_of, member_count, member_size, inner_struct, member_step, own_leaf, inner_leaves, leaves_by, member_leaves, named_leaves}
use Rattle.bl_format.proofs.LeafKinds.{each_number}
use Rattle.bl_format.proofs.LeavesApart.{flat_map-numbers_below}
use Rattle.bl_format.proofs.NumbersBelow.{length-numbers_below, get_or-numbers_below}
use Rattle.bl_selection.specs.Fate.{member_of_key, source_leaf, ways_meet}
use Rattle.bl_selection.proofs.NothingClashes.{find-none}
use Rattle.bl_layout.proofs.UnfoldLemmas.{named_leaves-members}
use Rattle.bl_plan.proofs.FirstPlaces.{PassesOnlyIn, first_place-passes, none-passes, fails_too}
use Rattle.bl_plan.proofs.LeafWays.{Begins, IsLeafOf, member_begins, named_begin, keys_differ, meet-keys, meet-behind, meet-own_inner, meet-inner_own, meet-other_names}
use Rattle.bl_plan.proofs.MemberFound.{IsLaid, HasKey, leaves_in}
use Rattle.bl_plan.proofs.MemberMeets.{leaf_of_element}

-- ---- what is found

find-append : {X : Type 0} (p : X → Bool) (xs ys : List X) → find p (xs ++ ys) ≡ option_or (find p xs) (find p ys)
find-append p [] ys = refl
find-append {X} p (x ∷ xs) ys = by (p x) (find-append p xs ys)
  where
    by : (b : Bool) → find p (xs ++ ys) ≡ option_or (find p xs) (find p ys)
        → cond b (Some x) (find p (xs ++ ys)) ≡ option_or (cond b (Some x) (find p xs)) (find p ys)
    by true later = refl
    by false later = later

or-none : {X : Type 0} (o : Option X) → option_or o None ≡ o
or-none None = refl
or-none (Some x) = refl

-- of all lists that the numbers below n give, only that of number k has what is found
find-among : {X : Type 0} (p : X → Bool) (f : ℕ → List X) (n k : ℕ) → k < n → PassesOnlyIn p f n k
    → find p (flat_map f (numbers_below n)) ≡ find p (f k)
find-among p f zero k lt only = absurd (omega arith)
find-among {X} p f (suc n) k lt only =
    let before : List X = flat_map f (numbers_below n) in
    ap (find p) (flat_map-numbers_below f n ∙ ap (λ xs. before ++ xs) (append-nil (f n))) ∙ find-append p before (f n)
    ∙ elim (cases_lt k n) [
      | inl less ↦ (ap (λ o. option_or (find p before) o) (find-none p (f n) (only n (omega arith) (λ same. omega (arith, same, less))))
          ∙ or-none (find p before) ∙ find-among p f n k less (λ i below other. only i (omega (arith, below)) other))
      | inr more ↦ (let same : k ≡ n = omega (arith, more, lt) in
          ap (λ o. option_or o (find p (f n))) (find-none p before (each_number (λ x. p x ≡ false) f n (λ i below. only i (omega (arith, below)) (λ e. omega (arith, e, same, below)))))
          ∙ ap (λ i. find p (f i)) (sym same))
    ]

find-nowhere : {X : Type 0} (p : X → Bool) (f : ℕ → List X) (n : ℕ)
    → ((i : ℕ) → i < n → All (λ x. p x ≡ false) (f i)) → find p (flat_map f (numbers_below n)) ≡ None
find-nowhere p f n none = find-none p (flat_map f (numbers_below n)) (each_number (λ x. p x ≡ false) f n none)

-- of a map the one is found that is made of what is found
pub find-map : {X Y : Type 0} (p : X → Bool) (q : Y → Bool) (h : Y → X) (ys : List Y)
    → ((y : Y) → p (h y) ≡ q y) → find p (map h ys) ≡ option_map h (find q ys)
find-map p q h [] same = refl
find-map {X} {Y} p q h (y ∷ ys) same =
    ap (λ b. cond b (Some (h y)) (find p (map h ys))) (same y) ∙ by (q y) (find-map p q h ys same)
  where
    by : (b : Bool) → find p (map h ys) ≡ option_map h (find q ys)
        → cond b (Some (h y)) (find p (map h ys)) ≡ option_map h (cond b (Some y) (find q ys))
    by true later = refl
    by false later = later

-- ---- the member of a key

abbrev of_key : Catalogue → ℕ → List ℕ → ℕ → Bool
of_key c s key i = bytes_eq (name_of c s i).key key

-- the member that is found has the key
record IsOfKey (c : Catalogue) (s : ℕ) (key : List ℕ) (j : ℕ) : Type 0 where
  below : j < member_count c s
  key_is : (name_of c s j).key ≡ key

found_of_key : (c : Catalogue) (s : ℕ) (key : List ℕ) (j : ℕ) → member_of_key c s key ≡ Some j → IsOfKey c s key j
found_of_key c s key j found =
    let n : ℕ = member_count c s in
    let h = first_place-passes (of_key c s key) (numbers_below n) j found in
    let lt : j < n = omega (arith, h.within, length-numbers_below n) in
    record {
      below = lt;
      key_is = (bytes_eq-Decides (name_of c s j).key key).0 (ap (of_key c s key) (sym (get_or-numbers_below n j 0 lt)) ∙ h.passes 0);
    }

none_of_key : (c : Catalogue) (s : ℕ) (key : List ℕ) (i : ℕ) → member_of_key c s key ≡ None → i < member_count c s → of_key c s key i ≡ false
none_of_key c s key i none lt =
    let n : ℕ = member_count c s in
    ap (of_key c s key) (sym (get_or-numbers_below n i 0 lt))
    ∙ none-passes (of_key c s key) (numbers_below n) none i 0 (omega (arith, lt, length-numbers_below n))

module _ (c : Catalogue) (w : Width) (s : ℕ) (key : List ℕ) (y : NamedLeaf) (laid : IsLaid c w s) (has : HasKey key y) where
  -- a leaf that it meets has its key
  met_of_key : (i : ℕ) (x : NamedLeaf) → Begins c s i x → ways_meet x.way y.way ≡ true → of_key c s key i ≡ true
  met_of_key i x begins meet =
      ap (λ q. of_key c s q i) (sym has.key_is) ∙ meet-keys c has.catalogue s i has.s has.member x y begins has.begins meet

  -- where no member has the key, it meets none
  pub met-none : member_of_key c s key ≡ None → source_leaf (named_leaves c w s) y ≡ None
  met-none none =
      ap (find (λ (x : NamedLeaf). ways_meet x.way y.way)) (named_leaves-members c w s laid.no_fault laid.deep laid.within)
      ∙ find-nowhere (λ (x : NamedLeaf). ways_meet x.way y.way) (leaves_in c w s) (member_count c s)
      (λ i lt z d within. (let x : NamedLeaf = get_or (leaves_in c w s i) z d in
      fails_too (ways_meet x.way y.way) (of_key c s key i) (met_of_key i x (member_begins (named_leaves c w) c w s i z d within)) (none_of_key c s key i none lt)))

  -- else it meets what it meets among the leaves of that member
  pub met-some : (j : ℕ) → member_of_key c s key ≡ Some j → source_leaf (named_leaves c w s) y ≡ source_leaf (leaves_in c w s j) y
  met-some j found =
      let own = found_of_key c s key j found in
      ap (find (λ (x : NamedLeaf). ways_meet x.way y.way)) (named_leaves-members c w s laid.no_fault laid.deep laid.within)
      ∙ find-among (λ (x : NamedLeaf). ways_meet x.way y.way) (leaves_in c w s) (member_count c s) j own.below
      (λ i lt other z d within. (let x : NamedLeaf = get_or (leaves_in c w s i) z d in
      false_from_ne_true (ways_meet x.way y.way) (λ meet.
      keys_differ c w s i j laid.no_fault lt own.below other
      ((bytes_eq-Decides (name_of c s i).key key).0 (met_of_key i x (member_begins (named_leaves c w) c w s i z d within) meet) ∙ sym own.key_is))))

-- a member without bytes has no leaves
pub empty-leaves : (c : Catalogue) (w : Width) (s k : ℕ) → (member_size c w s k == 0) ≡ true → leaves_in c w s k ≡ []
unfolding member_leaves
empty-leaves c w s k is = ap (λ b. cond b [] (leaves_by (named_leaves c w) c w s k (inner_struct c s k))) is

-- another one has its own, or those inside
pub full-leaves : (c : Catalogue) (w : Width) (s k : ℕ) → (member_size c w s k == 0) ≡ false
    → leaves_in c w s k ≡ leaves_by (named_leaves c w) c w s k (inner_struct c s k)
unfolding member_leaves
full-leaves c w s k is = ap (λ b. cond b [] (leaves_by (named_leaves c w) c w s k (inner_struct c s k))) is

-- the key of the member that is found is the key
pub key_found : (c : Catalogue) (s : ℕ) (key : List ℕ) (j : ℕ) → member_of_key c s key ≡ Some j → (name_of c s j).key ≡ key
key_found c s key j found = (found_of_key c s key j found).key_is

-- ---- among the leaves of one member

-- a member's own leaf, if it is no struct by value
abbrev pub own_if : NamedLeaf → Option ℕ → Option NamedLeaf
own_if x None = Some x
own_if x (Some u) = None

-- a leaf that stands directly in a struct meets such a leaf alone
pub own-found : (c d : Catalogue) (v w : Width) (s j t k : ℕ) (o : Option ℕ)
    → struct_name c s ≡ struct_name d t → (name_of c s j).key ≡ (name_of d t k).key
    → source_leaf (leaves_by (named_leaves c v) c v s j o) (own_leaf d w t k) ≡ own_if (own_leaf c v s j) o
own-found c d v w s j t k None name key =
    ap (λ b. cond b (Some (own_leaf c v s j)) None) (meet-behind c d s j t k 0 0 [] [] name key)
own-found c d v w s j t k (Some u) name key =
    find-nowhere (λ (x : NamedLeaf). ways_meet x.way (own_leaf d w t k).way) (inner_leaves (named_leaves c v u) c v s j) (name_of c s j).count
    (λ e lt. All-map (λ x. ways_meet x.way (own_leaf d w t k).way ≡ false) (leaf_of_element c v s j e) (named_leaves c v u)
    (λ i x below. (let leaf = named_begin c v u i x below in
    meet-inner_own (member_step c s j e) (member_step d t k 0) c u leaf.member (get_or (named_leaves c v u) i x) leaf.begins)))

-- what is met in element e of the struct inside, where it has the name and that element
abbrev pub inner_if : Catalogue → Width → ℕ → ℕ → ℕ → List ℕ → NamedLeaf → Option ℕ → Option NamedLeaf
inner_if c v s j e name y None = None
inner_if c v s j e name y (Some u) =
    cond (bytes_eq (struct_name c u) name && nat_lt e (name_of c s j).count)
    (option_map (leaf_of_element c v s j e) (source_leaf (named_leaves c v u) y)) None

module _ (c d : Catalogue) (v w : Width) (s j t k e f : ℕ) (y : NamedLeaf) (leaf : IsLeafOf d f y)
    (name : struct_name c s ≡ struct_name d t) (key : (name_of c s j).key ≡ (name_of d t k).key) where
  abbrev meets_it : NamedLeaf → Bool
  meets_it x = ways_meet x.way (member_step d t k e ∷ y.way)

  meets_at : (i : ℕ) (x : NamedLeaf) → meets_it (leaf_of_element c v s j i x) ≡ ((i == e) && ways_meet x.way y.way)
  meets_at i x = meet-behind c d s j t k i e x.way y.way name key

  elsewhere : (u i : ℕ) → i ≢ e → All (λ x. meets_it x ≡ false) (inner_leaves (named_leaves c v u) c v s j i)
  elsewhere u i other = All-map (λ x. meets_it x ≡ false) (leaf_of_element c v s j i) (named_leaves c v u) (λ m x below.
      meets_at i (get_or (named_leaves c v u) m x)
      ∙ ap (λ b. b && ways_meet (get_or (named_leaves c v u) m x).way y.way) (false_from_ne_true (i == e) (λ same. other (eqb-true i e same))))

  by_element : (u n : ℕ) (b : Bool) → nat_lt e n ≡ b
      → find meets_it (flat_map (inner_leaves (named_leaves c v u) c v s j) (numbers_below n))
      ≡ cond b (option_map (leaf_of_element c v s j e) (source_leaf (named_leaves c v u) y)) None
  by_element u n true is =
      find-among meets_it (inner_leaves (named_leaves c v u) c v s j) n e (ltb-true e n is) (λ i lt other. elsewhere u i other)
      ∙ find-map meets_it (λ (x : NamedLeaf). ways_meet x.way y.way) (leaf_of_element c v s j e) (named_leaves c v u)
      (λ x. meets_at e x ∙ ap (λ b. b && ways_meet x.way y.way) (eq-eqb e e refl))
  by_element u n false is =
      let most : n ≤ e = ltb-false e n is in
      find-nowhere meets_it (inner_leaves (named_leaves c v u) c v s j) n (λ i lt. elsewhere u i (λ same. omega (arith, same, lt, most)))

  by_name : (u : ℕ) (b : Bool) → bytes_eq (struct_name c u) (struct_name d f) ≡ b
      → find meets_it (flat_map (inner_leaves (named_leaves c v u) c v s j) (numbers_below (name_of c s j).count))
      ≡ cond (b && nat_lt e (name_of c s j).count) (option_map (leaf_of_element c v s j e) (source_leaf (named_leaves c v u) y)) None
  by_name u true is = by_element u (name_of c s j).count (nat_lt e (name_of c s j).count) refl
  by_name u false is =
      find-nowhere meets_it (inner_leaves (named_leaves c v u) c v s j) (name_of c s j).count
      (λ i lt. All-map (λ z. meets_it z ≡ false) (leaf_of_element c v s j i) (named_leaves c v u)
      (λ n z below. (let first = named_begin c v u n z below in
      meet-other_names (member_step c s j i) (member_step d t k e) c d u first.member f leaf.member (get_or (named_leaves c v u) n z) y first.begins leaf.begins is)))

  -- a leaf within an element meets what it meets inside the struct, in that element
  pub inner-found : (o : Option ℕ)
      → source_leaf (leaves_by (named_leaves c v) c v s j o) (leaf_of_element d w t k e y) ≡ inner_if c v s j e (struct_name d f) y o
  inner-found None =
      ap (λ b. cond b (Some (own_leaf c v s j)) None) (meet-own_inner (member_step c s j 0) (member_step d t k e) d f leaf.member y leaf.begins)
  inner-found (Some u) = by_name u (bytes_eq (struct_name c u) (struct_name d f)) refl
