-- What is carried leaf by leaf agrees with the fates of members.
use Rattle.std.proofs.Common.{◌≡◌, ◌≢◌, ◌<◌, ℕ, ◌+◌, ◌*◌, Bool, true, false, cond, All, List, [], ◌∷◌, length, get_or, take, drop, Option, Some, None, refl, sym, ap, subst, ◌∙◌, arith, inl, inr, eq-eqb, eqb-true}
use Rattle.std.specs.Prelude.{◌⊎◌, ◌==◌, ◌&&◌, ◌||◌, not, nat_lt, option_map, unwrap_or, is_some}
use Rattle.std.specs.Str.{bytes_eq}
use Rattle.std.proofs.lemmas.Bool.{ltb-true, ltb-false, or_parts, or_cases}
use Rattle.std.proofs.lemmas.List.{drop-drop, get_or_default}
use Rattle.std.proofs.lemmas.List.Elements.{All-nil, All-cons, All-map}
use Rattle.std.proofs.lemmas.Slice.Eq.{bytes_eq-Decides}
use Rattle.bl_num.specs.declared.number.Order.{Order}
use Rattle.bl_num.specs.declared.number.Width.{Width}
use Rattle.bl_num.specs.Numbers.{number_meant, number_of, pointer_bytes}
use Rattle.bl_format.specs.declared.catalogue.Catalogue.{Catalogue}
use Rattle.bl_format.specs.declared.layout.Kind.{Kind}
use Rattle.bl_format.specs.declared.layout.Kind.TheVariants as kinds
use Rattle.bl_format.specs.Words.{part, contains}
use Rattle.bl_format.specs.Layout.{Basic, IsWhole, IsFloat, IsVoid, Content, IsBasic, IsStruct, IsOpaque, MemberStep, NamedLeaf, HasLayout, struct_name, struct_of_type, struct_of_content, basic_named, basic_or_struct, lengths_of_basic, is_bad_length, content_of, kind_of_content, kind_of, name_of, type_entry, member_entry, member_count, member_offset, member_size, element_size, inner_struct, member_step, own_leaf, inner_leaves, leaves_by, no_leaf, named_leaves, first_fault}
use Rattle.bl_format.specs.Graph.{Value, Number, Naming, value_by, leaf_bytes, leaf_value}
use Rattle.bl_format.proofs.LeafKinds.{each_number}
use Rattle.bl_format.proofs.MemberPasses.{IsInside, member_passes, inner_struct-some}
use Rattle.bl_selection.specs.declared.draft.Fate.{Fate}
use Rattle.bl_selection.specs.declared.draft.Fate.TheVariants as fates
use Rattle.bl_selection.specs.Fate.{fate_by_count, fate_by_content, fate_of, pair_fate, same_sign, member_of_key, source_leaf, kept_count, same_type, zero_of, converted_value, value_from, carried_value, kinds_clash, clashes}
use Rattle.bl_selection.proofs.CarriedFits.{number_meant-in_range}
use Rattle.bl_selection.proofs.ValuesBack.{number_meant-bits_of}
use Rattle.bl_layout.proofs.UnfoldLemmas.{named_leaves-members}
use Rattle.bl_plan.specs.Agreements.{met_member, cast_to, LeafAgrees, InnerAgrees, bytes_within, struct_within}
use Rattle.bl_plan.proofs.FirstLeafTable.{laid}
use Rattle.bl_plan.proofs.Found.{member_found, met_fate}
use Rattle.bl_plan.proofs.LeafWays.{IsLeafOf}
use Rattle.bl_plan.proofs.MemberFound.{IsLaid, HasKey, leaves_in}
use Rattle.bl_plan.proofs.MemberMeets.{leaf_of_element}
use Rattle.bl_plan.proofs.LeavesFound.{met-none, met-some, empty-leaves, full-leaves, key_found, own_if, own-found, inner_if, inner-found}

-- ---- fates

-- the fate of two members, by what is known of each
abbrev fate_by : Bool → Bool → Content → Content → Bool → Bool → Fate → Fate
fate_by p q a b name long counts = cond (p && q) counts (cond (p || q) fates.Fresh (fate_by_content a b name long counts))

-- a member that meets none is fresh
pub fresh-none : (c : Catalogue) (v : Width) (s : ℕ) (d : Catalogue) (w : Width) (t k : ℕ) → member_of_key c s (name_of d t k).key ≡ None
    → fate_of c v s d w t k ≡ fates.Fresh
unfolding fate_of
fresh-none c v s d w t k none = rw none refl

-- and so is one that meets a member without bytes
pub fresh-empty : (c : Catalogue) (v : Width) (s : ℕ) (d : Catalogue) (w : Width) (t k j : ℕ) → member_of_key c s (name_of d t k).key ≡ Some j
    → (member_size c v s j == 0) ≡ true → fate_of c v s d w t k ≡ fates.Fresh
unfolding fate_of
fresh-empty c v s d w t k j found empty = rw (found, empty) refl

-- ---- one value

-- the kinds are such that a value stays as it is
abbrev StaySame : Bool → Kind → Kind → Type 0
StaySame alike (kinds.Pointer a s) (kinds.Pointer b t) = Unit {0}
StaySame alike (kinds.Whole a) (kinds.Whole b) = a ≡ b
StaySame alike (kinds.Bits a) (kinds.Bits b) = alike ≡ true
StaySame alike kinds.Opaque kinds.Opaque = alike ≡ true
StaySame alike _ _ = ⊥

-- and then they don't clash
calm : (named long : Bool) (a b : Kind) → StaySame (named && long) a b → kinds_clash named a b ≡ false
calm named long (kinds.Pointer a s) (kinds.Pointer b t) same = refl
calm named long (kinds.Whole a) (kinds.Whole b) same = refl
calm true long (kinds.Bits a) (kinds.Bits b) same = refl
calm false long (kinds.Bits a) (kinds.Bits b) same = absurd (cc)
calm named long kinds.Opaque kinds.Opaque same = refl
calm named long _ _ same = absurd same

-- the test of `clashes` on the leaf that is met
abbrev clash_with : NamedLeaf → Option NamedLeaf → Bool
clash_with y None = false
clash_with y (Some x) = kinds_clash (same_type x y) x.kind y.kind

module _ {P : Type 0} (null : P) (names : Naming P) (order : Order) where
  stays : (alike : Bool) (other : Value P) (a b : Kind) (bytes : List ℕ) → StaySame alike a b
      → converted_value alike other a b (value_by a names order bytes) ≡ value_by a names order bytes
  stays alike other (kinds.Pointer m s) (kinds.Pointer n t) bytes same = refl
  stays alike other (kinds.Whole m) (kinds.Whole n) bytes same =
      let v : ℕ = number_of order m.bytes bytes in
      subst (λ k. converted_value alike other (kinds.Whole m) (kinds.Whole k) (Number (number_meant m v)) ≡ Number (number_meant m v)) same
      (ap Number (number_meant-bits_of m (number_meant m v) (number_meant-in_range m v)))
  stays alike other (kinds.Bits m) (kinds.Bits n) bytes same = ap (λ t. cond t (value_by (kinds.Bits m) names order bytes) other) same
  stays alike other kinds.Opaque kinds.Opaque bytes same = ap (λ t. cond t (value_by kinds.Opaque names order bytes) other) same
  stays alike other _ _ bytes same = absurd same

  module _ (bytes : List ℕ) (x y : NamedLeaf) where
    abbrev alike : Bool
    alike = same_type x y && x.size == y.size

    zero_or : (b : Bool) (v : Value P) → v ≡ zero_of null y → cond b v (zero_of null y) ≡ zero_of null y
    zero_or true v is = is
    zero_or false v is = refl

    -- where the kinds don't meet, all elements are zero
    all_zero : ((v : Value P) → converted_value alike (zero_of null y) x.kind y.kind v ≡ zero_of null y)
        → (e : ℕ) → value_from null names order bytes (Some x) y e ≡ zero_of null y
    all_zero none e =
        zero_or (nat_lt e (kept_count x y)) (converted_value alike (zero_of null y) x.kind y.kind (leaf_value names order bytes x e))
        (none (leaf_value names order bytes x e))

    -- else the first ones become what values become
    all_become : (become : Value P → Value P)
        → ((e : ℕ) → converted_value alike (zero_of null y) x.kind y.kind (leaf_value names order bytes x e) ≡ become (leaf_value names order bytes x e))
        → (e : ℕ) → value_from null names order bytes (Some x) y e
        ≡ cond (nat_lt e (kept_count x y)) (become (leaf_value names order bytes x e)) (zero_of null y)
    all_become become each e = ap (λ v. cond (nat_lt e (kept_count x y)) v (zero_of null y)) (each e)

    -- or stay
    all_stay : StaySame alike x.kind y.kind
        → (e : ℕ) → value_from null names order bytes (Some x) y e
        ≡ cond (nat_lt e (kept_count x y)) (leaf_value names order bytes x e) (zero_of null y)
    unfolding leaf_value
    all_stay same e =
        ap (λ v. cond (nat_lt e (kept_count x y)) v (zero_of null y)) (stays alike (zero_of null y) x.kind y.kind (leaf_bytes x bytes e) same)

    -- elements that stay, by the counts
    by_counts : (carried : ℕ → Value P) (clash : Bool) → clash ≡ false
        → ((e : ℕ) → carried e ≡ cond (nat_lt e (kept_count x y)) (leaf_value names order bytes x e) (zero_of null y))
        → LeafAgrees (fate_by_count x.count y.count) null x y (leaf_value names order bytes x) carried clash
    by_counts carried clash none same = by (nat_lt y.count x.count) (nat_lt x.count y.count) refl refl
      where
        by : (a b : Bool) → nat_lt y.count x.count ≡ a → nat_lt x.count y.count ≡ b
            → LeafAgrees (cond a fates.Cut (cond b fates.Extended fates.Kept)) null x y (leaf_value names order bytes x) carried clash
        by true b less more = (none, ltb-true y.count x.count less, same)
        by false true less more = (none, ltb-true x.count y.count more, same)
        by false false less more = (none, omega (arith, ltb-false y.count x.count less, ltb-false x.count y.count more), same)

-- ---- a member with one leaf

module _ {P : Type 0} (null : P) (names : Naming P) (order : Order) (bytes : List ℕ) (way way' : List MemberStep) (name name' : List ℕ)
    (depth t depth' t' at at' n n' p p' : ℕ) where
  -- a leaf by whether it is a pointer, by what its type holds, and by the bytes of that
  abbrev from : Bool → Content → ℕ → NamedLeaf
  from pointer a m = record {
    way = way;
    type_name = name;
    kind = cond pointer (kinds.Pointer depth t) (kind_of_content a m);
    offset = at;
    size = cond pointer p m;
    count = n;
  }

  abbrev to : Bool → Content → ℕ → NamedLeaf
  to pointer b m = record {
    way = way';
    type_name = name';
    kind = cond pointer (kinds.Pointer depth' t') (kind_of_content b m);
    offset = at';
    size = cond pointer p' m;
    count = n';
  }

  -- a fate agrees with the leaf that is met
  abbrev Agrees : Fate → NamedLeaf → NamedLeaf → Option NamedLeaf → Type 0
  Agrees fate x y found =
      LeafAgrees fate null x y (leaf_value names order bytes x) (value_from null names order bytes found y) (clash_with y found)

  abbrev counts : Fate
  counts = fate_by_count n n'

  counts_agree : (x y : NamedLeaf) → StaySame (same_type x y && x.size == y.size) x.kind y.kind
      → Agrees (fate_by_count x.count y.count) x y (Some x)
  counts_agree x y same =
      by_counts null names order bytes x y (value_from null names order bytes (Some x) y) (clash_with y (Some x))
      (calm (same_type x y) (x.size == y.size) x.kind y.kind same) (all_stay null names order bytes x y same)

  fresh_agrees : (x y : NamedLeaf) → clash_with y (Some x) ≡ false
      → ((v : Value P) → converted_value (same_type x y && x.size == y.size) (zero_of null y) x.kind y.kind v ≡ zero_of null y)
      → Agrees fates.Fresh x y (Some x)
  fresh_agrees x y calm none = (calm, all_zero null names order bytes x y none)

  to_value : (b : Content) (m m' : ℕ) (a : Content) → Agrees fates.Fresh (from true a m) (to false b m') (Some (from true a m))
  to_value (IsBasic (IsWhole signed ls)) m m' a = fresh_agrees (from true a m) (to false (IsBasic (IsWhole signed ls)) m') refl (λ v. refl)
  to_value (IsBasic (IsFloat k)) m m' a = fresh_agrees (from true a m) (to false (IsBasic (IsFloat k)) m') refl (λ v. refl)
  to_value (IsBasic IsVoid) m m' a = fresh_agrees (from true a m) (to false (IsBasic IsVoid) m') refl (λ v. refl)
  to_value (IsStruct s) m m' a = fresh_agrees (from true a m) (to false (IsStruct s) m') refl (λ v. refl)
  to_value IsOpaque m m' a = fresh_agrees (from true a m) (to false IsOpaque m') refl (λ v. refl)

  to_pointer : (a : Content) (m m' : ℕ) (b : Content)
      → Agrees fates.Fresh (from false a m) (to true b m') (own_if (from false a m) (struct_of_content a))
  to_pointer (IsBasic (IsWhole signed ls)) m m' b = fresh_agrees (from false (IsBasic (IsWhole signed ls)) m) (to true b m') refl (λ v. refl)
  to_pointer (IsBasic (IsFloat k)) m m' b = fresh_agrees (from false (IsBasic (IsFloat k)) m) (to true b m') refl (λ v. refl)
  to_pointer (IsBasic IsVoid) m m' b = fresh_agrees (from false (IsBasic IsVoid) m) (to true b m') refl (λ v. refl)
  to_pointer (IsStruct s) m m' b = (refl, λ e. refl)
  to_pointer IsOpaque m m' b = fresh_agrees (from false IsOpaque m) (to true b m') refl (λ v. refl)

  cast_agrees : (a b : Bool) (ls ls' : List ℕ) (m m' : ℕ)
      → Agrees fates.Cast (from false (IsBasic (IsWhole a ls)) m) (to false (IsBasic (IsWhole b ls')) m') (Some (from false (IsBasic (IsWhole a ls)) m))
  unfolding leaf_value
  cast_agrees a b ls ls' m m' =
      let x = from false (IsBasic (IsWhole a ls)) m in
      let y = to false (IsBasic (IsWhole b ls')) m' in
      (refl, tt, all_become null names order bytes x y (cast_to y.kind) (λ e. refl))

  wholes : (a b : Bool) (ls ls' : List ℕ) (m m' : ℕ) (long : Bool) → (m == m') ≡ long
      → Agrees (cond (same_sign a b && long) counts fates.Cast) (from false (IsBasic (IsWhole a ls)) m) (to false (IsBasic (IsWhole b ls')) m') (Some (from false (IsBasic (IsWhole a ls)) m))
  wholes true true ls ls' m m' true is =
      counts_agree (from false (IsBasic (IsWhole true ls)) m) (to false (IsBasic (IsWhole true ls')) m') (λ i. record { bytes = eqb-true m m' is i; signed = true })
  wholes false false ls ls' m m' true is =
      counts_agree (from false (IsBasic (IsWhole false ls)) m) (to false (IsBasic (IsWhole false ls')) m') (λ i. record { bytes = eqb-true m m' is i; signed = false })
  wholes true true ls ls' m m' false is = cast_agrees true true ls ls' m m'
  wholes false false ls ls' m m' false is = cast_agrees false false ls ls' m m'
  wholes true false ls ls' m m' long is = cast_agrees true false ls ls' m m'
  wholes false true ls ls' m m' long is = cast_agrees false true ls ls' m m'

  floats : (k l m m' : ℕ) (named : Bool) → bytes_eq name name' ≡ named → (named ≡ true → m ≡ m')
      → Agrees (cond named counts fates.FloatCast) (from false (IsBasic (IsFloat k)) m) (to false (IsBasic (IsFloat l)) m') (Some (from false (IsBasic (IsFloat k)) m))
  floats k l m m' true is long =
      let same : (m == m') ≡ true = eq-eqb m m' (long refl) in
      counts_agree (from false (IsBasic (IsFloat k)) m) (to false (IsBasic (IsFloat l)) m') (λ i. is i && same i)
  floats k l m m' false is long = ap not is

  opaques : (m m' : ℕ) (named long : Bool) → bytes_eq name name' ≡ named → (m == m') ≡ long
      → Agrees (cond (named && long) counts fates.Fresh) (from false IsOpaque m) (to false IsOpaque m') (Some (from false IsOpaque m))
  opaques m m' true true is same = counts_agree (from false IsOpaque m) (to false IsOpaque m') (λ i. is i && same i)
  opaques m m' true false is same =
      fresh_agrees (from false IsOpaque m) (to false IsOpaque m') refl (λ v. ap (λ b. cond b v (zero_of null (to false IsOpaque m'))) (λ i. is i && same i))
  opaques m m' false long is same =
      fresh_agrees (from false IsOpaque m) (to false IsOpaque m') refl (λ v. ap (λ b. cond b v (zero_of null (to false IsOpaque m'))) (λ i. is i && same i))

  values : (a b : Content) (m m' : ℕ) → a ≢ IsBasic IsVoid → b ≢ IsBasic IsVoid → struct_of_content b ≡ None
      → ((k l : ℕ) → a ≡ IsBasic (IsFloat k) → b ≡ IsBasic (IsFloat l) → bytes_eq name name' ≡ true → m ≡ m')
      → Agrees (fate_by_content a b (bytes_eq name name') (m == m') counts) (from false a m) (to false b m') (own_if (from false a m) (struct_of_content a))
  values (IsBasic IsVoid) b m m' some some' own long = absurd (some refl)
  values a (IsBasic IsVoid) m m' some some' own long = absurd (some' refl)
  values a (IsStruct u) m m' some some' own long = absurd (cc)
  values (IsBasic (IsWhole x ls)) (IsBasic (IsWhole y ls')) m m' some some' own long = wholes x y ls ls' m m' (m == m') refl
  values (IsBasic (IsWhole x ls)) (IsBasic (IsFloat l)) m m' some some' own long = refl
  values (IsBasic (IsWhole x ls)) IsOpaque m m' some some' own long =
      fresh_agrees (from false (IsBasic (IsWhole x ls)) m) (to false IsOpaque m') refl (λ v. refl)
  values (IsBasic (IsFloat k)) (IsBasic (IsWhole y ls')) m m' some some' own long = refl
  values (IsBasic (IsFloat k)) (IsBasic (IsFloat l)) m m' some some' own long =
      floats k l m m' (bytes_eq name name') refl (long k l refl refl)
  values (IsBasic (IsFloat k)) IsOpaque m m' some some' own long =
      fresh_agrees (from false (IsBasic (IsFloat k)) m) (to false IsOpaque m') refl (λ v. refl)
  values (IsStruct s) (IsBasic (IsWhole y ls')) m m' some some' own long = (refl, λ e. refl)
  values (IsStruct s) (IsBasic (IsFloat l)) m m' some some' own long = (refl, λ e. refl)
  values (IsStruct s) IsOpaque m m' some some' own long = (refl, λ e. refl)
  values IsOpaque (IsBasic (IsWhole y ls')) m m' some some' own long =
      fresh_agrees (from false IsOpaque m) (to false (IsBasic (IsWhole y ls')) m') refl (λ v. refl)
  values IsOpaque (IsBasic (IsFloat l)) m m' some some' own long =
      fresh_agrees (from false IsOpaque m) (to false (IsBasic (IsFloat l)) m') refl (λ v. refl)
  values IsOpaque IsOpaque m m' some some' own long = opaques m m' (bytes_eq name name') (m == m') refl refl

  -- two members with a leaf each, neither without bytes
  leaves_agree : (q q' : Bool) (a b : Content) (m m' : ℕ) → (q ≡ false → a ≢ IsBasic IsVoid) → (q' ≡ false → b ≢ IsBasic IsVoid)
      → cond q' None (struct_of_content b) ≡ None
      → (q ≡ false → q' ≡ false → (k l : ℕ) → a ≡ IsBasic (IsFloat k) → b ≡ IsBasic (IsFloat l) → bytes_eq name name' ≡ true → m ≡ m')
      → Agrees (fate_by q q' a b (bytes_eq name name') (m == m') counts) (from q a m) (to q' b m') (own_if (from q a m) (cond q None (struct_of_content a)))
  leaves_agree true true a b m m' some some' own long = counts_agree (from true a m) (to true b m') tt
  leaves_agree true false a b m m' some some' own long = to_value b m m' a
  leaves_agree false true a b m m' some some' own long = to_pointer a m m' b
  leaves_agree false false a b m m' some some' own long = values a b m m' (some refl) (some' refl) own (long refl refl)

-- ---- lengths

one_of : (a n : ℕ) → contains (a ∷ []) n ≡ true → a ≡ n
one_of a n e = elim (or_cases (a == n) false e) [ inl h ↦ eqb-true a n h | inr h ↦ absurd (cc) ]

not_false : (b : Bool) → not b ≡ false → b ≡ true
not_false true e = refl
not_false false e = absurd (cc)

-- a type that holds a basic type has its name, and one of its lengths
record IsBasicType (c : Catalogue) (s k : ℕ) (b : Basic) : Type 0 where
  named : basic_named (type_entry c (member_entry c s k).type_number).name ≡ Some b
  long : contains (lengths_of_basic b) (type_entry c (member_entry c s k).type_number).length ≡ true

basic_type : (c : Catalogue) (w : Width) (s k : ℕ) (b : Basic) → first_fault c w ≡ None → k < member_count c s → (name_of c s k).pointer ≡ false
    → content_of c (member_entry c s k).type_number ≡ IsBasic b → IsBasicType c s k b
unfolding content_of
basic_type c w s k b none lt value holds = by (basic_named name) refl holds
  where
    name : List ℕ
    name = (type_entry c (member_entry c s k).type_number).name

    n : ℕ
    n = (type_entry c (member_entry c s k).type_number).length

    good : is_bad_length (basic_named name) n ≡ false
    good = ap (λ p. not p && is_bad_length (basic_named name) n) (sym value)
        ∙ (or_parts (is_some (basic_named (struct_name c s))) (not (name_of c s k).pointer && is_bad_length (basic_named name) n) (member_passes c w s k none lt).basic_length).1

    content_is : (x y : Basic) → IsBasic x ≡ IsBasic y → x ≡ y
    content_is x y same = cc

    no_struct : (o : Option ℕ) → basic_or_struct None o ≢ IsBasic b
    no_struct None same = absurd (cc)
    no_struct (Some u) same = absurd (cc)

    by : (o : Option Basic) → basic_named name ≡ o → basic_or_struct o (struct_of_type c (member_entry c s k).type_number) ≡ IsBasic b → IsBasicType c s k b
    by None is same = absurd (no_struct (struct_of_type c (member_entry c s k).type_number) same)
    by (Some x) is same =
        let own : basic_named name ≡ Some b = is ∙ ap Some (content_is x b same) in
        record { named = own; long = not_false (contains (lengths_of_basic b) n) (ap (λ o. is_bad_length o n) (sym own) ∙ good) }

-- a member with bytes isn't nothing by value
some_not_void : (c : Catalogue) (w : Width) (s k : ℕ) → first_fault c w ≡ None → k < member_count c s → (member_size c w s k == 0) ≡ false
    → (name_of c s k).pointer ≡ false → content_of c (member_entry c s k).type_number ≢ IsBasic IsVoid
unfolding member_size element_size
some_not_void c w s k none lt full value void =
    let is = basic_type c w s k IsVoid none lt value void in
    let length_is : 0 ≡ (type_entry c (member_entry c s k).type_number).length = one_of 0 (type_entry c (member_entry c s k).type_number).length is.long in
    let size : cond (name_of c s k).pointer (pointer_bytes w) (type_entry c (member_entry c s k).type_number).length * (name_of c s k).count ≡ 0 =
    ap (λ p. cond p (pointer_bytes w) (type_entry c (member_entry c s k).type_number).length * (name_of c s k).count) value
    ∙ ap (λ m. m * (name_of c s k).count) (sym length_is) ∙ omega arith in
    let empty : (0 == 0) ≡ false = ap (λ m. m == 0) (sym size) ∙ full in
    absurd (cc)

-- floats of one name have one length
floats_long : (c d : Catalogue) (v w : Width) (s j t k : ℕ) → first_fault c v ≡ None → first_fault d w ≡ None → j < member_count c s → k < member_count d t
    → (name_of c s j).pointer ≡ false → (name_of d t k).pointer ≡ false → (m n : ℕ)
    → content_of c (member_entry c s j).type_number ≡ IsBasic (IsFloat m) → content_of d (member_entry d t k).type_number ≡ IsBasic (IsFloat n)
    → bytes_eq (type_entry c (member_entry c s j).type_number).name (type_entry d (member_entry d t k).type_number).name ≡ true
    → (type_entry c (member_entry c s j).type_number).length ≡ (type_entry d (member_entry d t k).type_number).length
floats_long c d v w s j t k none none' below below' value value' m n holds holds' same =
    let a = basic_type c v s j (IsFloat m) none below value holds in
    let b = basic_type d w t k (IsFloat n) none' below' value' holds' in
    let names = (bytes_eq-Decides (type_entry c (member_entry c s j).type_number).name (type_entry d (member_entry d t k).type_number).name).0 same in
    let both : Some (IsFloat m) ≡ Some (IsFloat n) = sym a.named ∙ ap basic_named names ∙ b.named in
    let one : m ≡ n = cc in
    sym (one_of m (type_entry c (member_entry c s j).type_number).length a.long) ∙ one
    ∙ one_of n (type_entry d (member_entry d t k).type_number).length b.long

-- ---- the law of a member with one leaf

module _ {P : Type 0} (null : P) (names : Naming P) (order : Order) (bytes : List ℕ) (c d : Catalogue) (v w : Width) (s t k : ℕ)
    (has : HasLayout c v) (has' : HasLayout d w) (there : s < length c.structs) (there' : t < length d.structs)
    (below : k < member_count d t) (name : struct_name c s ≡ struct_name d t) where
  source_laid : IsLaid c v s
  source_laid = laid c v s has there

  target_laid : IsLaid d w t
  target_laid = laid d w t has' there'

  own_has : HasKey (name_of d t k).key (own_leaf d w t k)
  own_has = record { catalogue = d; s = t; member = k; begins = record { element = 0; steps = []; way_is = refl }; key_is = refl }

  -- what is said of a leaf's elements, by its fate and by the leaf that it meets
  leaf_by : (fate : Fate) (x y : NamedLeaf) (found : Option NamedLeaf)
      → fate_of c v s d w t k ≡ fate → source_leaf (named_leaves c v s) y ≡ found
      → LeafAgrees fate null x y (leaf_value names order bytes x) (value_from null names order bytes found y) (clash_with y found)
      → LeafAgrees (fate_of c v s d w t k) null x y (leaf_value names order bytes x)
      (carried_value null names order (named_leaves c v s) bytes y) (clashes (named_leaves c v s) y)
  unfolding carried_value
  leaf_by fate x y found is met agrees =
      subst (λ o. LeafAgrees (fate_of c v s d w t k) null x y (leaf_value names order bytes x) (value_from null names order bytes o y) (clash_with y o)) (sym met)
      (subst (λ f. LeafAgrees f null x y (leaf_value names order bytes x) (value_from null names order bytes found y) (clash_with y found)) (sym is) agrees)

  pair_agrees : (j : ℕ) → j < member_count c s → (member_size c v s j == 0) ≡ false → (member_size d w t k == 0) ≡ false → inner_struct d t k ≡ None
      → LeafAgrees (pair_fate c s j d t k) null (own_leaf c v s j) (own_leaf d w t k) (leaf_value names order bytes (own_leaf c v s j))
      (value_from null names order bytes (own_if (own_leaf c v s j) (inner_struct c s j)) (own_leaf d w t k))
      (clash_with (own_leaf d w t k) (own_if (own_leaf c v s j) (inner_struct c s j)))
  unfolding kind_of element_size inner_struct
  pair_agrees j lt full full' own =
      let m : ℕ = (member_entry c s j).type_number in
      let n : ℕ = (member_entry d t k).type_number in
      leaves_agree null names order bytes (member_step c s j 0 ∷ []) (member_step d t k 0 ∷ []) (type_entry c m).name (type_entry d n).name
      (name_of c s j).depth m (name_of d t k).depth n (member_offset c v s j) (member_offset d w t k) (name_of c s j).count (name_of d t k).count
      (pointer_bytes v) (pointer_bytes w)
      (name_of c s j).pointer (name_of d t k).pointer (content_of c m) (content_of d n) (type_entry c m).length (type_entry d n).length
      (some_not_void c v s j source_laid.no_fault lt full) (some_not_void d w t k target_laid.no_fault below full')
      own (floats_long c d v w s j t k source_laid.no_fault target_laid.no_fault lt below)

  -- a member that is no struct by value is carried as its fate says
  pub fate-carried_leaf : inner_struct d t k ≡ None → (member_size d w t k == 0) ≡ false
      → LeafAgrees (fate_of c v s d w t k) null (own_leaf c v s (met_member c s d t k)) (own_leaf d w t k)
      (leaf_value names order bytes (own_leaf c v s (met_member c s d t k)))
      (carried_value null names order (named_leaves c v s) bytes (own_leaf d w t k)) (clashes (named_leaves c v s) (own_leaf d w t k))
  fate-carried_leaf own full' = by (member_of_key c s (name_of d t k).key) refl
    where
      by_size : (j : ℕ) → member_of_key c s (name_of d t k).key ≡ Some j → (b : Bool) → (member_size c v s j == 0) ≡ b
          → LeafAgrees (fate_of c v s d w t k) null (own_leaf c v s j) (own_leaf d w t k) (leaf_value names order bytes (own_leaf c v s j))
          (carried_value null names order (named_leaves c v s) bytes (own_leaf d w t k)) (clashes (named_leaves c v s) (own_leaf d w t k))
      by_size j found true empty =
          leaf_by fates.Fresh (own_leaf c v s j) (own_leaf d w t k) None (fresh-empty c v s d w t k j found empty)
          (met-some c v s (name_of d t k).key (own_leaf d w t k) source_laid own_has j found
          ∙ ap (λ ys. source_leaf ys (own_leaf d w t k)) (empty-leaves c v s j empty))
          (refl, λ e. refl)
      by_size j found false full =
          leaf_by (pair_fate c s j d t k) (own_leaf c v s j) (own_leaf d w t k) (own_if (own_leaf c v s j) (inner_struct c s j))
          (sym (met_fate c v s d w t k j found full full'))
          (met-some c v s (name_of d t k).key (own_leaf d w t k) source_laid own_has j found
          ∙ ap (λ ys. source_leaf ys (own_leaf d w t k)) (full-leaves c v s j full)
          ∙ own-found c d v w s j t k (inner_struct c s j) name (key_found c s (name_of d t k).key j found))
          (pair_agrees j (member_found c s (name_of d t k).key j found) full full' own)

      by : (o : Option ℕ) → member_of_key c s (name_of d t k).key ≡ o
          → LeafAgrees (fate_of c v s d w t k) null (own_leaf c v s (unwrap_or o 0)) (own_leaf d w t k)
          (leaf_value names order bytes (own_leaf c v s (unwrap_or o 0)))
          (carried_value null names order (named_leaves c v s) bytes (own_leaf d w t k)) (clashes (named_leaves c v s) (own_leaf d w t k))
      by None none =
          leaf_by fates.Fresh (own_leaf c v s 0) (own_leaf d w t k) None (fresh-none c v s d w t k none)
          (met-none c v s (name_of d t k).key (own_leaf d w t k) source_laid own_has none) (refl, λ e. refl)
      by (Some j) found = by_size j found (member_size c v s j == 0) refl

  -- ---- the law of a member that is a struct by value

  -- the bytes of a leaf inside an element are those of the leaf in the element
  leaf_bytes_within : (by off at m : ℕ) → part bytes (by + off + at) m ≡ part (drop by bytes) (off + at) m
  leaf_bytes_within by off at m =
      let same : by + off + at ≡ by + (off + at) = omega arith in
      ap (λ p. take m (drop p bytes)) same ∙ ap (take m) (sym (drop-drop (off + at) by bytes))

  -- what a leaf inside gets of one inside is what they give to each other in the element
  value_within : (j e : ℕ) (y : NamedLeaf) (found : Option NamedLeaf) (i : ℕ)
      → value_from null names order bytes (option_map (leaf_of_element c v s j e) found) (leaf_of_element d w t k e y) i
      ≡ value_from null names order (bytes_within c v s j e bytes) found y i
  unfolding leaf_value
  value_within j e y None i = refl
  value_within j e y (Some x) i =
      ap (λ bs. cond (nat_lt i (kept_count x y)) (converted_value (same_type x y && x.size == y.size) (zero_of null y) x.kind y.kind (value_by x.kind names order bs)) (zero_of null y))
      (leaf_bytes_within (member_offset c v s j + e * element_size c v s j) x.offset (i * x.size) x.size)

  -- by the counts of the elements
  inner_by_counts : (n n' e : ℕ) (y : NamedLeaf) (inside carried : ℕ → Value P) (clash_inside clash : Bool)
      → clash ≡ (nat_lt e n && clash_inside)
      → ((i : ℕ) → carried i ≡ cond (nat_lt e n) (inside i) (zero_of null y))
      → InnerAgrees (fate_by_count n n') null n n' e y inside carried clash_inside clash
  inner_by_counts n n' e y inside carried clash_inside clash there same = by (nat_lt n' n) (nat_lt n n') refl refl
    where
      by : (a b : Bool) → nat_lt n' n ≡ a → nat_lt n n' ≡ b
          → InnerAgrees (cond a fates.Cut (cond b fates.Extended fates.Kept)) null n n' e y inside carried clash_inside clash
      by true b less more = (there, ltb-true n' n less, same)
      by false true less more = (there, ltb-true n n' more, same)
      by false false less more = (there, omega (arith, ltb-false n' n less, ltb-false n n' more), same)

  -- what is said of a leaf inside an element
  inner_by : (fate : Fate) (n n' e : ℕ) (y : NamedLeaf) (inside : ℕ → Value P) (clash_inside : Bool) (found : Option NamedLeaf)
      → fate_of c v s d w t k ≡ fate → source_leaf (named_leaves c v s) (leaf_of_element d w t k e y) ≡ found
      → InnerAgrees fate null n n' e y inside (value_from null names order bytes found (leaf_of_element d w t k e y))
      clash_inside (clash_with (leaf_of_element d w t k e y) found)
      → InnerAgrees (fate_of c v s d w t k) null n n' e y inside
      (carried_value null names order (named_leaves c v s) bytes (leaf_of_element d w t k e y))
      clash_inside (clashes (named_leaves c v s) (leaf_of_element d w t k e y))
  unfolding carried_value
  inner_by fate n n' e y inside clash_inside found is met agrees =
      let z = leaf_of_element d w t k e y in
      subst (λ o. InnerAgrees (fate_of c v s d w t k) null n n' e y inside (value_from null names order bytes o z) clash_inside (clash_with z o)) (sym met)
      (subst (λ g. InnerAgrees g null n n' e y inside (value_from null names order bytes found z) clash_inside (clash_with z found)) (sym is) agrees)

  -- a struct by value meets none where the other member is no struct by value
  fate-other : (p : Bool) (a : Content) (f : ℕ) (named long : Bool) (counts : Fate) → cond p None (struct_of_content a) ≡ None
      → fate_by p false a (IsStruct f) named long counts ≡ fates.Fresh
  fate-other true a f named long counts none = refl
  fate-other false (IsBasic (IsWhole signed ls)) f named long counts none = refl
  fate-other false (IsBasic (IsFloat n)) f named long counts none = refl
  fate-other false (IsBasic IsVoid) f named long counts none = refl
  fate-other false (IsStruct u) f named long counts none = absurd (cc)
  fate-other false IsOpaque f named long counts none = refl

  -- and else goes by their names
  fate-structs : (p : Bool) (a : Content) (u f : ℕ) (named long : Bool) (counts : Fate) → cond p None (struct_of_content a) ≡ Some u
      → fate_by p false a (IsStruct f) named long counts ≡ cond named counts fates.Fresh
  fate-structs true a u f named long counts some = absurd (cc)
  fate-structs false (IsBasic b) u f named long counts some = absurd (cc)
  fate-structs false (IsStruct x) u f named long counts some = refl
  fate-structs false IsOpaque u f named long counts some = absurd (cc)

  -- the type of a struct by value holds it
  holds : (f : ℕ) → inner_struct d t k ≡ Some f → content_of d (member_entry d t k).type_number ≡ IsStruct f
  unfolding inner_struct
  holds f is = by (name_of d t k).pointer (content_of d (member_entry d t k).type_number) is
    where
      by : (p : Bool) (b : Content) → cond p None (struct_of_content b) ≡ Some f → b ≡ IsStruct f
      by true b is = absurd (cc)
      by false (IsBasic x) is = absurd (cc)
      by false (IsStruct x) is = let same : x ≡ f = cc in ap IsStruct same
      by false IsOpaque is = absurd (cc)

  -- the fate of such a member, by the struct that the other one is
  abbrev pub fate_by_inner : ℕ → ℕ → Option ℕ → Fate
  fate_by_inner j f None = fates.Fresh
  fate_by_inner j f (Some u) =
      cond (bytes_eq (struct_name c u) (struct_name d f)) (fate_by_count (name_of c s j).count (name_of d t k).count) fates.Fresh

  -- that is its fate
  pub inner_fate : (j f : ℕ) (o : Option ℕ) → inner_struct d t k ≡ Some f → inner_struct c s j ≡ o
      → pair_fate c s j d t k ≡ fate_by_inner j f o
  unfolding inner_struct
  inner_fate j f o is other = by o other
    where
      m : ℕ
      m = (member_entry c s j).type_number

      n : ℕ
      n = (member_entry d t k).type_number

      counts : Fate
      counts = fate_by_count (name_of c s j).count (name_of d t k).count

      named : Bool
      named = bytes_eq (type_entry c m).name (type_entry d n).name

      long : Bool
      long = (type_entry c m).length == (type_entry d n).length

      inside : IsInside d t k f
      inside = inner_struct-some d t k f is

      so : pair_fate c s j d t k ≡ fate_by (name_of c s j).pointer false (content_of c m) (IsStruct f) named long counts
      so = λ i. fate_by (name_of c s j).pointer (inside.by_value i) (content_of c m) (holds f is i) named long counts

      by : (o : Option ℕ) → inner_struct c s j ≡ o → pair_fate c s j d t k ≡ fate_by_inner j f o
      by None none = so ∙ fate-other (name_of c s j).pointer (content_of c m) f named long counts none
      by (Some u) some =
          let within = inner_struct-some c s j u some in
          so ∙ fate-structs (name_of c s j).pointer (content_of c m) u f named long counts some
          ∙ (λ i. cond (bytes_eq (type_entry c (sym within.is_struct.type_number_is i)).name (type_entry d (sym inside.is_struct.type_number_is i)).name) counts fates.Fresh)

  -- what is said of a leaf inside element e, where member j of the source is met, which is struct u by value
  abbrev InnerSays : ℕ → NamedLeaf → ℕ → ℕ → Type 0
  InnerSays e y j u =
      InnerAgrees (fate_of c v s d w t k) null (name_of c s j).count (name_of d t k).count e y
      (carried_value null names order (named_leaves c v u) (bytes_within c v s j e bytes) y)
      (carried_value null names order (named_leaves c v s) bytes (leaf_of_element d w t k e y))
      (clashes (named_leaves c v u) y) (clashes (named_leaves c v s) (leaf_of_element d w t k e y))

  -- a member that is a struct by value is carried as its fate says: each leaf inside as it is carried inside
  pub fate-carried_inner : (f e : ℕ) (y : NamedLeaf) → inner_struct d t k ≡ Some f → (member_size d w t k == 0) ≡ false → IsLeafOf d f y
      → InnerAgrees (fate_of c v s d w t k) null (name_of c s (met_member c s d t k)).count (name_of d t k).count e y
      (carried_value null names order (named_leaves c v (struct_within c s (met_member c s d t k))) (bytes_within c v s (met_member c s d t k) e bytes) y)
      (carried_value null names order (named_leaves c v s) bytes (leaf_of_element d w t k e y))
      (clashes (named_leaves c v (struct_within c s (met_member c s d t k))) y)
      (clashes (named_leaves c v s) (leaf_of_element d w t k e y))
  unfolding carried_value
  fate-carried_inner f e y inner full' leaf = by (member_of_key c s (name_of d t k).key) refl
    where
      has_key : HasKey (name_of d t k).key (leaf_of_element d w t k e y)
      has_key = record { catalogue = d; s = t; member = k; begins = record { element = e; steps = y.way; way_is = refl }; key_is = refl }

      carried_if : (u j : ℕ) (b : Bool)
          → (i : ℕ) → value_from null names order bytes (cond b (option_map (leaf_of_element c v s j e) (source_leaf (named_leaves c v u) y)) None) (leaf_of_element d w t k e y) i
          ≡ cond b (value_from null names order (bytes_within c v s j e bytes) (source_leaf (named_leaves c v u) y) y i) (zero_of null y)
      carried_if u j true i = value_within j e y (source_leaf (named_leaves c v u) y) i
      carried_if u j false i = refl

      clash_within : (j : ℕ) (found : Option NamedLeaf)
          → clash_with (leaf_of_element d w t k e y) (option_map (leaf_of_element c v s j e) found) ≡ clash_with y found
      clash_within j None = refl
      clash_within j (Some x) = refl

      clash_if : (u j : ℕ) (b : Bool)
          → clash_with (leaf_of_element d w t k e y) (cond b (option_map (leaf_of_element c v s j e) (source_leaf (named_leaves c v u) y)) None)
          ≡ (b && clashes (named_leaves c v u) y)
      clash_if u j true = clash_within j (source_leaf (named_leaves c v u) y)
      clash_if u j false = refl

      by_name : (j u : ℕ) (b : Bool)
          → InnerAgrees (cond b (fate_by_count (name_of c s j).count (name_of d t k).count) fates.Fresh) null (name_of c s j).count (name_of d t k).count e y
          (value_from null names order (bytes_within c v s j e bytes) (source_leaf (named_leaves c v u) y) y)
          (value_from null names order bytes
          (cond (b && nat_lt e (name_of c s j).count) (option_map (leaf_of_element c v s j e) (source_leaf (named_leaves c v u) y)) None) (leaf_of_element d w t k e y))
          (clashes (named_leaves c v u) y)
          (clash_with (leaf_of_element d w t k e y)
          (cond (b && nat_lt e (name_of c s j).count) (option_map (leaf_of_element c v s j e) (source_leaf (named_leaves c v u) y)) None))
      by_name j u true =
          inner_by_counts (name_of c s j).count (name_of d t k).count e y _ _ _ _
          (clash_if u j (nat_lt e (name_of c s j).count)) (carried_if u j (nat_lt e (name_of c s j).count))
      by_name j u false = (refl, λ i. refl)

      by_inner : (j : ℕ) → member_of_key c s (name_of d t k).key ≡ Some j → (member_size c v s j == 0) ≡ false
          → (o : Option ℕ) → inner_struct c s j ≡ o → InnerSays e y j (unwrap_or o 0)
      by_inner j found full o is =
          let met : source_leaf (named_leaves c v s) (leaf_of_element d w t k e y) ≡ inner_if c v s j e (struct_name d f) y o =
          met-some c v s (name_of d t k).key (leaf_of_element d w t k e y) source_laid has_key j found
          ∙ ap (λ ys. source_leaf ys (leaf_of_element d w t k e y)) (full-leaves c v s j full)
          ∙ inner-found c d v w s j t k e f y leaf name (key_found c s (name_of d t k).key j found) (inner_struct c s j)
          ∙ ap (inner_if c v s j e (struct_name d f) y) is in
          let fate = sym (met_fate c v s d w t k j found full full') ∙ inner_fate j f o inner is in
          by_struct o fate met
        where
          by_struct : (o : Option ℕ)
              → fate_of c v s d w t k ≡ fate_by_inner j f o
              → source_leaf (named_leaves c v s) (leaf_of_element d w t k e y) ≡ inner_if c v s j e (struct_name d f) y o
              → InnerSays e y j (unwrap_or o 0)
          by_struct None fate met = inner_by fates.Fresh (name_of c s j).count (name_of d t k).count e y _ _ None fate met (refl, λ i. refl)
          by_struct (Some u) fate met =
              inner_by _ (name_of c s j).count (name_of d t k).count e y _ _ _ fate met (by_name j u (bytes_eq (struct_name c u) (struct_name d f)))

      by_size : (j : ℕ) → member_of_key c s (name_of d t k).key ≡ Some j → (b : Bool) → (member_size c v s j == 0) ≡ b → InnerSays e y j (struct_within c s j)
      by_size j found true empty =
          inner_by fates.Fresh (name_of c s j).count (name_of d t k).count e y _ _ None (fresh-empty c v s d w t k j found empty)
          (met-some c v s (name_of d t k).key (leaf_of_element d w t k e y) source_laid has_key j found
          ∙ ap (λ ys. source_leaf ys (leaf_of_element d w t k e y)) (empty-leaves c v s j empty)) (refl, λ i. refl)
      by_size j found false full = by_inner j found full (inner_struct c s j) refl

      by : (o : Option ℕ) → member_of_key c s (name_of d t k).key ≡ o → InnerSays e y (unwrap_or o 0) (struct_within c s (unwrap_or o 0))
      by None none =
          inner_by fates.Fresh (name_of c s 0).count (name_of d t k).count e y _ _ None (fresh-none c v s d w t k none)
          (met-none c v s (name_of d t k).key (leaf_of_element d w t k e y) source_laid has_key none) (refl, λ i. refl)
      by (Some j) found = by_size j found (member_size c v s j == 0) refl

-- ---- each leaf is one of these

-- a leaf is that of a member which is no struct by value
pub record IsOwn (d : Catalogue) (w : Width) (t : ℕ) (y : NamedLeaf) : Type 0 where
  pub member : ℕ
  pub below : member < member_count d t
  pub full : (member_size d w t member == 0) ≡ false
  pub own : inner_struct d t member ≡ None
  pub leaf_is : y ≡ own_leaf d w t member

-- a leaf is one inside an element of a member which is a struct by value
pub record IsWithin (d : Catalogue) (w : Width) (t : ℕ) (y : NamedLeaf) : Type 0 where
  pub member : ℕ
  pub below : member < member_count d t
  pub full : (member_size d w t member == 0) ≡ false
  pub struct : ℕ
  pub inner : inner_struct d t member ≡ Some struct
  pub element : ℕ
  pub element_below : element < (name_of d t member).count
  pub place : ℕ
  pub place_below : place < length (named_leaves d w struct)
  pub leaf_is : y ≡ leaf_of_element d w t member element (get_or (named_leaves d w struct) place no_leaf)

-- one of the two
abbrev pub IsEither : Catalogue → Width → ℕ → NamedLeaf → Type 0
IsEither d w t y = IsOwn d w t y ⊎ IsWithin d w t y

-- each leaf of a struct is such
pub leaves_are : (d : Catalogue) (w : Width) (t : ℕ) → HasLayout d w → t < length d.structs
    → All (IsEither d w t) (named_leaves d w t)
leaves_are d w t has there =
    let of = laid d w t has there in
    subst (All (IsEither d w t)) (sym (named_leaves-members d w t of.no_fault of.deep of.within))
    (each_number (IsEither d w t) (leaves_in d w t) (member_count d t) member)
  where
    by_inner : (k : ℕ) → k < member_count d t → (member_size d w t k == 0) ≡ false → (o : Option ℕ) → inner_struct d t k ≡ o
        → All (IsEither d w t) (leaves_by (named_leaves d w) d w t k o)
    by_inner k lt full None is =
        All-cons (IsEither d w t) (own_leaf d w t k) []
        (inl (record { member = k; below = lt; full = full; own = is; leaf_is = refl })) (All-nil (IsEither d w t))
    by_inner k lt full (Some f) is =
        each_number (IsEither d w t) (inner_leaves (named_leaves d w f) d w t k) (name_of d t k).count
        (λ e less. All-map (IsEither d w t) (leaf_of_element d w t k e) (named_leaves d w f)
        (λ i z within. inr (record {
          member = k;
          below = lt;
          full = full;
          struct = f;
          inner = is;
          element = e;
          element_below = less;
          place = i;
          place_below = within;
          leaf_is = ap (leaf_of_element d w t k e) (get_or_default (named_leaves d w f) i z no_leaf within);
        })))

    by_size : (k : ℕ) → k < member_count d t → (b : Bool) → (member_size d w t k == 0) ≡ b → All (IsEither d w t) (leaves_in d w t k)
    by_size k lt true empty =
        subst (All (IsEither d w t)) (sym (empty-leaves d w t k empty)) (All-nil (IsEither d w t))
    by_size k lt false full =
        subst (All (IsEither d w t)) (sym (full-leaves d w t k full)) (by_inner k lt full (inner_struct d t k) refl)

    member : (k : ℕ) → k < member_count d t → All (IsEither d w t) (leaves_in d w t k)
    member k lt = by_size k lt (member_size d w t k == 0) refl
