-- Each leaf has elements, each of some bytes; and the size of an element is one that the leaf's kind has, so that the
-- number in it can be read and written.
use Rattle.std.proofs.Common.{◌≡◌, ◌≢◌, ℕ, zero, suc, ◌+◌, ◌*◌, ◌<◌, Bool, true, false, cond, not, All, List, [], ◌∷◌, Option, Some, None, refl, sym, arith, inl, inr, eqb, eqb-true}
use Rattle.std.specs.Prelude.{◌⊎◌, ◌&&◌, flat_map, option_map, is_some, ◌==◌}
use Rattle.std.specs.List.{find}
use Rattle.std.specs.Str.{bytes_eq}
use Rattle.std.proofs.lemmas.List.Elements.{All-nil, All-cons, All-append, All-map}
use Rattle.std.proofs.lemmas.Bool.{or_cases, or_parts}
use Rattle.bl_num.specs.declared.number.Width.{Width}
use Rattle.bl_num.specs.Numbers.{IsWholeLength, pointer_bytes}
use Rattle.bl_format.specs.declared.catalogue.Catalogue.{Catalogue}
use Rattle.bl_format.specs.declared.layout.Kind.{Kind}
use Rattle.bl_format.specs.declared.layout.Kind.TheVariants as kinds
use Rattle.bl_format.specs.Limits.{deepest_nesting}
use Rattle.bl_format.specs.Words.{numbers_below, contains}
use Rattle.bl_format.specs.Layout.{Basic, IsWhole, IsFloat, IsVoid, MemberStep, NamedLeaf, type_entry, member_entry, struct_of_type, struct_name, name_of, member_count, basic_types, basic_named, basic_or_struct, kind_of_content, content_of, kind_of, is_bad_length, has_bad_length, element_size, member_size, member_offset, inner_struct, leaf_behind, member_step, own_leaf, inner_leaves, leaves_by, member_leaves, leaves_within, named_leaves, first_fault}
use Rattle.bl_format.proofs.MemberPasses.{member_passes}
use Rattle.bl_format.proofs.LeavesApart.{flat_map-numbers_below}

-- ---- what holds of all leaves

-- a property of leaves that looks neither at the way nor at the offset, and holds of the own leaf of each member that
-- isn't empty
pub record HoldsOfOwn (P : NamedLeaf → Type 0) (c : Catalogue) (w : Width) : Type 0 where
  pub behind : (step : MemberStep) (by : ℕ) (x : NamedLeaf) → P x → P (leaf_behind step by x)
  pub own : (s k : ℕ) → k < member_count c s → member_size c w s k ≢ 0 → P (own_leaf c w s k)

-- what holds of all that each number gives holds of all that they give together
pub each_number : {X : Type 0} (P : X → Type 0) (f : ℕ → List X) (n : ℕ)
    → ((k : ℕ) → k < n → All P (f k)) → All P (flat_map f (numbers_below n))
each_number P f zero h = All-nil P
each_number P f (suc n) h =
    rw (flat_map-numbers_below f n)
    (All-append P _ _ (each_number P f n (λ k lt. h k (omega arith))) (All-append P (f n) [] (h n (omega arith)) (All-nil P)))

member_holds : (P : NamedLeaf → Type 0) (inside : ℕ → List NamedLeaf) (c : Catalogue) (w : Width) (s k : ℕ)
    → HoldsOfOwn P c w → k < member_count c s → ((t : ℕ) → All P (inside t)) → All P (member_leaves inside c w s k)
unfolding member_leaves
member_holds P inside c w s k holds lt h = unless_empty (member_size c w s k == 0) refl
  where
    by_inner : (o : Option ℕ) → member_size c w s k ≢ 0 → All P (leaves_by inside c w s k o)
    by_inner (Some t) some = each_number P (inner_leaves (inside t) c w s k) (name_of c s k).count (λ e lt. All-map P _ (inside t) (λ j d lt. holds.behind (member_step c s k e) (member_offset c w s k + e * element_size c w s k) _ (h t j d lt)))
    by_inner None some = All-cons P (own_leaf c w s k) [] (holds.own s k lt some) (All-nil P)

    unless_empty : (b : Bool) → (member_size c w s k == 0) ≡ b → All P (cond b [] (leaves_by inside c w s k (inner_struct c s k)))
    unless_empty true is = All-nil P
    unless_empty false is = by_inner (inner_struct c s k) (λ none. let e : eqb 0 0 ≡ false = rw none at is in absurd (cc))

-- such a property holds of each leaf of a struct
pub leaves_within-hold : (P : NamedLeaf → Type 0) (n : ℕ) (c : Catalogue) (w : Width) (s : ℕ)
    → HoldsOfOwn P c w → All P (leaves_within n c w s)
unfolding leaves_within
leaves_within-hold P zero c w s holds = All-nil P
leaves_within-hold P (suc n) c w s holds =
    each_number P (member_leaves (leaves_within n c w) c w s) (member_count c s) (λ k lt. member_holds P (leaves_within n c w) c w s k holds lt (λ t. leaves_within-hold P n c w t holds))

-- such a property holds of each leaf that a struct has
pub named_leaves-hold : (P : NamedLeaf → Type 0) (c : Catalogue) (w : Width) (s : ℕ)
    → HoldsOfOwn P c w → All P (named_leaves c w s)
unfolding named_leaves
named_leaves-hold P c w s holds = leaves_within-hold P (deepest_nesting + 1) c w s holds

-- ---- no leaf is empty

-- a leaf has elements, each of some bytes
pub record HasBytes (x : NamedLeaf) : Type 0 where
  pub size : 0 < x.size
  pub count : 0 < x.count

factors : (a b : ℕ) → a * b ≢ 0 → (0 < a) × (0 < b)
factors zero b h = absurd (h (omega arith))
factors (suc a) zero h = absurd (h (omega arith))
factors (suc a) (suc b) h = (omega arith, omega arith)

own_leaf_has_bytes : (c : Catalogue) (w : Width) (s k : ℕ) → member_size c w s k ≢ 0 → HasBytes (own_leaf c w s k)
unfolding member_size
own_leaf_has_bytes c w s k some =
    let both = factors (element_size c w s k) (name_of c s k).count some in
    record { size = both.0; count = both.1 }

-- each leaf of a struct has elements, each of some bytes
pub named_leaves-have_bytes : (c : Catalogue) (w : Width) (s : ℕ) → All HasBytes (named_leaves c w s)
named_leaves-have_bytes c w s =
    named_leaves-hold HasBytes c w s (record {
      behind = λ step by x h. record { size = h.size; count = h.count };
      own = λ s k lt some. own_leaf_has_bytes c w s k some;
    })

-- ---- kinds and sizes

-- a size is one that elements of a kind have: that of the whole number, which has 1, 2, 4 or 8 bytes, that of the
-- float, 4 or 8, or that of pointers; opaque bytes may have any
abbrev pub FitsKind : Width → Kind → ℕ → Type 0
FitsKind w (kinds.Whole whole) size = (size ≡ whole.bytes) × IsWholeLength size
FitsKind w (kinds.Bits n) size = (size ≡ n) × ((size ≡ 4) ⊎ (size ≡ 8))
FitsKind w (kinds.Pointer depth t) size = size ≡ pointer_bytes w
FitsKind w kinds.Opaque size = Unit {0}

-- the lengths of a basic type are lengths of whole numbers or of floats
LengthsFit : Basic → Type 0
LengthsFit (IsWhole signed ls) = (n : ℕ) → contains ls n ≡ true → IsWholeLength n
LengthsFit (IsFloat n) = (n ≡ 4) ⊎ (n ≡ 8)
LengthsFit IsVoid = Unit {0}

AllLengthsFit : List (List ℕ × Basic) → Type 0
AllLengthsFit [] = Unit {0}
AllLengthsFit (e ∷ es) = LengthsFit e.1 × AllLengthsFit es

contains_first : (a n : ℕ) (ls : List ℕ) → contains (a ∷ ls) n ≡ true → (n ≡ a) ⊎ (contains ls n ≡ true)
contains_first a n ls e = elim (or_cases (eqb a n) (contains ls n) e) [ inl h ↦ inl (sym (eqb-true a n h)) | inr h ↦ inr h ]

contains_one : (a n : ℕ) → contains (a ∷ []) n ≡ true → n ≡ a
contains_one a n e = elim (contains_first a n [] e) [ inl h ↦ h | inr h ↦ absurd (cc) ]

one_byte : (n : ℕ) → contains (1 ∷ []) n ≡ true → IsWholeLength n
one_byte n e = inl (contains_one 1 n e)

two_bytes : (n : ℕ) → contains (2 ∷ []) n ≡ true → IsWholeLength n
two_bytes n e = inr (inl (contains_one 2 n e))

four_bytes : (n : ℕ) → contains (4 ∷ []) n ≡ true → IsWholeLength n
four_bytes n e = inr (inr (inl (contains_one 4 n e)))

eight_bytes : (n : ℕ) → contains (8 ∷ []) n ≡ true → IsWholeLength n
eight_bytes n e = inr (inr (inr (contains_one 8 n e)))

four_or_eight : (n : ℕ) → contains (4 ∷ 8 ∷ []) n ≡ true → IsWholeLength n
four_or_eight n e = elim (contains_first 4 n (8 ∷ []) e) [ inl h ↦ inr (inr (inl h)) | inr h ↦ eight_bytes n h ]

table_fits : AllLengthsFit basic_types
unfolding AllLengthsFit LengthsFit
table_fits = (one_byte, (one_byte, (one_byte, (two_bytes, (two_bytes, (four_bytes, (four_or_eight, (four_or_eight, (eight_bytes, (eight_bytes, (inl refl, (inr refl, (tt, tt)))))))))))))

found_fits : (test : List ℕ × Basic → Bool) (es : List (List ℕ × Basic)) (b : Basic)
    → AllLengthsFit es → option_map (λ (e : List ℕ × Basic). e.1) (find test es) ≡ Some b → LengthsFit b
unfolding AllLengthsFit
found_fits test [] b all e = absurd (cc)
found_fits test (x ∷ es) b all e = go (test x) e (λ h. found_fits test es b all.1 h)
  where
    go : (t : Bool) → option_map (λ (e : List ℕ × Basic). e.1) (cond t (Some x) (find test es)) ≡ Some b
        → (option_map (λ (e : List ℕ × Basic). e.1) (find test es) ≡ Some b → LengthsFit b) → LengthsFit b
    go true e later = (let same : x.1 ≡ b = cc in rw (← same) all.0)
    go false e later = later e

basic_fits : (name : List ℕ) (b : Basic) → basic_named name ≡ Some b → LengthsFit b
unfolding basic_named
basic_fits name b e = found_fits (λ e. bytes_eq e.0 name) basic_types b table_fits e

is_true : (b : Bool) → not b ≡ false → b ≡ true
is_true true e = refl
is_true false e = absurd (cc)

-- the kind of a member, taken apart
kind_fits : (w : Width) (pointer : Bool) (depth t : ℕ) (basic : Option Basic) (inner : Option ℕ) (n : ℕ)
    → ((b : Basic) → basic ≡ Some b → LengthsFit b) → (not pointer && is_bad_length basic n) ≡ false
    → FitsKind w (cond pointer (kinds.Pointer depth t) (kind_of_content (basic_or_struct basic inner) n)) (cond pointer (pointer_bytes w) n)
unfolding LengthsFit
kind_fits w true depth t basic inner n fits good = refl
kind_fits w false depth t None None n fits good = tt
kind_fits w false depth t None (Some s) n fits good = tt
kind_fits w false depth t (Some (IsWhole signed ls)) inner n fits good =
    (refl, fits (IsWhole signed ls) refl n (is_true (contains ls n) good))
kind_fits w false depth t (Some (IsFloat k)) inner n fits good =
    let same : n ≡ k = contains_one k n (is_true (contains (k ∷ []) n) good) in
    (refl, rw same (fits (IsFloat k) refl))
kind_fits w false depth t (Some IsVoid) inner n fits good = tt

own_leaf_fits : (c : Catalogue) (w : Width) (s k : ℕ)
    → has_bad_length c s k ≡ false → FitsKind w (kind_of c s k) (element_size c w s k)
unfolding kind_of element_size content_of
own_leaf_fits c w s k good =
    let t : ℕ = (member_entry c s k).type_number in
    let name : List ℕ = (type_entry c t).name in
    let n : ℕ = (type_entry c t).length in
    kind_fits w (name_of c s k).pointer (name_of c s k).depth t (basic_named name) (struct_of_type c t) n (basic_fits name)
    (or_parts (is_some (basic_named (struct_name c s))) (not (name_of c s k).pointer && is_bad_length (basic_named name) n) good).1

-- where no member has a fault, the size of each leaf's elements is one that its kind has
pub named_leaves-fit : (c : Catalogue) (w : Width) (s : ℕ)
    → first_fault c w ≡ None → All (λ x. FitsKind w x.kind x.size) (named_leaves c w s)
named_leaves-fit c w s e =
    named_leaves-hold (λ x. FitsKind w x.kind x.size) c w s (record {
      behind = λ step by x h. h;
      own = λ s k lt some. own_leaf_fits c w s k (member_passes c w s k e lt).basic_length;
    })
