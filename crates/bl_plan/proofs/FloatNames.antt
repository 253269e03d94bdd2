-- Floats of one length have one type: those of 4 bytes are `float`, and those of 8 `double`.
use Rattle.std.proofs.Common.{◌≡◌, ℕ, Bool, true, false, cond, not, All, List, [], ◌∷◌, Option, Some, None, refl, inl, inr}
use Rattle.std.specs.Prelude.{◌⊎◌, ◌&&◌, ◌==◌, option_map, is_some, codes}
use Rattle.std.specs.List.{find}
use Rattle.std.specs.Str.{bytes_eq}
use Rattle.std.proofs.lemmas.Slice.Eq.{bytes_eq-Decides}
use Rattle.std.proofs.lemmas.Bool.{or_parts}
use Rattle.bl_num.specs.declared.number.Width.{Width}
use Rattle.bl_format.specs.declared.catalogue.Catalogue.{Catalogue}
use Rattle.bl_format.specs.declared.layout.Kind.{Kind}
use Rattle.bl_format.specs.declared.layout.Kind.TheVariants as kinds
use Rattle.bl_format.specs.Words.{contains}
use Rattle.bl_format.specs.Layout.{Basic, IsWhole, IsFloat, IsVoid, type_entry, member_entry, struct_of_type, struct_name, name_of, basic_types, basic_named, basic_or_struct, kind_of_content, content_of, kind_of, is_bad_length, has_bad_length, named_leaves, first_fault}
use Rattle.bl_format.proofs.MemberPasses.{member_passes}
use Rattle.bl_format.proofs.LeafKinds.{named_leaves-hold}
use Rattle.std.proofs.Common.{eqb-true}
use Rattle.std.proofs.lemmas.Bool.{or_cases}

-- a float of n bytes has this name
abbrev pub IsFloatName : ℕ → List ℕ → Type 0
IsFloatName n name = ((n ≡ 4) × (name ≡ codes "float")) ⊎ ((n ≡ 8) × (name ≡ codes "double"))

-- what is said of a basic type and its name, if it is a float
abbrev FloatIsNamed : Basic → List ℕ → Type 0
FloatIsNamed (IsWhole signed ls) name = Unit {0}
FloatIsNamed (IsFloat n) name = IsFloatName n name
FloatIsNamed IsVoid name = Unit {0}

-- and of a kind and the name of its type
abbrev pub KindIsNamed : Kind → List ℕ → Type 0
KindIsNamed (kinds.Whole whole) name = Unit {0}
KindIsNamed (kinds.Bits n) name = IsFloatName n name
KindIsNamed (kinds.Pointer depth t) name = Unit {0}
KindIsNamed kinds.Opaque name = Unit {0}

abbrev AllAreNamed : List (List ℕ × Basic) → Type 0
AllAreNamed [] = Unit {0}
AllAreNamed (e ∷ es) = FloatIsNamed e.1 e.0 × AllAreNamed es

table_named : AllAreNamed basic_types
table_named = (tt, (tt, (tt, (tt, (tt, (tt, (tt, (tt, (tt, (tt, (inl (refl, refl), (inr (refl, refl), (tt, tt)))))))))))))

found_named : (name : List ℕ) (es : List (List ℕ × Basic)) (b : Basic)
    → AllAreNamed es → option_map (λ (e : List ℕ × Basic). e.1) (find (λ e. bytes_eq e.0 name) es) ≡ Some b → FloatIsNamed b name
found_named name [] b all is = absurd (cc)
found_named name (x ∷ es) b all is = go (bytes_eq x.0 name) refl is (λ h. found_named name es b all.1 h)
  where
    go : (t : Bool) → bytes_eq x.0 name ≡ t → option_map (λ (e : List ℕ × Basic). e.1) (cond t (Some x) (find (λ e. bytes_eq e.0 name) es)) ≡ Some b
        → (option_map (λ (e : List ℕ × Basic). e.1) (find (λ e. bytes_eq e.0 name) es) ≡ Some b → FloatIsNamed b name) → FloatIsNamed b name
    go true same is later =
        let own : x.1 ≡ b = cc in
        let named : x.0 ≡ name = (bytes_eq-Decides x.0 name).0 same in
        rw (← own, ← named) all.0
    go false same is later = later is

basic_is_named : (name : List ℕ) (b : Basic) → basic_named name ≡ Some b → FloatIsNamed b name
unfolding basic_named
basic_is_named name b is = found_named name basic_types b table_named is

is_true : (b : Bool) → not b ≡ false → b ≡ true
is_true true e = refl
is_true false e = absurd (cc)

contains_one : (a n : ℕ) → contains (a ∷ []) n ≡ true → a ≡ n
contains_one a n e = elim (or_cases (a == n) false e) [ inl h ↦ eqb-true a n h | inr h ↦ absurd (cc) ]

-- the kind of a member, taken apart
kind_is_named : (pointer : Bool) (depth t : ℕ) (name : List ℕ) (basic : Option Basic) (inner : Option ℕ) (n : ℕ)
    → ((b : Basic) → basic ≡ Some b → FloatIsNamed b name) → (not pointer && is_bad_length basic n) ≡ false
    → KindIsNamed (cond pointer (kinds.Pointer depth t) (kind_of_content (basic_or_struct basic inner) n)) name
kind_is_named true depth t name basic inner n named good = tt
kind_is_named false depth t name None None n named good = tt
kind_is_named false depth t name None (Some s) n named good = tt
kind_is_named false depth t name (Some (IsWhole signed ls)) inner n named good = tt
kind_is_named false depth t name (Some (IsFloat k)) inner n named good =
    let same : k ≡ n = contains_one k n (is_true (contains (k ∷ []) n) good) in
    rw (← same) (named (IsFloat k) refl)
kind_is_named false depth t name (Some IsVoid) inner n named good = tt

own_kind_is_named : (c : Catalogue) (s k : ℕ) → has_bad_length c s k ≡ false
    → KindIsNamed (kind_of c s k) (type_entry c (member_entry c s k).type_number).name
unfolding kind_of content_of
own_kind_is_named c s k good =
    let t : ℕ = (member_entry c s k).type_number in
    let name : List ℕ = (type_entry c t).name in
    let n : ℕ = (type_entry c t).length in
    kind_is_named (name_of c s k).pointer (name_of c s k).depth t name (basic_named name) (struct_of_type c t) n (basic_is_named name)
    (or_parts (is_some (basic_named (struct_name c s))) (not (name_of c s k).pointer && is_bad_length (basic_named name) n) good).1

-- each float among the leaves of a struct has the name of its length
pub named_leaves-floats : (c : Catalogue) (w : Width) (s : ℕ) → first_fault c w ≡ None → All (λ x. KindIsNamed x.kind x.type_name) (named_leaves c w s)
named_leaves-floats c w s none =
    named_leaves-hold (λ x. KindIsNamed x.kind x.type_name) c w s (record {
      behind = λ step by x h. h;
      own = λ s k lt some. own_kind_is_named c s k (member_passes c w s k none lt).basic_length;
    })

-- so two floats are of one type where they have one length
pub floats_alike : (m n : ℕ) (first second : List ℕ) → IsFloatName m first → IsFloatName n second → bytes_eq first second ≡ (m == n)
floats_alike m n first second (inl a) (inl b) = rw (a.0, a.1, b.0, b.1) refl
floats_alike m n first second (inl a) (inr b) = rw (a.0, a.1, b.0, b.1) refl
floats_alike m n first second (inr a) (inl b) = rw (a.0, a.1, b.0, b.1) refl
floats_alike m n first second (inr a) (inr b) = rw (a.0, a.1, b.0, b.1) refl
