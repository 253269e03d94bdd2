-- A catalogue at another width has the same names, members and unnamed tails as before, and the lengths that its
-- structs have there; and no member has a fault at that width where none had before.
use Rattle.std.proofs.Common.{◌≡◌, ℕ, zero, suc, ◌+◌, ◌-◌, ◌*◌, ◌≤◌, ◌<◌, Bool, true, false, cond, not, eqb, List, [], ◌∷◌, length, get_or, Option, Some, None, refl, sym, ap, ◌∙◌, arith, inl, inr, le-ltb, eq-eqb}
use Rattle.std.specs.Prelude.{◌||◌, ◌&&◌, map, sum, max, fold, filter_map, is_some}
use Rattle.std.specs.List.{position_from, enumerate_from}
use Rattle.std.proofs.Math.Path.{fun_ext}
use Rattle.std.proofs.lemmas.Bool.{cases_lt}
use Rattle.std.proofs.lemmas.List.{get_or_past, map-append}
use Rattle.std.proofs.lemmas.List.Sums.{sum_by_push}
use Rattle.bl_num.specs.declared.number.Width.{Width}
use Rattle.bl_num.specs.Numbers.{pointer_bytes}
use Rattle.bl_format.specs.declared.catalogue.Catalogue.{Catalogue}
use Rattle.bl_format.specs.declared.catalogue.TypeEntry.{TypeEntry}
use Rattle.bl_format.specs.declared.catalogue.StructEntry.{StructEntry}
use Rattle.bl_format.specs.Words.{numbers_below, find_map}
use Rattle.bl_format.specs.Members.{MemberName}
use Rattle.bl_format.specs.Schema.{IsCatalogue}
use Rattle.bl_format.specs.Layout.{Basic, type_entry, struct_entry, member_entry, member_count, member_numbers, struct_name, struct_length, struct_of_type, struct_or_bytes, basic_named, basic_or_struct, struct_of_content, content_of, name_of, inner_struct, inner_structs, holds_struct, leads_back, has_bad_name, is_duplicate, is_bad_length, has_bad_length, overruns, member_fault, first_fault, element_size, member_size, member_offset, nesting_within, nesting}
use Rattle.bl_format.specs.Rewidth.{tail_of, new_value_size, new_size, new_length, type_length, rewidth}
use Rattle.bl_format.proofs.MemberPasses.{member_passes, find_map-append, IsStructOf, is_struct_of}
use Rattle.bl_format.proofs.NewLengths.{map_same, new_length-members}

-- ---- what stays

-- the structs stay
pub rewidth-structs : (c : Catalogue) (from to : Width) → (rewidth c from to).structs ≡ c.structs
unfolding rewidth
rewidth-structs c from to = refl

-- the names of members stay
pub rewidth-names : (c : Catalogue) (from to : Width) → (rewidth c from to).names ≡ c.names
unfolding rewidth
rewidth-names c from to = refl

length-map-enumerate_from : {X Y : Type 0} (f : ℕ × X → Y) (i : ℕ) (xs : List X) → length (map f (enumerate_from i xs)) ≡ length xs
length-map-enumerate_from f i [] = refl
length-map-enumerate_from f i (x ∷ xs) = ap suc (length-map-enumerate_from f (i + 1) xs)

get_or-map-enumerate_from : {X Y : Type 0} (f : ℕ × X → Y) (i : ℕ) (xs : List X) (k j : ℕ) (d : Y) (e : X)
    → k < length xs → j ≡ i + k → get_or (map f (enumerate_from i xs)) k d ≡ f (j, get_or xs k e)
get_or-map-enumerate_from f i [] k j d e lt is = absurd (omega arith)
get_or-map-enumerate_from f i (x ∷ xs) zero j d e lt is = (let same : j ≡ i = omega arith in rw same refl)
get_or-map-enumerate_from f i (x ∷ xs) (suc k) j d e lt is = get_or-map-enumerate_from f (i + 1) xs k j d e (omega arith) (omega arith)

at_new_width : Catalogue → Width → Width → ℕ × TypeEntry → TypeEntry
at_new_width c from to p = record p.1 { length = type_length c from to (struct_of_type c p.0) p.1.length }

-- as many types as before
pub rewidth-type_count : (c : Catalogue) (from to : Width) → length (rewidth c from to).types ≡ length c.types
unfolding rewidth at_new_width
rewidth-type_count c from to = length-map-enumerate_from (at_new_width c from to) 0 c.types

no_type : TypeEntry
no_type = record { name = []; length = 0 }

-- a type has its old name, and the length of its struct or its old one
pub type_at : (c : Catalogue) (from to : Width) (t : ℕ) (d : TypeEntry) → t < length c.types
    → get_or (rewidth c from to).types t d ≡ record { name = (get_or c.types t d).name; length = type_length c from to (struct_of_type c t) (get_or c.types t d).length }
unfolding rewidth at_new_width
type_at c from to t d lt = get_or-map-enumerate_from (at_new_width c from to) 0 c.types t t d d lt (omega arith)

type_within : (c : Catalogue) (from to : Width) (t : ℕ) → t < length c.types
    → type_entry (rewidth c from to) t ≡ record { name = (type_entry c t).name; length = type_length c from to (struct_of_type c t) (type_entry c t).length }
type_within c from to t lt = type_at c from to t (record { name = []; length = 0 }) lt

type_past : (c : Catalogue) (t : ℕ) → length c.types ≤ t → type_entry c t ≡ no_type
unfolding no_type
type_past c t le = get_or_past c.types t (record { name = []; length = 0 }) le

-- type names stay
pub rewidth-type_name : (c : Catalogue) (from to : Width) (t : ℕ) → (type_entry (rewidth c from to) t).name ≡ (type_entry c t).name
rewidth-type_name c from to t = elim (cases_lt t (length c.types)) [
  | inl lt ↦ ap (λ (x : TypeEntry). x.name) (type_within c from to t lt)
  | inr le ↦ ap (λ (x : TypeEntry). x.name) (type_past (rewidth c from to) t (omega (arith, rewidth-type_count c from to)) ∙ sym (type_past c t le))
]

-- a struct stays
pub rewidth-struct_entry : (c : Catalogue) (from to : Width) (s : ℕ) → struct_entry (rewidth c from to) s ≡ struct_entry c s
rewidth-struct_entry c from to s = rw (rewidth-structs c from to, rewidth-type_count c from to) refl

-- a struct has as many members as before
pub rewidth-member_count : (c : Catalogue) (from to : Width) (s : ℕ) → member_count (rewidth c from to) s ≡ member_count c s
rewidth-member_count c from to s = ap (λ (x : StructEntry). length x.members) (rewidth-struct_entry c from to s)

-- members stay
pub rewidth-member_entry : (c : Catalogue) (from to : Width) (s k : ℕ) → member_entry (rewidth c from to) s k ≡ member_entry c s k
rewidth-member_entry c from to s k = rw (rewidth-structs c from to, rewidth-type_count c from to, rewidth-names c from to) refl

-- what a member's name says stays
pub rewidth-name_of : (c : Catalogue) (from to : Width) (s k : ℕ) → name_of (rewidth c from to) s k ≡ name_of c s k
unfolding name_of
rewidth-name_of c from to s k = rw (rewidth-member_entry c from to s k, rewidth-names c from to) refl

-- what a type holds stays
pub rewidth-content_of : (c : Catalogue) (from to : Width) (t : ℕ) → content_of (rewidth c from to) t ≡ content_of c t
unfolding content_of
rewidth-content_of c from to t = rw (rewidth-type_name c from to t, rewidth-structs c from to) refl

-- which structs stand in which stays
pub rewidth-inner_struct : (c : Catalogue) (from to : Width) (s k : ℕ) → inner_struct (rewidth c from to) s k ≡ inner_struct c s k
unfolding inner_struct
rewidth-inner_struct c from to s k =
    rw (rewidth-name_of c from to s k, rewidth-member_entry c from to s k, rewidth-content_of c from to (member_entry c s k).type_number) refl

rewidth-inner_structs : (c : Catalogue) (from to : Width) (s : ℕ) → inner_structs (rewidth c from to) s ≡ inner_structs c s
rewidth-inner_structs c from to s =
    rw (rewidth-member_count c from to s) (ap (λ (f : ℕ → Option ℕ). filter_map f (numbers_below (member_count c s))) (fun_ext (λ k. rewidth-inner_struct c from to s k)))

rewidth-nesting_within : (c : Catalogue) (from to : Width) (n s : ℕ) → nesting_within n (rewidth c from to) s ≡ nesting_within n c s
unfolding nesting_within
rewidth-nesting_within c from to zero s = refl
rewidth-nesting_within c from to (suc n) s =
    rw (rewidth-inner_structs c from to s) (ap (λ (f : ℕ → ℕ). suc (fold max 0 (map f (inner_structs c s)))) (fun_ext (λ t. rewidth-nesting_within c from to n t)))

-- nesting stays
pub rewidth-nesting : (c : Catalogue) (from to : Width) (s : ℕ) → nesting (rewidth c from to) s ≡ nesting c s
unfolding nesting
rewidth-nesting c from to s =
    rewidth-nesting_within c from to (length (rewidth c from to).structs) s ∙ ap (λ (xs : List StructEntry). nesting_within (length xs) c s) (rewidth-structs c from to)

-- ---- the struct of a type

-- no element before passes, so none at all
none_passes : {X : Type 0} (p : X → Bool) (i : ℕ) (xs : List X) (k : ℕ) (d : X)
    → position_from p i xs ≡ None → k < length xs → p (get_or xs k d) ≡ false
none_passes p i [] k d e lt = absurd (omega arith)
none_passes {X} p i (x ∷ xs) k d e lt = go (p x) refl e k lt (λ j below e'. none_passes p (i + 1) xs j d e' below)
  where
    go : (b : Bool) → p x ≡ b → cond b (Some i) (position_from p (i + 1) xs) ≡ None → (j : ℕ) → j < suc (length xs)
        → ((j : ℕ) → j < length xs → position_from p (i + 1) xs ≡ None → p (get_or xs j d) ≡ false) → p (get_or (x ∷ xs) j d) ≡ false
    go true is e j lt later = absurd (cc)
    go false is e zero lt later = is
    go false is e (suc j) lt later = later j (omega arith) e

type_in_range : (c : Catalogue) (s : ℕ) → IsCatalogue c → s < length c.structs → (struct_entry c s).type_number < length c.types
type_in_range c s is lt = (is.structs s (record { type_number = length c.types; members = [] }) lt).type_number

-- the struct of a struct's type is that struct
struct_of_type-own : (c : Catalogue) (s : ℕ) → IsCatalogue c → s < length c.structs → struct_of_type c (struct_entry c s).type_number ≡ Some s
struct_of_type-own c s is lt = go (struct_of_type c (struct_entry c s).type_number) refl
  where
    same : (t : ℕ) → IsStructOf c (struct_entry c s).type_number t → t ≡ s
    same t of = elim (cases_lt t s) [
      | inl before ↦ absurd (is.struct_types_differ t s (record { type_number = length c.types; members = [] }) before lt of.type_number_is)
      | inr le ↦ elim (cases_lt s t) [
        | inl behind ↦ absurd (is.struct_types_differ s t (record { type_number = length c.types; members = [] }) behind of.within (sym of.type_number_is))
        | inr ge ↦ omega arith
      ]
    ]

    go : (o : Option ℕ) → struct_of_type c (struct_entry c s).type_number ≡ o → struct_of_type c (struct_entry c s).type_number ≡ Some s
    go None e = absurd (
        let t : ℕ = (struct_entry c s).type_number in
        let out : eqb t t ≡ false = none_passes (λ (x : StructEntry). eqb x.type_number t) 0 c.structs s (record { type_number = length c.types; members = [] }) e lt in
        let in' : eqb t t ≡ true = eq-eqb t t refl in
        cc)
    go (Some t) e = e ∙ ap (λ (n : ℕ). Some n) (same t (is_struct_of c (struct_entry c s).type_number t e))

-- ---- lengths and sizes

type_length_within : (c : Catalogue) (from to : Width) (t : ℕ) → t < length c.types
    → (type_entry (rewidth c from to) t).length ≡ type_length c from to (struct_of_type c t) (type_entry c t).length
type_length_within c from to t lt = ap (λ (x : TypeEntry). x.length) (type_within c from to t lt)

-- the length of a struct is its new one
pub rewidth-struct_length : (c : Catalogue) (from to : Width) (s : ℕ) → IsCatalogue c → s < length c.structs
    → struct_length (rewidth c from to) s ≡ new_length c from to s
rewidth-struct_length c from to s is lt =
    ap (λ (x : StructEntry). (type_entry (rewidth c from to) x.type_number).length) (rewidth-struct_entry c from to s)
    ∙ type_length_within c from to (struct_entry c s).type_number (type_in_range c s is lt)
    ∙ ap (λ (o : Option ℕ). type_length c from to o (struct_length c s)) (struct_of_type-own c s is lt)

-- a struct without members keeps its length
empty_length : (c : Catalogue) (from to : Width) (s : ℕ) → first_fault c from ≡ None → s < length c.structs
    → member_count c s ≡ 0 → new_length c from to s ≡ struct_length c s
unfolding tail_of member_offset
empty_length c from to s e lt none = new_length-members c from to s e lt ∙ rw none (omega arith)

first_false : (a b : Bool) → (a || b) ≡ false → a ≡ false
first_false true b e = absurd (cc)
first_false false b e = refl

-- a struct that has a basic type's name has no members
basic_struct_empty : (c : Catalogue) (from : Width) (s : ℕ) (b : Basic) → first_fault c from ≡ None
    → basic_named (struct_name c s) ≡ Some b → member_count c s ≡ 0
basic_struct_empty c from s b e is = go (member_count c s) refl
  where
    go : (n : ℕ) → member_count c s ≡ n → member_count c s ≡ 0
    go zero none = none
    go (suc n) some = absurd (
        let good = (member_passes c from s 0 e (omega arith)).basic_length in
        let named : is_some (basic_named (struct_name c s)) ≡ false = first_false (is_some (basic_named (struct_name c s))) _ good in
        let not_named : true ≡ false = rw is at named in
        cc)

-- a basic type keeps its length
pub rewidth-basic_length : (c : Catalogue) (from to : Width) (t : ℕ) (b : Basic) → IsCatalogue c → first_fault c from ≡ None
    → basic_named (type_entry c t).name ≡ Some b → (type_entry (rewidth c from to) t).length ≡ (type_entry c t).length
rewidth-basic_length c from to t b is e basic = elim (cases_lt t (length c.types)) [
  | inl lt ↦ type_length_within c from to t lt ∙ go (struct_of_type c t) refl
  | inr le ↦ ap (λ (x : TypeEntry). x.length) (type_past (rewidth c from to) t (omega (arith, rewidth-type_count c from to)) ∙ sym (type_past c t le))
]
  where
    go : (o : Option ℕ) → struct_of_type c t ≡ o → type_length c from to o (type_entry c t).length ≡ (type_entry c t).length
    go None none = refl
    go (Some s) some =
        let of = is_struct_of c t s some in
        let name : basic_named (struct_name c s) ≡ Some b = ap (λ (u : ℕ). basic_named (type_entry c u).name) of.type_number_is ∙ basic in
        empty_length c from to s e of.within (basic_struct_empty c from s b e name) ∙ ap (λ (u : ℕ). (type_entry c u).length) of.type_number_is

-- the length of a member's type is the new size of one element by value
pub rewidth-value_size : (c : Catalogue) (from to : Width) (s k : ℕ) → IsCatalogue c → first_fault c from ≡ None
    → s < length c.structs → k < member_count c s → (name_of c s k).pointer ≡ false
    → (type_entry (rewidth c from to) (member_entry c s k).type_number).length ≡ new_value_size (new_length c from to) c s k (inner_struct c s k)
unfolding inner_struct content_of
rewidth-value_size c from to s k is e lt within by_value = rw by_value (by_basic (basic_named (type_entry c (member_entry c s k).type_number).name) refl)
  where
    in_range : (member_entry c s k).type_number < length c.types
    in_range = ((is.structs s (record { type_number = length c.types; members = [] }) lt).members k (record { type_number = length c.types; name_number = length c.names }) within).type_number

    by_struct : (o : Option ℕ) → type_length c from to o (type_entry c (member_entry c s k).type_number).length ≡ new_value_size (new_length c from to) c s k (struct_of_content (struct_or_bytes o))
    by_struct None = refl
    by_struct (Some t) = refl

    by_basic : (o : Option Basic) → basic_named (type_entry c (member_entry c s k).type_number).name ≡ o
        → (type_entry (rewidth c from to) (member_entry c s k).type_number).length ≡ new_value_size (new_length c from to) c s k (struct_of_content (basic_or_struct o (struct_of_type c (member_entry c s k).type_number)))
    by_basic (Some b) basic = rewidth-basic_length c from to (member_entry c s k).type_number b is e basic
    by_basic None basic = type_length_within c from to (member_entry c s k).type_number in_range ∙ by_struct (struct_of_type c (member_entry c s k).type_number)

-- the size of a member is its new one
pub rewidth-member_size : (c : Catalogue) (from to : Width) (s k : ℕ) → IsCatalogue c → first_fault c from ≡ None
    → s < length c.structs → k < member_count c s → member_size (rewidth c from to) to s k ≡ new_size (new_length c from to) c to s k
unfolding member_size element_size
rewidth-member_size c from to s k is e lt within =
    rw (rewidth-name_of c from to s k, rewidth-member_entry c from to s k) (ap (λ (n : ℕ). n * (name_of c s k).count) (go (name_of c s k).pointer refl))
  where
    go : (p : Bool) → (name_of c s k).pointer ≡ p
        → cond p (pointer_bytes to) (type_entry (rewidth c from to) (member_entry c s k).type_number).length ≡ cond p (pointer_bytes to) (new_value_size (new_length c from to) c s k (inner_struct c s k))
    go true pointer = refl
    go false by_value = rewidth-value_size c from to s k is e lt within by_value

-- the place of a member is the sum of the new sizes before it
pub rewidth-member_offset : (c : Catalogue) (from to : Width) (s k : ℕ) → IsCatalogue c → first_fault c from ≡ None
    → s < length c.structs → k ≤ member_count c s
    → member_offset (rewidth c from to) to s k ≡ sum (map (new_size (new_length c from to) c to s) (numbers_below k))
unfolding member_offset
rewidth-member_offset c from to s k is e lt le =
    ap (λ (xs : List ℕ). sum xs) (map_same (member_size (rewidth c from to) to s) (new_size (new_length c from to) c to s) k (λ j below. rewidth-member_size c from to s j is e lt (omega arith)))

-- a sum over the numbers up to n is that below n, and what n gives
pub sum_below-suc : (f : ℕ → ℕ) (n : ℕ) → sum (map f (numbers_below (suc n))) ≡ sum (map f (numbers_below n)) + f n
sum_below-suc f n = rw (map-append f (numbers_below n) (n ∷ [])) (sum_by_push (λ (x : ℕ). x) (map f (numbers_below n)) (f n))

sum_below-le : (f : ℕ → ℕ) (k n : ℕ) → k ≤ n → sum (map f (numbers_below k)) ≤ sum (map f (numbers_below n))
sum_below-le f k zero le = (let none : k ≡ 0 = omega arith in rw none (omega arith))
sum_below-le f k (suc n) le = elim (cases_lt k (suc n)) [
  | inl lt ↦ omega (arith, sum_below-suc f n, sum_below-le f k n (omega arith))
  | inr ge ↦ (let same : k ≡ suc n = omega arith in rw same (omega arith))
]

-- the unnamed tail is what stands behind the last member
pub tail_is : (c : Catalogue) (w : Width) (s : ℕ) → tail_of c w s ≡ struct_length c s - member_offset c w s (member_count c s)
unfolding tail_of
tail_is c w s = refl

-- the unnamed tail stays
pub rewidth-tail_of : (c : Catalogue) (from to : Width) (s : ℕ) → IsCatalogue c → first_fault c from ≡ None
    → s < length c.structs → tail_of (rewidth c from to) to s ≡ tail_of c from s
rewidth-tail_of c from to s is e lt =
    let members : ℕ = sum (map (new_size (new_length c from to) c to s) (member_numbers c s)) in
    let len : struct_length (rewidth c from to) s ≡ members + tail_of c from s = rewidth-struct_length c from to s is lt ∙ new_length-members c from to s e lt in
    let end : member_offset (rewidth c from to) to s (member_count (rewidth c from to) s) ≡ members = ap (member_offset (rewidth c from to) to s) (rewidth-member_count c from to s) ∙ rewidth-member_offset c from to s (member_count c s) is e lt (omega arith) in
    tail_is (rewidth c from to) to s ∙ omega (arith, len, end)

-- no member passes its struct's length
rewidth-overruns : (c : Catalogue) (from to : Width) (s k : ℕ) → IsCatalogue c → first_fault c from ≡ None
    → s < length c.structs → k < member_count c s → overruns (rewidth c from to) to s k ≡ false
rewidth-overruns c from to s k is e lt within =
    let f : ℕ → ℕ = new_size (new_length c from to) c to s in
    le-ltb (struct_length (rewidth c from to) s) (member_offset (rewidth c from to) to s (suc k))
    (omega (arith, rewidth-struct_length c from to s is lt, new_length-members c from to s e lt, rewidth-member_offset c from to s (suc k) is e lt (omega arith), sum_below-le f (suc k) (member_count c s) (omega arith)))

-- ---- faults

rewidth-has_bad_name : (c : Catalogue) (from to : Width) (s k : ℕ) → has_bad_name (rewidth c from to) s k ≡ has_bad_name c s k
rewidth-has_bad_name c from to s k = rw (rewidth-member_entry c from to s k, rewidth-names c from to) refl

rewidth-is_duplicate : (c : Catalogue) (from to : Width) (s k : ℕ) → is_duplicate (rewidth c from to) s k ≡ is_duplicate c s k
rewidth-is_duplicate c from to s k =
    rw (rewidth-name_of c from to s k, map_same (λ j. (name_of (rewidth c from to) s j).identifier) (λ j. (name_of c s j).identifier) k (λ j lt. ap (λ (n : MemberName). n.identifier) (rewidth-name_of c from to s j))) refl

rewidth-holds_struct : (c : Catalogue) (from to : Width) → holds_struct (rewidth c from to) ≡ holds_struct c
rewidth-holds_struct c from to = fun_ext (λ s. fun_ext (λ t. rw (rewidth-inner_structs c from to s) refl))

rewidth-leads_back : (c : Catalogue) (from to : Width) (s : ℕ) (o : Option ℕ) → leads_back (rewidth c from to) s o ≡ leads_back c s o
rewidth-leads_back c from to s None = refl
rewidth-leads_back c from to s (Some t) = rw (rewidth-holds_struct c from to, rewidth-structs c from to) refl

-- the names of structs stay
pub rewidth-struct_name : (c : Catalogue) (from to : Width) (s : ℕ) → struct_name (rewidth c from to) s ≡ struct_name c s
rewidth-struct_name c from to s =
    ap (λ (x : StructEntry). (type_entry (rewidth c from to) x.type_number).name) (rewidth-struct_entry c from to s) ∙ rewidth-type_name c from to (struct_entry c s).type_number

length_test : (pointer : Bool) (basic : Option Basic) (n m : ℕ) → ((b : Basic) → basic ≡ Some b → n ≡ m)
    → (not pointer && is_bad_length basic n) ≡ (not pointer && is_bad_length basic m)
length_test true basic n m same = refl
length_test false None n m same = refl
length_test false (Some b) n m same = rw (same b refl) refl

rewidth-has_bad_length : (c : Catalogue) (from to : Width) (s k : ℕ) → IsCatalogue c → first_fault c from ≡ None
    → has_bad_length (rewidth c from to) s k ≡ has_bad_length c s k
rewidth-has_bad_length c from to s k is e =
    let t : ℕ = (member_entry c s k).type_number in
    rw (rewidth-struct_name c from to s, rewidth-name_of c from to s k, rewidth-member_entry c from to s k, rewidth-type_name c from to t)
    (ap (λ (b : Bool). is_some (basic_named (struct_name c s)) || b)
    (length_test (name_of c s k).pointer (basic_named (type_entry c t).name) (type_entry (rewidth c from to) t).length (type_entry c t).length (λ b basic. rewidth-basic_length c from to t b is e basic)))

rewidth-member_fault : (c : Catalogue) (from to : Width) (s k : ℕ) → IsCatalogue c → first_fault c from ≡ None
    → s < length c.structs → k < member_count c s → member_fault (rewidth c from to) to s k ≡ None
unfolding member_fault
rewidth-member_fault c from to s k is e lt within =
    let h = member_passes c from s k e within in
    let name : has_bad_name (rewidth c from to) s k ≡ false = rewidth-has_bad_name c from to s k ∙ h.name in
    let identifier : is_duplicate (rewidth c from to) s k ≡ false = rewidth-is_duplicate c from to s k ∙ h.identifier in
    let basic : has_bad_length (rewidth c from to) s k ≡ false = rewidth-has_bad_length c from to s k is e ∙ h.basic_length in
    let back : leads_back (rewidth c from to) s (inner_struct (rewidth c from to) s k) ≡ false = ap (leads_back (rewidth c from to) s) (rewidth-inner_struct c from to s k) ∙ rewidth-leads_back c from to s (inner_struct c s k) ∙ h.not_cyclic in
    rw (name, identifier, basic, back, rewidth-overruns c from to s k is e lt within) refl

-- where no number below n gives anything, nothing is found
pub none_found : {Y : Type 0} (f : ℕ → Option Y) (n : ℕ) → ((k : ℕ) → k < n → f k ≡ None) → find_map f (numbers_below n) ≡ None
none_found f zero h = refl
none_found f (suc n) h = rw (find_map-append f (numbers_below n) (n ∷ []), none_found f n (λ k lt. h k (omega arith)), h n (omega arith)) refl

-- where no member had a fault, none has at another width
pub rewidth-first_fault : (c : Catalogue) (from to : Width) → IsCatalogue c → first_fault c from ≡ None
    → first_fault (rewidth c from to) to ≡ None
unfolding first_fault
rewidth-first_fault c from to is e =
    none_found (λ s. find_map (member_fault (rewidth c from to) to s) (member_numbers (rewidth c from to) s)) (length (rewidth c from to).structs)
    (λ s below. (
    let lt : s < length c.structs = rw (rewidth-structs c from to) at below in
    none_found (member_fault (rewidth c from to) to s) (member_count (rewidth c from to) s) (λ k within. rewidth-member_fault c from to s k is e lt (omega (arith, rewidth-member_count c from to s)))))
