-- The lengths of structs at another width: what a round gives, what one that changes nothing shows, that none is more
-- than twice the old one, and what a type has.
use Rattle.std.proofs.Common.{◌≡◌, ◌≤◌, ◌<◌, ◌+◌, ◌-◌, ◌*◌, ◌^◌, ℕ, zero, suc, Bool, true, false, cond, List, [], ◌∷◌, ◌++◌, length, get_or, take, Option, Some, None, map, refl, sym, ◌∙◌, ap, arith, ltb-false}
use Rattle.std.specs.Prelude.{All, sum, replicate, slice_index}
use Rattle.std.proofs.lemmas.List.{take_more, map_push, get_or_default}
use Rattle.bl_num.specs.declared.number.Width.{Width}
use Rattle.bl_num.specs.declared.number.Width.TheVariants.{Four, Eight}
use Rattle.bl_num.specs.Numbers.{pointer_bytes}
use Rattle.bl_format.specs.declared.catalogue.Catalogue.{Catalogue}
use Rattle.bl_format.specs.declared.catalogue.TypeEntry.{TypeEntry}
use Rattle.bl_format.specs.declared.catalogue.StructEntry.{StructEntry}
use Rattle.bl_format.specs.Words.{numbers_below, find_map}
use Rattle.bl_format.specs.Schema.{IsCatalogue}
use Rattle.bl_format.specs.Layout.{HasLayout, member_count, struct_length, struct_numbers, struct_of_type, name_of, inner_struct, element_size, member_size, member_offset, shape_of, first_fault}
use Rattle.bl_format.specs.Rewidth.{tail_of, new_value_size, new_size, length_within, new_length, type_length, rewidth, rewidth_fault}
use Rattle.bl_format.proofs.CatalogueRead.{IsCatalogue-can_be_read}
use Rattle.bl_format.proofs.NumbersBelow.{get_or-by}
use Rattle.bl_format.proofs.MemberPasses.{inner_struct-some, element_size-inner, is_struct_of, member_passes, first_fault-none}
use Rattle.bl_format.proofs.NewLengths.{map_same}
use Rattle.bl_format.proofs.RewidthKeeps.{sum_below-suc, tail_is, type_at, rewidth-type_count}
use Rattle.bl_format.proofs.RewidthLayout.{length_is, element_of_pointer, element_by_value}
use Rattle.bl_format.proofs.RewidthCatalogue.{new_length-le}
use Rattle.bl_layout.specs.BasicTypes.{IsStructTable, struct_among}
use Rattle.bl_layout.specs.NewLengths.{size_by, next_length, next_lengths, AreShort, new_lengths, fault_of_length, type_with}
use Rattle.bl_layout.proofs.BuildLemmas.{struct_length-small}
use Rattle.bl_layout.proofs.NestingLemmas.{at_number, replicate_push, find_map-map}
use Rattle.bl_layout.proofs.LevelLemmas.{length-by}

-- ---- one member

-- the size by the shape of a member is its new size
pub size_by-shape : (f : ℕ → ℕ) (c : Catalogue) (from to : Width) (s k : ℕ) → size_by f to (shape_of c from s k) ≡ new_size f c to s k
unfolding shape_of member_size element_size
size_by-shape f c from to s k = go (name_of c s k).pointer refl (inner_struct c s k) refl
  where
    go : (p : Bool) → (name_of c s k).pointer ≡ p → (o : Option ℕ) → inner_struct c s k ≡ o
        → size_by f to (shape_of c from s k) ≡ new_size f c to s k
    go true pointer o is = rw pointer refl
    go false by_value None is = rw (by_value, is) refl
    go false by_value (Some t) is = rw (by_value, is) refl

-- a struct that stands in another has a length
pub shape_inside : (c : Catalogue) (w : Width) (s k t : ℕ) → (shape_of c w s k).inner ≡ Some t → t < length c.structs
unfolding shape_of
shape_inside c w s k t is = (inner_struct-some c s k t is).is_struct.within

double_product : (a b n : ℕ) → a ≤ 2 * b → a * n ≤ 2 * (b * n)
double_product a b zero le = omega arith
double_product a b (suc n) le = omega (arith, double_product a b n le)

double_pointers : (from to : Width) → pointer_bytes to ≤ 2 * pointer_bytes from
double_pointers Four Four = omega arith
double_pointers Four Eight = omega arith
double_pointers Eight Four = omega arith
double_pointers Eight Eight = omega arith

-- a member has at most twice its old size, where structs have at most twice their old lengths
double_size : (f : ℕ → ℕ) (c : Catalogue) (from to : Width) (s k : ℕ) → ((t : ℕ) → t < length c.structs → f t ≤ 2 * struct_length c t)
    → new_size f c to s k ≤ 2 * member_size c from s k
unfolding member_size
double_size f c from to s k short = double_product _ (element_size c from s k) (name_of c s k).count (go (name_of c s k).pointer refl (inner_struct c s k) refl)
  where
    go : (p : Bool) → (name_of c s k).pointer ≡ p → (o : Option ℕ) → inner_struct c s k ≡ o
        → cond (name_of c s k).pointer (pointer_bytes to) (new_value_size f c s k (inner_struct c s k)) ≤ 2 * element_size c from s k
    go true pointer o is = rw (pointer, element_of_pointer c from s k pointer) (double_pointers from to)
    go false by_value None is = rw (by_value, is, element_by_value c from s k by_value) (omega arith)
    go false by_value (Some t) is = rw (by_value, is, element_size-inner c from s k t is) (short t (inner_struct-some c s k t is).is_struct.within)

-- ---- the members of a struct

-- the members before some place have at most twice their old size
pub double_sum : (f : ℕ → ℕ) (c : Catalogue) (from to : Width) (s n : ℕ) → ((t : ℕ) → t < length c.structs → f t ≤ 2 * struct_length c t)
    → sum (map (new_size f c to s) (numbers_below n)) ≤ 2 * member_offset c from s n
unfolding member_offset
double_sum f c from to s zero short = omega arith
double_sum f c from to s (suc n) short =
    omega (arith, sum_below-suc (new_size f c to s) n, sum_below-suc (member_size c from s) n, double_sum f c from to s n short, double_size f c from to s n short)

-- a struct's length is the place behind its last member and its tail
length_by_offset : (c : Catalogue) (w : Width) (s : ℕ) → first_fault c w ≡ None
    → struct_length c s ≡ member_offset c w s (member_count c s) + tail_of c w s
unfolding member_offset
length_by_offset c w s e = length_is c w s e

-- a round keeps lengths short
double_length : (f : ℕ → ℕ) (c : Catalogue) (from to : Width) (s : ℕ) → first_fault c from ≡ None
    → ((t : ℕ) → t < length c.structs → f t ≤ 2 * struct_length c t) → next_length f c from to s ≤ 2 * struct_length c s
double_length f c from to s e short = omega (arith, double_sum f c from to s (member_count c s) short, length_by_offset c from s e)

-- the members before some place end within the struct
offset_within : (c : Catalogue) (w : Width) (s n : ℕ) → first_fault c w ≡ None → n ≤ member_count c s → member_offset c w s n ≤ struct_length c s
unfolding member_offset
offset_within c w s zero e le = omega arith
offset_within c w s (suc n) e le = ltb-false (struct_length c s) (member_offset c w s (suc n)) (member_passes c w s n e (omega (arith, le))).within

-- behind a member stands the next one
pub offset_next : (c : Catalogue) (w : Width) (s k : ℕ) → member_offset c w s (k + 1) ≡ member_offset c w s k + (shape_of c w s k).size
unfolding member_offset shape_of
offset_next c w s k = (let next : k + 1 ≡ suc k = omega arith in rw next (sum_below-suc (member_size c w s) k))

-- the new sizes of the members up to one
pub new_next : (f : ℕ → ℕ) (c : Catalogue) (from to : Width) (s k : ℕ)
    → sum (map (new_size f c to s) (numbers_below (k + 1))) ≡ sum (map (new_size f c to s) (numbers_below k)) + size_by f to (shape_of c from s k)
new_next f c from to s k =
    let next : k + 1 ≡ suc k = omega arith in
    rw (next, size_by-shape f c from to s k) (sum_below-suc (new_size f c to s) k)

layout-is : (c : Catalogue) (w : Width) → HasLayout c w → IsCatalogue c
layout-is c w h = IsCatalogue-can_be_read c h.can_be_read

-- old sizes are small
pub offset_small : (c : Catalogue) (w : Width) (s n : ℕ) → HasLayout c w → s < length c.structs → n ≤ member_count c s
    → (member_offset c w s n ≤ struct_length c s) × (struct_length c s < 2 ^ 16)
offset_small c w s n h lt le = (offset_within c w s n (first_fault-none c w h.no_fault) le, struct_length-small c s (layout-is c w h) lt)

-- and so are new ones
pub new_small : (lengths : List ℕ) (c : Catalogue) (from to : Width) (s n : ℕ) → HasLayout c from → AreShort c lengths → s < length c.structs
    → n ≤ member_count c s → sum (map (new_size (slice_index lengths) c to s) (numbers_below n)) < 2 ^ 17
new_small lengths c from to s n h short lt le =
    let small = offset_small c from s n h lt le in
    omega (arith, double_sum (slice_index lengths) c from to s n short.short, small.0, small.1)

-- lengths that are short are small
pub short_small : (lengths : List ℕ) (c : Catalogue) (w : Width) → HasLayout c w → AreShort c lengths → All (λ n. n < 2 ^ 17) lengths
short_small lengths c w h short k d lt =
    let within : k < length c.structs = omega (arith, lt, short.len) in
    let same : get_or lengths k d ≡ slice_index lengths k = get_or_default lengths k d 0 lt in
    omega (arith, same, short.short k within, struct_length-small c k (layout-is c w h) within)

-- the new sizes of all members, and what is behind them
pub new_length-is : (f : ℕ → ℕ) (c : Catalogue) (from to : Width) (s n new old length : ℕ) → n ≡ member_count c s
    → new ≡ sum (map (new_size f c to s) (numbers_below n)) → old ≡ member_offset c from s n → length ≡ struct_length c s
    → new + (length - old) ≡ next_length f c from to s
new_length-is f c from to s n new old length count sizes offset is = rw (sizes, offset, is, count, tail_is c from s) refl

-- ---- rounds

-- the lengths after n rounds
abbrev pub lengths_within : ℕ → Catalogue → Width → Width → List ℕ
lengths_within n c from to = map (length_within n c from to) (struct_numbers c)

within_short : (c : Catalogue) (from to : Width) (n s : ℕ) → first_fault c from ≡ None → length_within n c from to s ≤ 2 * struct_length c s
unfolding length_within
within_short c from to zero s e = omega arith
within_short c from to (suc n) s e = double_length (length_within n c from to) c from to s e (λ t lt. within_short c from to n t e)

-- all lengths so far are short
pub lengths_within-short : (c : Catalogue) (from to : Width) (n : ℕ) → first_fault c from ≡ None → AreShort c (lengths_within n c from to)
lengths_within-short c from to n e = record {
  len = length-by (length_within n c from to) (length c.structs);
  short = λ s lt. (let at = at_number (length_within n c from to) (length c.structs) s lt in omega (arith, at, within_short c from to n s e));
}

value_same : (f g : ℕ → ℕ) (c : Catalogue) (s k : ℕ) → ((t : ℕ) → t < length c.structs → f t ≡ g t) → (o : Option ℕ) → inner_struct c s k ≡ o
    → new_value_size f c s k o ≡ new_value_size g c s k o
value_same f g c s k same None is = refl
value_same f g c s k same (Some t) is = same t (inner_struct-some c s k t is).is_struct.within

-- a round looks at no lengths but those of the catalogue's structs
next_lengths-same : (f g : ℕ → ℕ) (c : Catalogue) (from to : Width) → ((t : ℕ) → t < length c.structs → f t ≡ g t)
    → next_lengths f c from to ≡ next_lengths g c from to
next_lengths-same f g c from to same =
    map_same (next_length f c from to) (next_length g c from to) (length c.structs)
    (λ s lt. ap (λ (sizes : List ℕ). sum sizes + tail_of c from s)
    (map_same (new_size f c to s) (new_size g c to s) (member_count c s)
    (λ k within. rw (value_same f g c s k same (inner_struct c s k) refl) refl)))

within_next : (c : Catalogue) (from to : Width) (n : ℕ) → lengths_within (suc n) c from to ≡ next_lengths (length_within n c from to) c from to
unfolding length_within
within_next c from to n = refl

-- a round opens structs up once more
pub round_further : (c : Catalogue) (from to : Width) (n m : ℕ) → m ≡ n + 1
    → next_lengths (slice_index (lengths_within n c from to)) c from to ≡ lengths_within m c from to
round_further c from to n m is =
    let next : suc n ≡ m = omega (arith, is) in
    next_lengths-same (slice_index (lengths_within n c from to)) (length_within n c from to) c from to
    (λ t lt. at_number (length_within n c from to) (length c.structs) t lt)
    ∙ sym (within_next c from to n) ∙ ap (λ (x : ℕ). lengths_within x c from to) next

fixed_from : (c : Catalogue) (from to : Width) (n j : ℕ) → lengths_within (n + 1) c from to ≡ lengths_within n c from to
    → lengths_within (n + j) c from to ≡ lengths_within n c from to
fixed_from c from to n zero fixed = (let same : n + 0 ≡ n = omega arith in ap (λ (x : ℕ). lengths_within x c from to) same)
fixed_from c from to n (suc j) fixed =
    let next : n + suc j ≡ n + j + 1 = omega arith in
    sym (round_further c from to (n + j) (n + suc j) next)
    ∙ ap (λ (xs : List ℕ). next_lengths (slice_index xs) c from to) (fixed_from c from to n j fixed)
    ∙ round_further c from to n (n + 1) refl ∙ fixed

-- the lengths that a round doesn't change are the new ones
pub lengths_fixed : (c : Catalogue) (from to : Width) (n : ℕ) → n ≤ length c.structs
    → lengths_within (n + 1) c from to ≡ lengths_within n c from to → lengths_within n c from to ≡ new_lengths c from to
lengths_fixed c from to n le fixed =
    let more : n + (length c.structs - n) ≡ length c.structs = omega (arith, le) in
    sym (fixed_from c from to n (length c.structs - n) fixed) ∙ ap (λ (x : ℕ). lengths_within x c from to) more

zeros_none : (c : Catalogue) (from to : Width) (n : ℕ) → map (length_within 0 c from to) (numbers_below n) ≡ replicate n 0
unfolding length_within
zeros_none c from to zero = refl
zeros_none c from to (suc n) =
    map_push (length_within 0 c from to) (numbers_below n) n ∙ ap (λ (xs : List ℕ). xs ++ 0 ∷ []) (zeros_none c from to n) ∙ replicate_push n 0

-- before the first round
pub lengths_start : (c : Catalogue) (from to : Width) (n : ℕ) → n ≡ length c.structs → replicate n 0 ≡ lengths_within 0 c from to
lengths_start c from to n is = ap (λ (m : ℕ). replicate m 0) is ∙ sym (zeros_none c from to (length c.structs))

-- ---- the fault

-- the first struct that is too long, by the new lengths
pub rewidth_fault-lengths : (c : Catalogue) (from to : Width) (lengths : List ℕ) → lengths ≡ new_lengths c from to
    → rewidth_fault c from to ≡ find_map fault_of_length lengths
unfolding rewidth_fault
rewidth_fault-lengths c from to lengths is =
    find_map-map fault_of_length (new_length c from to) _ (struct_numbers c) (λ s. refl) ∙ ap (find_map fault_of_length) (sym is)

-- ---- types

-- the struct of a type is what the table has
pub number_at : (c : Catalogue) (numbers : List (Option ℕ)) (types : ℕ) (structs : List StructEntry) (t : ℕ) (x : Option ℕ) → IsStructTable types structs numbers
    → types ≡ length c.types → structs ≡ c.structs → t < length c.types → x ≡ get_or numbers t x → x ≡ struct_of_type c t
number_at c numbers types structs t x table count same lt at =
    let fits : t < types = omega (arith, lt, count) in
    let within : t < length numbers = omega (arith, fits, table.len) in
    at ∙ get_or_default numbers t x None within ∙ table.numbers t fits ∙ ap (λ (xs : List StructEntry). struct_among xs t) same

-- the struct of a type has a length
pub number_inside : (c : Catalogue) (t s : ℕ) (x : Option ℕ) → x ≡ struct_of_type c t → x ≡ Some s → s < length c.structs
number_inside c t s x is some = (is_struct_of c t s (sym is ∙ some)).within

-- a type has the length of its struct
pub type_with-new : (c : Catalogue) (from to : Width) (lengths : List ℕ) (t : ℕ) (d : TypeEntry) → lengths ≡ new_lengths c from to → t < length c.types
    → type_with lengths (struct_of_type c t) (get_or c.types t d) ≡ get_or (rewidth c from to).types t d
type_with-new c from to lengths t d is lt = go (struct_of_type c t) refl ∙ sym (type_at c from to t d lt)
  where
    old : TypeEntry
    old = get_or c.types t d

    go : (o : Option ℕ) → struct_of_type c t ≡ o
        → type_with lengths (struct_of_type c t) old ≡ record { name = old.name; length = type_length c from to (struct_of_type c t) old.length }
    go None none = rw none refl
    go (Some s) some =
        let at : slice_index lengths s ≡ new_length c from to s =
        ap (λ (xs : List ℕ). slice_index xs s) is ∙ at_number (new_length c from to) (length c.structs) s (is_struct_of c t s some).within in
        rw some (ap (λ (n : ℕ). record { name = old.name; length = n }) at)

-- the types with one more
pub types_push : (c : Catalogue) (from to : Width) (lengths : List ℕ) (types : List TypeEntry) (t : ℕ) (number : Option ℕ) (entry : TypeEntry)
    → lengths ≡ new_lengths c from to → t < length c.types → number ≡ struct_of_type c t → entry ≡ get_or c.types t entry
    → types ≡ take t (rewidth c from to).types → types ++ type_with lengths number entry ∷ [] ≡ take (t + 1) (rewidth c from to).types
types_push c from to lengths types t number entry is lt has at before =
    let new : List TypeEntry = (rewidth c from to).types in
    let last : type_with lengths number entry ≡ get_or new t entry =
    ap (λ (o : Option ℕ). type_with lengths o entry) has ∙ ap (type_with lengths (struct_of_type c t)) at ∙ type_with-new c from to lengths t entry is lt in
    ap (λ (x : TypeEntry). types ++ x ∷ []) last ∙ ap (λ (xs : List TypeEntry). xs ++ get_or new t entry ∷ []) before
    ∙ sym (take_more new t entry (omega (arith, lt, rewidth-type_count c from to)))

-- ---- all together

-- there is a new length of each struct
pub new_lengths-len : (c : Catalogue) (from to : Width) → length (new_lengths c from to) ≡ length c.structs
new_lengths-len c from to = length-by (new_length c from to) (length c.structs)

-- where none is too long, new lengths fit 16 bits
pub new_lengths-short : (c : Catalogue) (from to : Width) → rewidth_fault c from to ≡ None → All (λ n. n < 2 ^ 16) (new_lengths c from to)
new_lengths-short c from to e k d lt =
    let within : k < length c.structs = omega (arith, lt, new_lengths-len c from to) in
    omega (arith, get_or-by (new_length c from to) (length c.structs) k d within, new_length-le c from to k e within)
