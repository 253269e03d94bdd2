-- A catalogue brought to another width and back is the one that it was: the lengths of its structs come back, since
-- their members have their old sizes and their unnamed tails stayed.
use Rattle.std.proofs.Common.{◌≡◌, ℕ, zero, suc, ◌+◌, ◌*◌, ◌≤◌, ◌<◌, Bool, true, false, cond, List, [], length, get_or, Option, Some, None, refl, sym, ap, ◌∙◌, arith}
use Rattle.std.specs.Prelude.{map, sum}
use Rattle.std.proofs.lemmas.List.{same_lists, get_or_default}
use Rattle.bl_num.specs.declared.number.Width.{Width}
use Rattle.bl_num.specs.Numbers.{pointer_bytes}
use Rattle.bl_format.specs.declared.catalogue.Catalogue.{Catalogue}
use Rattle.bl_format.specs.declared.catalogue.TypeEntry.{TypeEntry}
use Rattle.bl_format.specs.Words.{numbers_below}
use Rattle.bl_format.specs.Schema.{IsCatalogue}
use Rattle.bl_format.specs.Layout.{type_entry, member_entry, member_count, member_numbers, struct_length, struct_of_type, name_of, inner_struct, element_size, member_size, first_fault}
use Rattle.bl_format.specs.Rewidth.{tail_of, new_value_size, new_size, new_length, type_length, rewidth}
use Rattle.bl_format.proofs.MemberPasses.{is_struct_of, inner_struct-some, element_size-inner}
use Rattle.bl_format.proofs.NoneInItself.{structs_below, fewer_below, one_below}
use Rattle.bl_format.proofs.NewLengths.{map_same, new_length-members}
use Rattle.bl_format.proofs.RewidthKeeps.{type_at, rewidth-structs, rewidth-names, rewidth-type_count, rewidth-member_count, rewidth-member_entry, rewidth-name_of, rewidth-inner_struct, rewidth-value_size, rewidth-tail_of, rewidth-first_fault}
use Rattle.bl_format.proofs.RewidthLayout.{length_is, element_of_pointer, element_by_value}

-- ---- sizes come back

-- the size of an element by value comes back, where the length of the struct that it is does
value_back : (c : Catalogue) (from to : Width) (s k : ℕ) → IsCatalogue c → first_fault c from ≡ None
    → s < length c.structs → k < member_count c s → (name_of c s k).pointer ≡ false
    → ((t : ℕ) → inner_struct c s k ≡ Some t → new_length (rewidth c from to) to from t ≡ struct_length c t)
    → (o : Option ℕ) → inner_struct c s k ≡ o
    → new_value_size (new_length (rewidth c from to) to from) (rewidth c from to) s k o ≡ element_size c from s k
value_back c from to s k is e lt within by_value h (Some t) inner = h t inner ∙ sym (element_size-inner c from s k t inner)
value_back c from to s k is e lt within by_value h None inner =
    ap (λ (t : ℕ). (type_entry (rewidth c from to) t).length) (same_type c from to s k)
    ∙ rewidth-value_size c from to s k is e lt within by_value
    ∙ ap (new_value_size (new_length c from to) c s k) inner
    ∙ sym (element_by_value c from s k by_value)
  where
    same_type : (c : Catalogue) (from to : Width) (s k : ℕ) → (member_entry (rewidth c from to) s k).type_number ≡ (member_entry c s k).type_number
    same_type c from to s k = rw (rewidth-member_entry c from to s k) refl

element_back : (c : Catalogue) (from to : Width) (s k : ℕ) → IsCatalogue c → first_fault c from ≡ None
    → s < length c.structs → k < member_count c s
    → ((t : ℕ) → inner_struct c s k ≡ Some t → new_length (rewidth c from to) to from t ≡ struct_length c t)
    → (p : Bool) → (name_of c s k).pointer ≡ p
    → cond p (pointer_bytes from) (new_value_size (new_length (rewidth c from to) to from) (rewidth c from to) s k (inner_struct c s k)) ≡ element_size c from s k
element_back c from to s k is e lt within h true pointer = sym (element_of_pointer c from s k pointer)
element_back c from to s k is e lt within h false by_value = value_back c from to s k is e lt within by_value h (inner_struct c s k) refl

member_back : (c : Catalogue) (from to : Width) (s k : ℕ) → IsCatalogue c → first_fault c from ≡ None
    → s < length c.structs → k < member_count c s
    → ((t : ℕ) → inner_struct c s k ≡ Some t → new_length (rewidth c from to) to from t ≡ struct_length c t)
    → new_size (new_length (rewidth c from to) to from) (rewidth c from to) from s k ≡ member_size c from s k
unfolding member_size
member_back c from to s k is e lt within h =
    rw (rewidth-name_of c from to s k, rewidth-inner_struct c from to s k)
    (ap (λ (n : ℕ). n * (name_of c s k).count) (element_back c from to s k is e lt within h (name_of c s k).pointer refl))

-- ---- lengths come back

length_back : (c : Catalogue) (from to : Width) (n s : ℕ) → IsCatalogue c → first_fault c from ≡ None
    → s < length c.structs → structs_below c s ≤ n → new_length (rewidth c from to) to from s ≡ struct_length c s
length_back c from to zero s is e lt le = absurd (omega (arith, one_below c s lt))
length_back c from to (suc n) s is e lt le =
    let d : Catalogue = rewidth c from to in
    let there : s < length d.structs = rw (rewidth-structs c from to) lt in
    let members : map (new_size (new_length d to from) d from s) (numbers_below (member_count c s)) ≡ map (member_size c from s) (numbers_below (member_count c s)) =
    map_same (new_size (new_length d to from) d from s) (member_size c from s) (member_count c s)
    (λ k within. member_back c from to s k is e lt within (λ t inner. length_back c from to n t is e (inner_struct-some c s k t inner).is_struct.within (omega (arith, fewer_below c from s k t e lt within inner)))) in
    new_length-members d to from s (rewidth-first_fault c from to is e) there
    ∙ ap (λ (m : ℕ). sum (map (new_size (new_length d to from) d from s) (numbers_below m)) + tail_of d to s) (rewidth-member_count c from to s)
    ∙ ap (λ (xs : List ℕ). sum xs + tail_of d to s) members
    ∙ ap (λ (tail : ℕ). sum (map (member_size c from s) (member_numbers c s)) + tail) (rewidth-tail_of c from to s is e lt)
    ∙ sym (length_is c from s e)

-- the new length of a struct, back at the old width, is its old one
pub rewidth-length_back : (c : Catalogue) (from to : Width) (s : ℕ) → IsCatalogue c → first_fault c from ≡ None
    → s < length c.structs → new_length (rewidth c from to) to from s ≡ struct_length c s
rewidth-length_back c from to s is e lt = length_back c from to (structs_below c s) s is e lt (omega arith)

type_back : (c : Catalogue) (from to : Width) (t : ℕ) (d : TypeEntry) → IsCatalogue c → first_fault c from ≡ None → t < length c.types
    → type_length (rewidth c from to) to from (struct_of_type c t) (type_length c from to (struct_of_type c t) (get_or c.types t d).length) ≡ (get_or c.types t d).length
type_back c from to t d is e lt = go (struct_of_type c t) refl
  where
    go : (o : Option ℕ) → struct_of_type c t ≡ o
        → type_length (rewidth c from to) to from o (type_length c from to o (get_or c.types t d).length) ≡ (get_or c.types t d).length
    go None none = refl
    go (Some s) some =
        let of = is_struct_of c t s some in
        rewidth-length_back c from to s is e of.within
        ∙ ap (λ (u : ℕ). (type_entry c u).length) of.type_number_is
        ∙ ap (λ (x : TypeEntry). x.length) (get_or_default c.types t (record { name = []; length = 0 }) d lt)

-- a type of another length
abbrev pub with_length : TypeEntry → ℕ → TypeEntry
with_length t n = record t { length = n }

-- catalogues with the same parts are the same
pub same_catalogue : (a b : Catalogue) → a.names ≡ b.names → a.types ≡ b.types → a.structs ≡ b.structs → a ≡ b
same_catalogue a b names types structs = λ i. record { names = names i; types = types i; structs = structs i }

-- brought to another width and back, a catalogue is what it was
pub rewidth-rewidth : (c : Catalogue) (from to : Width) → IsCatalogue c → first_fault c from ≡ None
    → rewidth (rewidth c from to) to from ≡ c
rewidth-rewidth c from to is e =
    let d : Catalogue = rewidth c from to in
    let count : length d.types ≡ length c.types = rewidth-type_count c from to in
    same_catalogue (rewidth d to from) c
    (rewidth-names d to from ∙ rewidth-names c from to)
    (same_lists (rewidth d to from).types c.types (rewidth-type_count d to from ∙ count) (λ k x lt. (
    let within : k < length c.types = omega (arith, rewidth-type_count d to from, count) in
    let there : k < length d.types = omega (arith, count) in
    let struct_stays : struct_of_type d k ≡ struct_of_type c k = rw (rewidth-structs c from to) refl in
    type_at d to from k x there ∙ rw (type_at c from to k x within, struct_stays) (ap (with_length (get_or c.types k x)) (type_back c from to k x is e within)))))
    (rewidth-structs d to from ∙ rewidth-structs c from to)
