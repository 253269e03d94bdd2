-- A catalogue brought to its own width is itself: each struct's new length is the sum of its members' sizes and its
-- unnamed tail, which is the length that it has.
use Rattle.std.proofs.Common.{◌≡◌, ℕ, zero, suc, ◌+◌, ◌*◌, ◌≤◌, ◌<◌, Bool, true, false, cond, List, [], length, get_or, Option, Some, None, refl, sym, ap, ◌∙◌, arith}
use Rattle.std.specs.Prelude.{sum}
use Rattle.std.proofs.lemmas.List.{same_lists, get_or_default}
use Rattle.bl_num.specs.declared.number.Width.{Width}
use Rattle.bl_num.specs.Numbers.{pointer_bytes}
use Rattle.bl_format.specs.declared.catalogue.Catalogue.{Catalogue}
use Rattle.bl_format.specs.declared.catalogue.TypeEntry.{TypeEntry}
use Rattle.bl_format.specs.Layout.{type_entry, member_count, struct_length, struct_of_type, name_of, inner_struct, element_size, member_size, first_fault, HasLayout}
use Rattle.bl_format.specs.Rewidth.{tail_of, new_value_size, new_size, new_length, type_length, rewidth}
use Rattle.bl_format.proofs.MemberPasses.{first_fault-none, is_struct_of, inner_struct-some, element_size-inner}
use Rattle.bl_format.proofs.NoneInItself.{structs_below, fewer_below, one_below}
use Rattle.bl_format.proofs.NewLengths.{map_same, new_length-members}
use Rattle.bl_format.proofs.RewidthKeeps.{type_at, rewidth-structs, rewidth-names, rewidth-type_count}
use Rattle.bl_format.proofs.RewidthLayout.{length_is, element_of_pointer, element_by_value}
use Rattle.bl_format.proofs.RewidthBack.{same_catalogue, with_length}

-- ---- sizes

-- an element by value has the new length of the struct that it is, where that is its length
value_same : (lengths : ℕ → ℕ) (c : Catalogue) (w : Width) (s k : ℕ) → (name_of c s k).pointer ≡ false
    → ((t : ℕ) → inner_struct c s k ≡ Some t → lengths t ≡ struct_length c t)
    → (o : Option ℕ) → inner_struct c s k ≡ o → new_value_size lengths c s k o ≡ element_size c w s k
value_same lengths c w s k by_value h None inner = sym (element_by_value c w s k by_value)
value_same lengths c w s k by_value h (Some t) inner = h t inner ∙ sym (element_size-inner c w s k t inner)

element_same : (lengths : ℕ → ℕ) (c : Catalogue) (w : Width) (s k : ℕ)
    → ((t : ℕ) → inner_struct c s k ≡ Some t → lengths t ≡ struct_length c t)
    → (p : Bool) → (name_of c s k).pointer ≡ p
    → cond p (pointer_bytes w) (new_value_size lengths c s k (inner_struct c s k)) ≡ element_size c w s k
element_same lengths c w s k h true pointer = sym (element_of_pointer c w s k pointer)
element_same lengths c w s k h false by_value = value_same lengths c w s k by_value h (inner_struct c s k) refl

-- a member's new size is its size, where the new length of the struct that it is is that struct's length
member_same : (lengths : ℕ → ℕ) (c : Catalogue) (w : Width) (s k : ℕ)
    → ((t : ℕ) → inner_struct c s k ≡ Some t → lengths t ≡ struct_length c t)
    → new_size lengths c w s k ≡ member_size c w s k
unfolding member_size
member_same lengths c w s k h = ap (λ (n : ℕ). n * (name_of c s k).count) (element_same lengths c w s k h (name_of c s k).pointer refl)

-- ---- lengths

length_same : (c : Catalogue) (w : Width) (n s : ℕ) → first_fault c w ≡ None → s < length c.structs → structs_below c s ≤ n
    → new_length c w w s ≡ struct_length c s
length_same c w zero s e lt le = absurd (omega (arith, one_below c s lt))
length_same c w (suc n) s e lt le =
    new_length-members c w w s e lt
    ∙ ap (λ (xs : List ℕ). sum xs + tail_of c w s)
    (map_same (new_size (new_length c w w) c w s) (member_size c w s) (member_count c s)
    (λ k within. member_same (new_length c w w) c w s k
    (λ t inner. length_same c w n t e (inner_struct-some c s k t inner).is_struct.within (omega (arith, fewer_below c w s k t e lt within inner)))))
    ∙ sym (length_is c w s e)

-- a struct's new length at its own width is its length
pub new_length-same : (c : Catalogue) (w : Width) (s : ℕ) → first_fault c w ≡ None → s < length c.structs
    → new_length c w w s ≡ struct_length c s
new_length-same c w s e lt = length_same c w (structs_below c s) s e lt (omega arith)

type_same : (c : Catalogue) (w : Width) (t : ℕ) (d : TypeEntry) → first_fault c w ≡ None → t < length c.types
    → type_length c w w (struct_of_type c t) (get_or c.types t d).length ≡ (get_or c.types t d).length
type_same c w t d e lt = go (struct_of_type c t) refl
  where
    go : (o : Option ℕ) → struct_of_type c t ≡ o → type_length c w w o (get_or c.types t d).length ≡ (get_or c.types t d).length
    go None none = refl
    go (Some s) some =
        let of = is_struct_of c t s some in
        new_length-same c w s e of.within
        ∙ ap (λ (u : ℕ). (type_entry c u).length) of.type_number_is
        ∙ ap (λ (x : TypeEntry). x.length) (get_or_default c.types t (record { name = []; length = 0 }) d lt)

-- ---- the laws

-- a catalogue with a layout, brought to the width of that layout, is itself
pub rewidth-same : (c : Catalogue) (w : Width) → HasLayout c w → rewidth c w w ≡ c
rewidth-same c w h =
    let count : length (rewidth c w w).types ≡ length c.types = rewidth-type_count c w w in
    same_catalogue (rewidth c w w) c (rewidth-names c w w)
    (same_lists (rewidth c w w).types c.types count (λ k x lt. (
    let within : k < length c.types = omega (arith, count) in
    type_at c w w k x within ∙ ap (with_length (get_or c.types k x)) (type_same c w k x (first_fault-none c w h.no_fault) within))))
    (rewidth-structs c w w)
