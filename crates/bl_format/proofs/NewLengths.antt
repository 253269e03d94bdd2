-- The new length of a struct at another width is the sum of its members' sizes there, each by the new length of the
-- struct that it is, and its old tail: opening structs up as often as there are structs is enough.
use Rattle.std.proofs.Common.{◌≡◌, ℕ, zero, suc, ◌+◌, ◌≤◌, ◌<◌, List, [], ◌∷◌, length, Option, Some, None, refl, ap, arith}
use Rattle.std.specs.Prelude.{map, sum}
use Rattle.std.proofs.lemmas.List.{map-append}
use Rattle.bl_num.specs.declared.number.Width.{Width}
use Rattle.bl_format.specs.declared.catalogue.Catalogue.{Catalogue}
use Rattle.bl_format.specs.Words.{numbers_below}
use Rattle.bl_format.specs.Layout.{inner_struct, member_count, member_numbers, first_fault}
use Rattle.bl_format.specs.Rewidth.{tail_of, new_value_size, new_size, length_within, new_length}
use Rattle.bl_format.proofs.MemberPasses.{inner_struct-some}
use Rattle.bl_format.proofs.NoneInItself.{structs_below, fewer_below, one_below, structs_below-le}

-- functions that agree below n give the same there
pub map_same : {X : Type 0} (f g : ℕ → X) (n : ℕ) → ((k : ℕ) → k < n → f k ≡ g k) → map f (numbers_below n) ≡ map g (numbers_below n)
map_same f g zero h = refl
map_same f g (suc n) h =
    rw (map-append f (numbers_below n) (n ∷ []), map-append g (numbers_below n) (n ∷ []), h n (omega arith), map_same f g n (λ k lt. h k (omega arith))) refl

new_value_size-same : (p q : ℕ → ℕ) (c : Catalogue) (s k : ℕ) (o : Option ℕ) → ((t : ℕ) → o ≡ Some t → p t ≡ q t)
    → new_value_size p c s k o ≡ new_value_size q c s k o
new_value_size-same p q c s k None h = refl
new_value_size-same p q c s k (Some t) h = h t refl

-- a member's new size looks at no length but that of the struct that it is
new_size-same : (p q : ℕ → ℕ) (c : Catalogue) (to : Width) (s k : ℕ) → ((t : ℕ) → inner_struct c s k ≡ Some t → p t ≡ q t)
    → new_size p c to s k ≡ new_size q c to s k
new_size-same p q c to s k h = rw (new_value_size-same p q c s k (inner_struct c s k) h) refl

-- opening up once more changes no length
length_within-suc : (c : Catalogue) (from to : Width) (n s : ℕ) → first_fault c from ≡ None → s < length c.structs
    → structs_below c s ≤ n → length_within n c from to s ≡ length_within (suc n) c from to s
unfolding length_within
length_within-suc c from to zero s e lt le = absurd (omega (arith, one_below c s lt))
length_within-suc c from to (suc n) s e lt le =
    let inner : (k : ℕ) → k < member_count c s → (t : ℕ) → inner_struct c s k ≡ Some t → length_within n c from to t ≡ length_within (suc n) c from to t = λ k within t is.
    length_within-suc c from to n t e (inner_struct-some c s k t is).is_struct.within (omega (arith, fewer_below c from s k t e lt within is)) in
    ap (λ (xs : List ℕ). sum xs + tail_of c from s)
    (map_same (new_size (length_within n c from to) c to s) (new_size (length_within (suc n) c from to) c to s) (member_count c s)
    (λ k within. new_size-same (length_within n c from to) (length_within (suc n) c from to) c to s k (inner k within)))

-- a struct's new length is the sum of its members' new sizes, and its old tail
pub new_length-members : (c : Catalogue) (from to : Width) (s : ℕ) → first_fault c from ≡ None → s < length c.structs
    → new_length c from to s ≡ sum (map (new_size (new_length c from to) c to s) (member_numbers c s)) + tail_of c from s
unfolding length_within
new_length-members c from to s e lt = length_within-suc c from to (length c.structs) s e lt (structs_below-le c s)
