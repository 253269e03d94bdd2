-- A catalogue with a layout has one at another width too: no member has a fault there, structs are nested as before,
-- and each struct has as many leaves as before, since what was empty stays so and nothing else becomes so.
use Rattle.std.proofs.Common.{◌≡◌, ℕ, zero, suc, ◌+◌, ◌*◌, ◌≤◌, ◌<◌, Bool, true, false, cond, List, [], ◌++◌, length, Option, Some, None, refl, sym, ap, ◌∙◌, arith}
use Rattle.std.specs.Prelude.{map, flat_map, sum, nat_lt, ◌==◌}
use Rattle.std.specs.Option.{option_or}
use Rattle.std.proofs.Math.Dec.{eqb-suc-zero}
use Rattle.std.proofs.Math.Path.{fun_ext}
use Rattle.std.proofs.lemmas.List.{length-append, length-map}
use Rattle.bl_num.specs.declared.number.Width.{Width}
use Rattle.bl_num.specs.declared.number.Width.TheVariants.{Four, Eight}
use Rattle.bl_num.specs.Numbers.{pointer_bytes}
use Rattle.bl_format.specs.declared.catalogue.Catalogue.{Catalogue}
use Rattle.bl_format.specs.declared.catalogue.StructEntry.{StructEntry}
use Rattle.bl_format.specs.declared.layout.LayoutFault.{LayoutFault}
use Rattle.bl_format.specs.declared.layout.LayoutFault.TheVariants.{TooDeep, TooManyLeaves}
use Rattle.bl_format.specs.Limits.{deepest_nesting, most_leaves}
use Rattle.bl_format.specs.Words.{numbers_below, find_map}
use Rattle.bl_format.specs.Schema.{IsCatalogue}
use Rattle.bl_format.specs.Layout.{NamedLeaf, type_entry, member_entry, member_count, member_numbers, struct_length, name_of, inner_struct, element_size, member_size, member_offset, member_step, leaf_behind, inner_leaves, leaves_by, member_leaves, leaves_within, named_leaves, nesting, first_fault, depth_fault, leaves_below, leaves_fault, layout_fault}
use Rattle.bl_format.specs.Rewidth.{tail_of, new_value_size, new_size, new_length, rewidth}
use Rattle.bl_format.proofs.MemberPasses.{first_fault-none, struct_exists, inner_struct-some, element_size-inner, neither}
use Rattle.bl_format.proofs.LeavesApart.{members_within, flat_map-numbers_below}
use Rattle.bl_format.proofs.NoneInItself.{structs_below, fewer_below, one_below}
use Rattle.bl_format.proofs.NewLengths.{map_same, new_length-members}
use Rattle.bl_format.proofs.RewidthKeeps.{rewidth-structs, rewidth-member_count, rewidth-name_of, rewidth-inner_struct, rewidth-nesting, rewidth-member_size, rewidth-first_fault, sum_below-suc, tail_is}

-- ---- what is empty

-- two numbers are 0 together or not at all
pub record EmptyAlike (a b : ℕ) : Type 0 where
  pub there : a ≡ 0 → b ≡ 0
  pub back : b ≡ 0 → a ≡ 0

alike_same : (a : ℕ) → EmptyAlike a a
alike_same a = record { there = λ e. e; back = λ e. e }

alike_sum : (a b x y : ℕ) → EmptyAlike a b → EmptyAlike x y → EmptyAlike (a + x) (b + y)
alike_sum a b x y h k = record {
  there = λ e. omega (arith, h.there (omega arith), k.there (omega arith));
  back = λ e. omega (arith, h.back (omega arith), k.back (omega arith));
}

product_empty : (a b n : ℕ) → (a ≡ 0 → b ≡ 0) → a * n ≡ 0 → b * n ≡ 0
product_empty zero b n h e = rw (h refl) (omega arith)
product_empty (suc a) b zero h e = omega arith
product_empty (suc a) b (suc n) h e = absurd (omega arith)

alike_product : (a b n : ℕ) → EmptyAlike a b → EmptyAlike (a * n) (b * n)
alike_product a b n h = record { there = product_empty a b n h.there; back = product_empty b a n h.back }

alike_pointers : (from to : Width) → EmptyAlike (pointer_bytes from) (pointer_bytes to)
alike_pointers Four Four = record { there = λ e. e; back = λ e. e }
alike_pointers Four Eight = record { there = λ e. absurd (omega arith); back = λ e. absurd (omega arith) }
alike_pointers Eight Four = record { there = λ e. absurd (omega arith); back = λ e. absurd (omega arith) }
alike_pointers Eight Eight = record { there = λ e. e; back = λ e. e }

alike_sums : (f g : ℕ → ℕ) (n : ℕ) → ((k : ℕ) → k < n → EmptyAlike (f k) (g k))
    → EmptyAlike (sum (map f (numbers_below n))) (sum (map g (numbers_below n)))
alike_sums f g zero h = alike_same 0
alike_sums f g (suc n) h =
    rw (sum_below-suc f n, sum_below-suc g n) (alike_sum _ _ (f n) (g n) (alike_sums f g n (λ k lt. h k (omega arith))) (h n (omega arith)))

-- an element that is a pointer has the bytes of pointers
pub element_of_pointer : (c : Catalogue) (w : Width) (s k : ℕ) → (name_of c s k).pointer ≡ true → element_size c w s k ≡ pointer_bytes w
unfolding element_size
element_of_pointer c w s k e = rw e refl

-- an element by value has the bytes of its type
pub element_by_value : (c : Catalogue) (w : Width) (s k : ℕ) → (name_of c s k).pointer ≡ false
    → element_size c w s k ≡ (type_entry c (member_entry c s k).type_number).length
unfolding element_size
element_by_value c w s k e = rw e refl

alike_value : (c : Catalogue) (from to : Width) (s k : ℕ) → (name_of c s k).pointer ≡ false
    → ((t : ℕ) → inner_struct c s k ≡ Some t → EmptyAlike (struct_length c t) (new_length c from to t))
    → (o : Option ℕ) → inner_struct c s k ≡ o → EmptyAlike (element_size c from s k) (new_value_size (new_length c from to) c s k o)
alike_value c from to s k e h None is = rw (element_by_value c from s k e) (alike_same (type_entry c (member_entry c s k).type_number).length)
alike_value c from to s k e h (Some t) is = rw (element_size-inner c from s k t is) (h t is)

alike_element : (c : Catalogue) (from to : Width) (s k : ℕ)
    → ((t : ℕ) → inner_struct c s k ≡ Some t → EmptyAlike (struct_length c t) (new_length c from to t))
    → (p : Bool) → (name_of c s k).pointer ≡ p
    → EmptyAlike (element_size c from s k) (cond p (pointer_bytes to) (new_value_size (new_length c from to) c s k (inner_struct c s k)))
alike_element c from to s k h true e = rw (element_of_pointer c from s k e) (alike_pointers from to)
alike_element c from to s k h false e = alike_value c from to s k e h (inner_struct c s k) refl

-- a member is empty at both widths or at none, where the struct that it is is so
alike_member : (c : Catalogue) (from to : Width) (s k : ℕ)
    → ((t : ℕ) → inner_struct c s k ≡ Some t → EmptyAlike (struct_length c t) (new_length c from to t))
    → EmptyAlike (member_size c from s k) (new_size (new_length c from to) c to s k)
unfolding member_size
alike_member c from to s k h =
    alike_product (element_size c from s k) _ (name_of c s k).count (alike_element c from to s k h (name_of c s k).pointer refl)

-- a struct's length is the sum of its members' sizes and its tail
pub length_is : (c : Catalogue) (w : Width) (s : ℕ) → first_fault c w ≡ None
    → struct_length c s ≡ sum (map (member_size c w s) (member_numbers c s)) + tail_of c w s
unfolding member_offset
length_is c w s e = omega (arith, members_within c w s (member_count c s) refl e, tail_is c w s)

alike_within : (c : Catalogue) (from to : Width) (n s : ℕ) → first_fault c from ≡ None → s < length c.structs
    → structs_below c s ≤ n → EmptyAlike (struct_length c s) (new_length c from to s)
alike_within c from to zero s e lt le = absurd (omega (arith, one_below c s lt))
alike_within c from to (suc n) s e lt le =
    rw (length_is c from s e, new_length-members c from to s e lt)
    (alike_sum _ _ (tail_of c from s) (tail_of c from s)
    (alike_sums (member_size c from s) (new_size (new_length c from to) c to s) (member_count c s)
    (λ k within. alike_member c from to s k (λ t is. alike_within c from to n t e (inner_struct-some c s k t is).is_struct.within (omega (arith, fewer_below c from s k t e lt within is)))))
    (alike_same (tail_of c from s)))

-- a member of a struct is empty at both widths or at none
pub member_alike : (c : Catalogue) (from to : Width) (s k : ℕ) → IsCatalogue c → first_fault c from ≡ None → k < member_count c s
    → EmptyAlike (member_size c from s k) (member_size (rewidth c from to) to s k)
member_alike c from to s k is e within =
    rw (rewidth-member_size c from to s k is e (struct_exists c s k within) within)
    (alike_member c from to s k (λ t at. alike_within c from to (structs_below c t) t e (inner_struct-some c s k t at).is_struct.within (omega arith)))

-- numbers that are 0 together answer the test for 0 alike
pub tests_alike : (a b : ℕ) → EmptyAlike a b → (b == 0) ≡ (a == 0)
tests_alike zero b h = rw (h.there refl) refl
tests_alike (suc a) zero h = absurd (let e : suc a ≡ 0 = h.back refl in omega arith)
tests_alike (suc a) (suc b) h = eqb-suc-zero b ∙ sym (eqb-suc-zero a)

-- ---- how many leaves

length-flat_map-same : {X : Type 0} (f g : ℕ → List X) (n : ℕ) → ((k : ℕ) → k < n → length (f k) ≡ length (g k))
    → length (flat_map f (numbers_below n)) ≡ length (flat_map g (numbers_below n))
length-flat_map-same f g zero h = refl
length-flat_map-same f g (suc n) h =
    rw (flat_map-numbers_below f n, flat_map-numbers_below g n, length-append (flat_map f (numbers_below n)) (f n ++ []), length-append (flat_map g (numbers_below n)) (g n ++ []), length-append (f n) [], length-append (g n) [], h n (omega arith), length-flat_map-same f g n (λ k lt. h k (omega arith))) refl

leaves_by-same : (p q : ℕ → List NamedLeaf) (c : Catalogue) (from to : Width) (s k : ℕ) → ((t : ℕ) → length (p t) ≡ length (q t)) → (o : Option ℕ)
    → length (leaves_by p (rewidth c from to) to s k o) ≡ length (leaves_by q c from s k o)
leaves_by-same p q c from to s k h None = refl
leaves_by-same p q c from to s k h (Some t) =
    rw (rewidth-name_of c from to s k)
    (length-flat_map-same (inner_leaves (p t) (rewidth c from to) to s k) (inner_leaves (q t) c from s k) (name_of c s k).count
    (λ e lt. length-map (p t) (leaf_behind (member_step (rewidth c from to) s k e) (member_offset (rewidth c from to) to s k + e * element_size (rewidth c from to) to s k)) ∙ h t ∙ sym (length-map (q t) (leaf_behind (member_step c s k e) (member_offset c from s k + e * element_size c from s k)))))

unless_empty : {X : Type 0} (b : Bool) (xs ys : List X) → length xs ≡ length ys → length (cond b [] xs) ≡ length (cond b [] ys)
unless_empty true xs ys h = refl
unless_empty false xs ys h = h

member_leaves-same : (p q : ℕ → List NamedLeaf) (c : Catalogue) (from to : Width) (s k : ℕ) → IsCatalogue c → first_fault c from ≡ None
    → k < member_count c s → ((t : ℕ) → length (p t) ≡ length (q t))
    → length (member_leaves p (rewidth c from to) to s k) ≡ length (member_leaves q c from s k)
unfolding member_leaves
member_leaves-same p q c from to s k is e within h =
    rw (tests_alike _ _ (member_alike c from to s k is e within), rewidth-inner_struct c from to s k)
    (unless_empty (member_size c from s k == 0) _ _ (leaves_by-same p q c from to s k h (inner_struct c s k)))

leaves_within-same : (c : Catalogue) (from to : Width) (n s : ℕ) → IsCatalogue c → first_fault c from ≡ None
    → length (leaves_within n (rewidth c from to) to s) ≡ length (leaves_within n c from s)
unfolding leaves_within
leaves_within-same c from to zero s is e = refl
leaves_within-same c from to (suc n) s is e =
    rw (rewidth-member_count c from to s)
    (length-flat_map-same (member_leaves (leaves_within n (rewidth c from to) to) (rewidth c from to) to s) (member_leaves (leaves_within n c from) c from s) (member_count c s)
    (λ k within. member_leaves-same (leaves_within n (rewidth c from to) to) (leaves_within n c from) c from to s k is e within (λ t. leaves_within-same c from to n t is e)))

-- each struct has as many leaves at another width
pub rewidth-leaf_count : (c : Catalogue) (from to : Width) (s : ℕ) → IsCatalogue c → first_fault c from ≡ None
    → length (named_leaves (rewidth c from to) to s) ≡ length (named_leaves c from s)
unfolding named_leaves
rewidth-leaf_count c from to s is e = leaves_within-same c from to (deepest_nesting + 1) s is e

-- ---- the limits, and all faults

deep : (ℕ → ℕ) → ℕ → Option LayoutFault
deep nesting n = find_map (λ s. cond (nat_lt deepest_nesting (nesting s)) (Some (TooDeep (nesting s))) None) (numbers_below n)

depth_fault-is : (c : Catalogue) → depth_fault c ≡ deep (nesting c) (length c.structs)
unfolding depth_fault deep
depth_fault-is c = refl

rewidth-depth_fault : (c : Catalogue) (from to : Width) → depth_fault (rewidth c from to) ≡ depth_fault c
rewidth-depth_fault c from to =
    depth_fault-is (rewidth c from to)
    ∙ ap (λ (f : ℕ → ℕ). deep f (length (rewidth c from to).structs)) (fun_ext (λ s. rewidth-nesting c from to s))
    ∙ ap (λ (xs : List StructEntry). deep (nesting c) (length xs)) (rewidth-structs c from to)
    ∙ sym (depth_fault-is c)

many : (ℕ → ℕ) → ℕ → Option LayoutFault
many leaves n = find_map (λ s. cond (nat_lt most_leaves (leaves (suc s))) (Some (TooManyLeaves (leaves (suc s)))) None) (numbers_below n)

leaves_fault-is : (c : Catalogue) (w : Width) → leaves_fault c w ≡ many (leaves_below c w) (length c.structs)
unfolding leaves_fault many
leaves_fault-is c w = refl

rewidth-leaves_below : (c : Catalogue) (from to : Width) (n : ℕ) → IsCatalogue c → first_fault c from ≡ None
    → leaves_below (rewidth c from to) to n ≡ leaves_below c from n
unfolding leaves_below
rewidth-leaves_below c from to n is e =
    ap (λ (xs : List ℕ). sum xs) (map_same (λ t. length (named_leaves (rewidth c from to) to t)) (λ t. length (named_leaves c from t)) n (λ t lt. rewidth-leaf_count c from to t is e))

rewidth-leaves_fault : (c : Catalogue) (from to : Width) → IsCatalogue c → first_fault c from ≡ None
    → leaves_fault (rewidth c from to) to ≡ leaves_fault c from
rewidth-leaves_fault c from to is e =
    leaves_fault-is (rewidth c from to) to
    ∙ ap (λ (f : ℕ → ℕ). many f (length (rewidth c from to).structs)) (fun_ext (λ n. rewidth-leaves_below c from to n is e))
    ∙ ap (λ (xs : List StructEntry). many (leaves_below c from) (length xs)) (rewidth-structs c from to)
    ∙ sym (leaves_fault-is c from)

none_of : {Y : Type 0} (a b c : Option Y) → a ≡ None → option_or b c ≡ None → option_or a (option_or b c) ≡ None
none_of a b c e h = rw e h

-- a catalogue without a layout fault has none at another width
pub rewidth-layout_fault : (c : Catalogue) (from to : Width) → IsCatalogue c → layout_fault c from ≡ None
    → layout_fault (rewidth c from to) to ≡ None
unfolding layout_fault
rewidth-layout_fault c from to is e =
    let members : first_fault c from ≡ None = first_fault-none c from e in
    let limits : option_or (depth_fault c) (leaves_fault c from) ≡ None = (neither (first_fault c from) (option_or (depth_fault c) (leaves_fault c from)) e).1 in
    rw (rewidth-depth_fault c from to, rewidth-leaves_fault c from to is members)
    (none_of (first_fault (rewidth c from to) to) (depth_fault c) (leaves_fault c from) (rewidth-first_fault c from to is members) limits)
