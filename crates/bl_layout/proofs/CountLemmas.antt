-- How many leaves structs have: a member's by those of the structs in it, and what is counted depth by depth.
use Rattle.std.proofs.Common.{◌≡◌, ◌≢◌, ℕ, zero, suc, ◌+◌, ◌*◌, ◌^◌, ◌≤◌, ◌<◌, Bool, true, false, cond, List, [], ◌∷◌, ◌++◌, length, get_or, set, take, map, Option, Some, None, refl, sym, ◌∙◌, ap, arith, inl, inr}
use Rattle.std.specs.Prelude.{nat_lt, if◌then◌else◌, All, sum, flat_map, replicate, slice_index, ◌==◌}
use Rattle.std.proofs.lemmas.Bool.{cases_lt, le-ltb, lt-ltb}
use Rattle.std.proofs.lemmas.List.{length-map, length-append, length-set, length-replicate, take_all, take_more, get_or-set_same, get_or-set_other, get_or_default, map_push}
use Rattle.std.proofs.lemmas.List.Elements.{All-head, All-tail, All-set, All-replicate}
use Rattle.std.proofs.lemmas.List.Concat.{length-flat_map}
use Rattle.std.proofs.lemmas.List.Sums.{sum-map, sum_by_push}
use Rattle.bl_num.specs.declared.number.Width.{Width}
use Rattle.bl_format.specs.declared.catalogue.Catalogue.{Catalogue}
use Rattle.bl_format.specs.declared.catalogue.MemberEntry.{MemberEntry}
use Rattle.bl_format.specs.Schema.{IsCatalogue}
use Rattle.bl_format.specs.declared.layout.LayoutFault.{LayoutFault}
use Rattle.bl_format.specs.declared.layout.LayoutFault.TheVariants.{TooManyLeaves}
use Rattle.bl_format.specs.Limits.{most_leaves}
use Rattle.bl_format.specs.Words.{numbers_below, find_map}
use Rattle.bl_format.specs.Layout.{NamedLeaf, struct_entry, member_entry, member_numbers, struct_length, struct_numbers, name_of, element_size, member_size, inner_struct, inner_leaves, leaves_by, member_leaves, named_leaves, first_fault, nesting, depth_fault, leaves_below, leaves_fault}
use Rattle.bl_format.proofs.LeavesApart.{AreApart, end_of_leaf, flat_map-numbers_below, named_leaves-apart}
use Rattle.bl_format.proofs.LeafKinds.{HasBytes, named_leaves-have_bytes}
use Rattle.bl_format.proofs.NumbersBelow.{length-numbers_below}
use Rattle.bl_format.proofs.NewLengths.{map_same}
use Rattle.bl_layout.specs.Sizes.{size_of, parts_of, inner_of}
use Rattle.bl_layout.specs.Nesting.{nestings_in}
use Rattle.bl_layout.specs.Counts.{leaf_count, leaf_counts_in, count_by, count_of_member, count_of_members, AreCounts}
use Rattle.bl_layout.proofs.GraphLemmas.{inner_struct-inner_of}
use Rattle.bl_layout.proofs.NestingLemmas.{at_number, by_numbers, nestings-len}
use Rattle.bl_layout.proofs.OffsetLemmas.{find_map-pass, find_map-first}
use Rattle.bl_layout.proofs.UnfoldLemmas.{named_leaves-members, inner-nesting, inner-within, nesting-limit, nesting-some}
use Rattle.bl_layout.proofs.BuildLemmas.{struct_length-small}

-- ---- a struct has no more leaves than bytes

positive : (a b : ℕ) → 0 < a → 0 < b → 0 < a * b
positive zero b lt lt' = absurd (omega arith)
positive (suc a) zero lt lt' = absurd (omega arith)
positive (suc a) (suc b) lt lt' = omega arith

-- leaves with bytes that stand apart are no more than there is room for
apart_few : (from to : ℕ) (xs : List NamedLeaf) → AreApart from xs to → All HasBytes xs → from + length xs ≤ to
apart_few from to [] h all = omega (arith, h)
apart_few from to (x ∷ xs) h all =
    let has = All-head HasBytes x xs all in
    omega (arith, h.0, positive x.size x.count has.size has.count, apart_few (end_of_leaf x) to xs h.1 (All-tail HasBytes x xs all))

-- a struct has few leaves
pub leaf_count-small : (c : Catalogue) (w : Width) (s : ℕ) → IsCatalogue c → first_fault c w ≡ None
    → s < length c.structs → leaf_count c w s < 2 ^ 16
leaf_count-small c w s is e lt =
    omega (
      arith,
      struct_length-small c s is lt,
      apart_few 0 (struct_length c s) (named_leaves c w s) (named_leaves-apart c w s e) (named_leaves-have_bytes c w s),
    )

-- ---- the leaves of a member and of a struct

length-inner : (inside : List NamedLeaf) (c : Catalogue) (w : Width) (s k n : ℕ)
    → length (flat_map (inner_leaves inside c w s k) (numbers_below n)) ≡ n * length inside
length-inner inside c w s k zero = omega arith
length-inner inside c w s k (suc n) =
    let one : length (inner_leaves inside c w s k n) ≡ length inside = length-map inside _ in
    ap length (flat_map-numbers_below (inner_leaves inside c w s k) n)
    ∙ omega (
      arith,
      one,
      length-inner inside c w s k n,
      length-append (flat_map (inner_leaves inside c w s k) (numbers_below n)) (inner_leaves inside c w s k n ++ []),
      length-append (inner_leaves inside c w s k n) [],
    )

-- how many leaves a member has
member_count_is : (c : Catalogue) (w : Width) (s k : ℕ)
    → length (member_leaves (named_leaves c w) c w s k) ≡ count_of_member (leaf_count c w) c w (member_entry c s k)
unfolding member_leaves member_size element_size inner_struct name_of
member_count_is c w s k = go (size_of c w (member_entry c s k) == 0) (inner_of c (member_entry c s k))
  where
    go : (b : Bool) (o : Option ℕ)
        → length (cond b [] (leaves_by (named_leaves c w) c w s k o)) ≡ cond b 0 (count_by (leaf_count c w) (parts_of c (member_entry c s k)).count o)
    go true o = refl
    go false None = refl
    go false (Some t) = length-inner (named_leaves c w t) c w s k (parts_of c (member_entry c s k)).count

-- counts that agree on the struct that a member is by value
count_same : (f g : ℕ → ℕ) (c : Catalogue) (w : Width) (m : MemberEntry)
    → ((t : ℕ) → inner_of c m ≡ Some t → f t ≡ g t)
    → count_of_member f c w m ≡ count_of_member g c w m
count_same f g c w m same = go (size_of c w m == 0) (inner_of c m) refl
  where
    go : (b : Bool) (o : Option ℕ) → inner_of c m ≡ o
        → cond b 0 (count_by f (parts_of c m).count o) ≡ cond b 0 (count_by g (parts_of c m).count o)
    go true o is = refl
    go false None is = refl
    go false (Some t) is = ap (λ (n : ℕ). (parts_of c m).count * n) (same t is)

-- a function of the numbers of some elements as one of the elements
map_numbers : {A B : Type 0} (f : ℕ → B) (g : A → B) (xs : List A) (d : A) (n : ℕ) → n ≤ length xs
    → ((k : ℕ) → k < n → f k ≡ g (get_or xs k d)) → map f (numbers_below n) ≡ map g (take n xs)
map_numbers f g xs d zero le same = refl
map_numbers f g xs d (suc n) le same =
    let next : suc n ≡ n + 1 = omega arith in
    map_push f (numbers_below n) n
    ∙ ap (λ ys. ys ++ f n ∷ []) (map_numbers f g xs d n (omega arith) (λ k lt. same k (omega arith)))
    ∙ ap (λ y. map g (take n xs) ++ y ∷ []) (same n (omega arith))
    ∙ sym (ap (λ (m : ℕ). map g (take m xs)) next ∙ ap (map g) (take_more xs n d (omega arith)) ∙ map_push g (take n xs) (get_or xs n d))

-- the counts so far are enough for a struct that is nested just so deep
pub struct_leaves_are : (c : Catalogue) (w : Width) (depth reached s : ℕ) (counts : List ℕ)
    → AreCounts c w depth reached counts → first_fault c w ≡ None → depth_fault c ≡ None → s < length c.structs → nesting c s ≡ depth
    → count_of_members (slice_index counts) c w (struct_entry c s).members ≡ leaf_count c w s
struct_leaves_are c w depth reached s counts are e deep lt is =
    let ms = (struct_entry c s).members in
    let far : MemberEntry = record { type_number = length c.types; name_number = length c.names } in
    let own : ℕ → ℕ = λ k. length (member_leaves (named_leaves c w) c w s k) in
    let inside : (k t : ℕ) → k < length ms → inner_of c (member_entry c s k) ≡ Some t → leaf_count c w t ≡ slice_index counts t =
    λ k t less held. (let in_it : inner_struct c s k ≡ Some t = inner_struct-inner_of c s k ∙ held in
    sym (are.inner t (inner-within c s k t in_it) (omega (arith, inner-nesting c w s k t e lt less in_it, is)))) in
    sym (ap length (named_leaves-members c w s e deep lt)
    ∙ length-flat_map (member_leaves (named_leaves c w) c w s) (member_numbers c s)
    ∙ sym (sum-map own (member_numbers c s))
    ∙ ap sum (map_numbers own (count_of_member (slice_index counts) c w) ms far (length ms) (omega arith)
    (λ k less. member_count_is c w s k
    ∙ count_same (leaf_count c w) (slice_index counts) c w (member_entry c s k) (λ t held. inside k t less held)))
    ∙ ap (λ (xs : List MemberEntry). count_of_members (slice_index counts) c w xs) (take_all (length ms) ms (omega arith)))

-- ---- the counts of all structs, depth by depth

-- before the first depth
pub AreCounts-none : (c : Catalogue) (w : Width) (n : ℕ) → n ≡ length c.structs → first_fault c w ≡ None
    → AreCounts c w 1 0 (replicate n 0)
AreCounts-none c w n is e = record {
  len = length-replicate n 0 ∙ is;
  small = All-replicate (λ m. m < 2 ^ 16) n 0 (omega arith);
  inner = λ s lt less. absurd (omega (arith, less, nesting-some c w s e lt));
  before = λ s lt less same. absurd (omega (arith, less));
}

-- one struct more, which is nested just so deep
pub AreCounts-set : (c : Catalogue) (w : Width) (depth s n : ℕ) (counts : List ℕ) → AreCounts c w depth s counts
    → IsCatalogue c → first_fault c w ≡ None → s < length c.structs → nesting c s ≡ depth → n ≡ leaf_count c w s → AreCounts c w depth (s + 1) (set counts s n)
AreCounts-set c w depth s n counts are is e lt deep count = record {
  len = length-set counts s n ∙ are.len;
  small = All-set (λ m. m < 2 ^ 16) counts s n (omega (arith, count, leaf_count-small c w s is e lt)) are.small;
  inner = λ t inside less.
      get_or-set_other counts s t n 0 (λ same. (let d : nesting c t ≡ depth = ap (nesting c) same ∙ deep in omega (arith, d, less)))
      ∙ are.inner t inside less;
  before = λ t inside less same. elim (cases_lt t s) [
    | inl low ↦ get_or-set_other counts s t n 0 (λ here. omega (arith, low)) ∙ are.before t inside low same
    | inr most ↦ (let here : t ≡ s = omega arith in
        ap (slice_index (set counts s n)) here ∙ get_or-set_same counts s n 0 (omega (arith, lt, are.len))
        ∙ count ∙ sym (ap (leaf_count c w) here))
  ];
}

-- one struct more, which is nested otherwise
pub AreCounts-pass : (c : Catalogue) (w : Width) (depth s : ℕ) (counts : List ℕ) → AreCounts c w depth s counts
    → nesting c s ≢ depth → AreCounts c w depth (s + 1) counts
AreCounts-pass c w depth s counts are other = record {
  len = are.len;
  small = are.small;
  inner = are.inner;
  before = λ t inside less same. elim (cases_lt t s) [
    | inl low ↦ are.before t inside low same
    | inr most ↦ absurd (let here : s ≡ t = omega arith in other (ap (nesting c) here ∙ same))
  ];
}

-- all structs
pub AreCounts-all : (c : Catalogue) (w : Width) (counts : List ℕ) → AreCounts c w 33 0 counts
    → depth_fault c ≡ None → counts ≡ leaf_counts_in c w
AreCounts-all c w counts are deep =
    sym (by_numbers counts)
    ∙ ap (λ (n : ℕ). map (slice_index counts) (numbers_below n)) are.len
    ∙ map_same (slice_index counts) (leaf_count c w) (length c.structs) (λ s lt. are.inner s lt (omega (arith, nesting-limit c s deep lt)))

-- as many nestings as structs
pub nestings_in-len : (c : Catalogue) → length (nestings_in c) ≡ length c.structs
unfolding nesting
nestings_in-len c = nestings-len c (length c.structs)

-- the nesting of a struct as the code has it
pub nesting_at : (c : Catalogue) (nestings : List ℕ) (s d : ℕ) → nestings ≡ nestings_in c → s < length c.structs
    → get_or nestings s d ≡ nesting c s
nesting_at c nestings s d is lt =
    get_or_default nestings s d 0 (omega (arith, lt, ap length is, nestings_in-len c))
    ∙ ap (λ (xs : List ℕ). slice_index xs s) is ∙ at_number (nesting c) (length c.structs) s lt

-- ---- the limit on leaves

-- the leaves of one struct more
pub leaves_below-suc : (c : Catalogue) (w : Width) (s next n : ℕ) → next ≡ s + 1 → n ≡ leaf_count c w s
    → leaves_below c w s + n ≡ leaves_below c w next
unfolding leaves_below
leaves_below-suc c w s next n is count =
    let more : next ≡ suc s = omega arith in
    ap (λ (m : ℕ). leaves_below c w s + m) count
    ∙ sym (ap (leaves_below c w) more ∙ ap sum (map_push (leaf_count c w) (numbers_below s) s)
    ∙ sum_by_push (λ (m : ℕ). m) (map (leaf_count c w) (numbers_below s)) (leaf_count c w s))

-- as many counts as structs
pub leaf_counts-len : (c : Catalogue) (w : Width) → length (leaf_counts_in c w) ≡ length c.structs
leaf_counts-len c w = length-map (struct_numbers c) (leaf_count c w) ∙ length-numbers_below (length c.structs)

-- the count of a struct as the code has it
pub count_at : (c : Catalogue) (w : Width) (counts : List ℕ) (s d : ℕ) → counts ≡ leaf_counts_in c w
    → s < length c.structs → get_or counts s d ≡ leaf_count c w s
count_at c w counts s d is lt =
    get_or_default counts s d 0 (omega (arith, lt, ap length is, leaf_counts-len c w))
    ∙ ap (λ (xs : List ℕ). slice_index xs s) is ∙ at_number (leaf_count c w) (length c.structs) s lt

-- the fault of so many leaves up to some struct
abbrev pub fault_of_leaves : ℕ → Option LayoutFault
fault_of_leaves n = if nat_lt most_leaves n then Some (TooManyLeaves n) else None

-- the fault of the leaves up to and with a struct
abbrev pub fault_up_to : Catalogue → Width → ℕ → Option LayoutFault
fault_up_to c w s = fault_of_leaves (leaves_below c w (suc s))

-- the leaves of the structs that were reached, none of which passes the limit
pub record AreFew (c : Catalogue) (w : Width) (reached leaves : ℕ) : Type 0 where
  pub leaves_are : leaves ≡ leaves_below c w reached
  pub none : find_map (fault_up_to c w) (numbers_below reached) ≡ None
  pub small : leaves ≤ most_leaves

-- before the first struct
pub AreFew-none : (c : Catalogue) (w : Width) → AreFew c w 0 0
unfolding leaves_below
AreFew-none c w = record { leaves_are = refl; none = refl; small = omega arith }

-- what is tested at the struct that was reached
fault_here : (c : Catalogue) (w : Width) (s n leaves : ℕ) → AreFew c w s leaves → n ≡ leaf_count c w s
    → fault_up_to c w s ≡ fault_of_leaves (leaves + n)
fault_here c w s n leaves few count =
    ap fault_of_leaves (sym (ap (λ (m : ℕ). m + n) few.leaves_are ∙ leaves_below-suc c w s (suc s) n (omega arith) count))

-- one struct more, with which the limit is kept
pub AreFew-push : (c : Catalogue) (w : Width) (s n leaves : ℕ) → AreFew c w s leaves → n ≡ leaf_count c w s
    → leaves + n ≤ most_leaves → AreFew c w (s + 1) (leaves + n)
AreFew-push c w s n leaves few count le = record {
  leaves_are = ap (λ (m : ℕ). m + n) few.leaves_are ∙ leaves_below-suc c w s (s + 1) n refl count;
  none = find_map-pass (fault_up_to c w) s (s + 1) few.none
      (fault_here c w s n leaves few count ∙ ap (λ (b : Bool). cond b (Some (TooManyLeaves (leaves + n))) None) (le-ltb most_leaves (leaves + n) le)) refl;
  small = le;
}

-- one struct more, with which it isn't
pub AreFew-over : (c : Catalogue) (w : Width) (s n leaves : ℕ) → AreFew c w s leaves → n ≡ leaf_count c w s
    → s < length c.structs → most_leaves < leaves + n
    → leaves_fault c w ≡ Some (TooManyLeaves (leaves + n))
unfolding leaves_fault
AreFew-over c w s n leaves few count inside over =
    find_map-first (fault_up_to c w) s (length c.structs) (TooManyLeaves (leaves + n)) few.none
    (fault_here c w s n leaves few count ∙ ap (λ (b : Bool). cond b (Some (TooManyLeaves (leaves + n))) None) (lt-ltb most_leaves (leaves + n) over)) inside

-- all structs
pub AreFew-all : (c : Catalogue) (w : Width) (reached leaves : ℕ) → AreFew c w reached leaves
    → reached ≡ length c.structs → leaves_fault c w ≡ None
unfolding leaves_fault
AreFew-all c w reached leaves few all = ap (λ (n : ℕ). find_map (fault_up_to c w) (numbers_below n)) (sym all) ∙ few.none
