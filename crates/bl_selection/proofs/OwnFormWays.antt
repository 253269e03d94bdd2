-- Of the leaves of a struct, a leaf meets itself and no leaf before it: where two ways meet, their members have one
-- key, so one identifier, and no two leaves of a struct have one path.
use Rattle.std.proofs.Common.{◌≡◌, ℕ, zero, suc, ◌+◌, ◌≤◌, ◌<◌, Bool, true, false, cond, All, List, [], ◌∷◌, length, take, drop, get_or, slice_index, Option, Some, None, refl, sym, ap, ◌∙◌, arith}
use Rattle.std.specs.Prelude.{◌&&◌, ◌==◌, nat_le, unwrap_or, option_map}
use Rattle.std.specs.List.{find, prefix_len}
use Rattle.std.specs.Str.{bytes_eq, byte}
use Rattle.std.proofs.lemmas.Bool.{false_from_ne_true, eq-eqb, eqb-true, and_parts}
use Rattle.std.proofs.lemmas.List.{drop-take}
use Rattle.std.proofs.lemmas.List.Elements.{All-nil, All-cons, All-head, All-tail, All-map}
use Rattle.std.proofs.lemmas.Slice.Eq.{bytes_eq-Decides}
use Rattle.bl_num.specs.declared.number.Width.{Width}
use Rattle.bl_format.specs.declared.catalogue.Catalogue.{Catalogue}
use Rattle.bl_format.specs.Limits.{deepest_nesting, most_elements}
use Rattle.bl_format.specs.Words.{part}
use Rattle.bl_format.specs.Members.{MemberName, is_word_byte, extents, plain_parts, plain_name, function_parts, function_name, within_count, member_name, other_name}
use Rattle.bl_format.specs.Layout.{MemberStep, NamedLeaf, member_count, member_entry, member_size, name_entry, name_of, inner_struct, member_step, own_leaf, inner_leaves, leaves_by, member_leaves, leaves_within, named_leaves, first_fault}
use Rattle.bl_format.specs.Graph.{path_of}
use Rattle.bl_format.proofs.LeafKinds.{each_number, named_leaves-have_bytes}
use Rattle.bl_format.proofs.WaysDiffer.{named_leaves-elements_differ}
use Rattle.bl_selection.specs.Fate.{steps_meet, ways_meet, source_leaf}

-- ---- a key has one identifier

-- the identifier in a key: behind `(*`, or behind all stars
abbrev identifier_in : List ℕ → List ℕ
identifier_in key =
    cond (slice_index key 0 == byte "(") (part key 2 (prefix_len is_word_byte (drop 2 key)))
    (drop (prefix_len (λ b. b == byte "*") key) key)

-- the key of a name has its identifier
abbrev KeyTells : MemberName → Type 0
KeyTells m = m.identifier ≡ identifier_in m.key

-- and so it is of a name that may be there
abbrev KeyMayTell : Option MemberName → Type 0
KeyMayTell None = Unit {0}
KeyMayTell (Some m) = KeyTells m

first_kept : (xs : List ℕ) (n : ℕ) → 0 < n → slice_index (take n xs) 0 ≡ slice_index xs 0
first_kept xs zero some = absurd (omega arith)
first_kept [] (suc n) some = refl
first_kept (x ∷ xs) (suc n) some = refl

prefix_kept : (p : ℕ → Bool) (xs : List ℕ) (n : ℕ) → prefix_len p xs ≤ n → prefix_len p (take n xs) ≡ prefix_len p xs
prefix_kept p [] zero le = refl
prefix_kept p [] (suc n) le = refl
prefix_kept p (x ∷ xs) zero le = let none : prefix_len p (x ∷ xs) ≡ 0 = omega (arith, le) in sym none
prefix_kept p (x ∷ xs) (suc n) le = go (p x) le (prefix_kept p xs n)
  where
    go : (b : Bool) → cond b (1 + prefix_len p xs) 0 ≤ suc n → (prefix_len p xs ≤ n → prefix_len p (take n xs) ≡ prefix_len p xs)
        → cond b (1 + prefix_len p (take n xs)) 0 ≡ cond b (1 + prefix_len p xs) 0
    go true le rest = ap (λ k. 1 + k) (rest (omega (arith, le)))
    go false le rest = refl

plain_tells : (name : List ℕ) (n : ℕ) (ns : List ℕ) → (slice_index name 0 == byte "(") ≡ false → 0 < n
    → KeyTells (plain_parts name (prefix_len (λ b. b == byte "*") name) n ns)
plain_tells name n ns plain some =
    let star : ℕ → Bool = λ b. b == byte "*" in
    let stars : ℕ = prefix_len star name in
    let key : List ℕ = take (stars + n) name in
    let first : slice_index key 0 ≡ slice_index name 0 = first_kept name (stars + n) (omega (arith, some)) in
    let own : (slice_index key 0 == byte "(") ≡ false = ap (λ (b : ℕ). b == byte "(") first ∙ plain in
    let same : prefix_len star key ≡ stars = prefix_kept star name (stars + n) (omega arith) in
    sym (ap (λ b. cond b (part key 2 (prefix_len is_word_byte (drop 2 key))) (drop (prefix_len star key) key)) own
    ∙ ap (λ k. drop k key) same ∙ drop-take stars n name)

plain_name_tells : (name : List ℕ) → (slice_index name 0 == byte "(") ≡ false → KeyMayTell (plain_name name)
plain_name_tells name plain = by_word (n == 0) refl
  where
    stars : ℕ
    stars = prefix_len (λ b. b == byte "*") name

    n : ℕ
    n = prefix_len is_word_byte (drop stars name)

    rest : List ℕ
    rest = drop (stars + n) name

    by_extents : (o : Option (List ℕ)) → 0 < n → KeyMayTell (option_map (plain_parts name stars n) o)
    by_extents None some = tt
    by_extents (Some ns) some = plain_tells name n ns plain some

    not_none : (m : ℕ) → (m == 0) ≡ false → 0 < m
    not_none zero is = absurd (let e : (0 == 0) ≡ true = eq-eqb 0 0 refl in cc)
    not_none (suc m) is = omega arith

    by_word : (b : Bool) → (n == 0) ≡ b → KeyMayTell (cond b None (option_map (plain_parts name stars n) (extents (length rest) rest)))
    by_word true is = tt
    by_word false is = by_extents (extents (length rest) rest) (not_none n is)

function_name_tells : (name : List ℕ) → (slice_index name 0 == byte "(") ≡ true → KeyMayTell (function_name name)
function_name_tells name is = by_form _
  where
    n : ℕ
    n = prefix_len is_word_byte (drop 2 name)

    by_form : (b : Bool) → KeyMayTell (cond b (Some (function_parts name n)) None)
    by_form true = sym (ap (λ b. cond b (part name 2 n) (drop (prefix_len (λ b. b == byte "*") name) name)) is)
    by_form false = tt

within_tells : (o : Option MemberName) → KeyMayTell o → KeyMayTell (within_count o)
within_tells None tells = tt
within_tells (Some m) tells = go (nat_le m.count most_elements)
  where
    go : (b : Bool) → KeyMayTell (cond b (Some m) None)
    go true = tells
    go false = tt

other_tells : (name : List ℕ) (o : Option MemberName) → KeyMayTell o → KeyTells (unwrap_or o (other_name name))
other_tells name None tells = refl
other_tells name (Some m) tells = tells

-- the key of a member has its identifier
key_tells : (name : List ℕ) → KeyTells (unwrap_or (member_name name) (other_name name))
unfolding member_name
key_tells name = other_tells name _ (within_tells _ (by_form (slice_index name 0 == byte "(") refl))
  where
    by_form : (b : Bool) → (slice_index name 0 == byte "(") ≡ b → KeyMayTell (cond b (function_name name) (plain_name name))
    by_form true is = function_name_tells name is
    by_form false is = plain_name_tells name is

-- ---- ways of leaves

-- the key of a step has its identifier
abbrev StepTells : MemberStep → Type 0
StepTells step = step.identifier ≡ identifier_in step.key

-- and so it is all the way to a leaf
abbrev WayTells : NamedLeaf → Type 0
WayTells x = All StepTells x.way

step_tells : (c : Catalogue) (s k e : ℕ) → StepTells (member_step c s k e)
unfolding name_of
step_tells c s k e = key_tells (name_entry c (member_entry c s k).name_number)

-- two members with one key have one identifier
pub same_key-same_identifier : (c : Catalogue) (s j k : ℕ) → (name_of c s j).key ≡ (name_of c s k).key
    → (name_of c s j).identifier ≡ (name_of c s k).identifier
same_key-same_identifier c s j k same =
    step_tells c s j 0 ∙ ap (λ key. identifier_in key) same ∙ sym (step_tells c s k 0)

member_ways : (inside : ℕ → List NamedLeaf) (c : Catalogue) (w : Width) (s k : ℕ)
    → ((t : ℕ) → All WayTells (inside t)) → All WayTells (member_leaves inside c w s k)
unfolding member_leaves
member_ways inside c w s k all = unless_empty (member_size c w s k == 0)
  where
    by_inner : (o : Option ℕ) → All WayTells (leaves_by inside c w s k o)
    by_inner (Some t) = each_number WayTells (inner_leaves (inside t) c w s k) (name_of c s k).count (λ e lt. All-map WayTells _ (inside t) (λ j d below. All-cons StepTells (member_step c s k e) (get_or (inside t) j d).way (step_tells c s k e) (all t j d below)))
    by_inner None = All-cons WayTells (own_leaf c w s k) [] (All-cons StepTells (member_step c s k 0) [] (step_tells c s k 0) (All-nil StepTells)) (All-nil WayTells)

    unless_empty : (b : Bool) → All WayTells (cond b [] (leaves_by inside c w s k (inner_struct c s k)))
    unless_empty true = All-nil WayTells
    unless_empty false = by_inner (inner_struct c s k)

ways_within : (n : ℕ) (c : Catalogue) (w : Width) (s : ℕ) → All WayTells (leaves_within n c w s)
unfolding leaves_within
ways_within zero c w s = All-nil WayTells
ways_within (suc n) c w s =
    each_number WayTells (member_leaves (leaves_within n c w) c w s) (member_count c s) (λ k lt. member_ways (leaves_within n c w) c w s k (λ t. ways_within n c w t))

ways_tell : (c : Catalogue) (w : Width) (s : ℕ) → All WayTells (named_leaves c w s)
unfolding named_leaves
ways_tell c w s = ways_within (deepest_nesting + 1) c w s

-- ---- ways that meet

all_true : (a b c : Bool) → (a && b && c) ≡ true → (b ≡ true) × (c ≡ true)
all_true true true c is = (refl, is)
all_true true false c is = absurd (cc)
all_true false b c is = absurd (cc)

-- two steps that meet are of one identifier, at one element
same_steps : (x y : MemberStep) → StepTells x → StepTells y → steps_meet x y ≡ true → (x.identifier ≡ y.identifier) × (x.element ≡ y.element)
same_steps x y tells others meet =
    let both = all_true (bytes_eq x.owner y.owner) (bytes_eq x.key y.key) (x.element == y.element) meet in
    (tells ∙ ap (λ key. identifier_in key) ((bytes_eq-Decides x.key y.key).0 both.0) ∙ sym others, eqb-true x.element y.element both.1)

-- the elements 0 behind two ways that meet have one path
same_path : (xs ys : List MemberStep) → All StepTells xs → All StepTells ys → ways_meet xs ys ≡ true → path_of xs 0 ≡ path_of ys 0
same_path [] [] tell others meet = refl
same_path [] (y ∷ ys) tell others meet = absurd (cc)
same_path (x ∷ xs) [] tell others meet = absurd (cc)
same_path (x ∷ xs) (y ∷ ys) tell others meet =
    let both = and_parts (steps_meet x y) (ways_meet xs ys) meet in
    let first = same_steps x y (All-head StepTells x xs tell) (All-head StepTells y ys others) both.0 in
    let later = same_path xs ys (All-tail StepTells x xs tell) (All-tail StepTells y ys others) both.1 in
    go xs ys first.0 first.1 both.1 later
  where
    go : (xs ys : List MemberStep) → x.identifier ≡ y.identifier → x.element ≡ y.element → ways_meet xs ys ≡ true → path_of xs 0 ≡ path_of ys 0
        → path_of (x ∷ xs) 0 ≡ path_of (y ∷ ys) 0
    go [] [] name element meet later = ap (λ (n : List ℕ). (n, 0) ∷ []) name
    go [] (b ∷ ys) name element meet later = absurd (cc)
    go (a ∷ xs) [] name element meet later = absurd (cc)
    go (a ∷ xs) (b ∷ ys) name element meet later = λ i. (name i, element i) ∷ later i

meets_itself : (xs : List MemberStep) → ways_meet xs xs ≡ true
meets_itself [] = refl
meets_itself (x ∷ xs) =
    let owner : bytes_eq x.owner x.owner ≡ true = (bytes_eq-Decides x.owner x.owner).1 refl in
    let key : bytes_eq x.key x.key ≡ true = (bytes_eq-Decides x.key x.key).1 refl in
    rw (owner, key, eq-eqb x.element x.element refl, meets_itself xs) refl

-- ---- the law

find_first : {X : Type 0} (p : X → Bool) (xs : List X) (k : ℕ) (d : X) → k < length xs → p (get_or xs k d) ≡ true
    → ((j : ℕ) → j < k → p (get_or xs j d) ≡ false) → find p xs ≡ Some (get_or xs k d)
find_first p [] k d lt own others = absurd (omega arith)
find_first p (x ∷ xs) zero d lt own others = ap (λ b. cond b (Some x) (find p xs)) own
find_first p (x ∷ xs) (suc k) d lt own others =
    ap (λ b. cond b (Some x) (find p xs)) (others 0 (omega arith))
    ∙ find_first p xs k d (omega arith) own (λ j below. others (suc j) (omega arith))

-- the leaf that a leaf of the same struct meets is that leaf
pub source_leaf-own : (c : Catalogue) (w : Width) (s : ℕ) → first_fault c w ≡ None
    → All (λ y. source_leaf (named_leaves c w s) y ≡ Some y) (named_leaves c w s)
source_leaf-own c w s no_fault k d lt =
    let xs : List NamedLeaf = named_leaves c w s in
    let y : NamedLeaf = get_or xs k d in
    find_first (λ (x : NamedLeaf). ways_meet x.way y.way) xs k d lt (meets_itself y.way)
    (λ j below. false_from_ne_true (ways_meet (get_or xs j d).way y.way)
    (λ meet. named_leaves-elements_differ c w s no_fault j k d below lt 0 0
    (named_leaves-have_bytes c w s j d (omega (arith, below, lt))).count (named_leaves-have_bytes c w s k d lt).count
    (same_path (get_or xs j d).way y.way (ways_tell c w s j d (omega (arith, below, lt))) (ways_tell c w s k d lt) meet)))
