-- At another width a struct has the same leaves in the same order, but for where they stand and how long pointers
-- are.
use Rattle.std.proofs.Common.{◌≡◌, ℕ, zero, suc, ◌+◌, ◌*◌, ◌<◌, Bool, true, false, cond, List, [], ◌∷◌, ◌++◌, Option, Some, None, refl, sym, ap, ◌∙◌, arith}
use Rattle.std.specs.Prelude.{map, flat_map, ◌==◌}
use Rattle.std.proofs.lemmas.List.{map-append}
use Rattle.bl_num.specs.declared.number.Width.{Width}
use Rattle.bl_format.specs.declared.catalogue.Catalogue.{Catalogue}
use Rattle.bl_format.specs.declared.layout.Kind.{Kind}
use Rattle.bl_format.specs.declared.layout.Kind.TheVariants as kinds
use Rattle.bl_format.specs.Limits.{deepest_nesting}
use Rattle.bl_format.specs.Words.{numbers_below}
use Rattle.bl_format.specs.Schema.{IsCatalogue}
use Rattle.bl_format.specs.Layout.{Basic, NamedLeaf, MemberStep, type_entry, member_entry, member_count, struct_of_type, basic_named, basic_or_struct, kind_of_content, content_of, kind_of, name_of, inner_struct, element_size, member_size, member_offset, member_step, own_leaf, leaf_behind, inner_leaves, leaves_by, member_leaves, leaves_within, named_leaves, first_fault}
use Rattle.bl_format.specs.Rewidth.{new_value_size, new_length, rewidth}
use Rattle.bl_format.proofs.MemberPasses.{struct_exists}
use Rattle.bl_format.proofs.LeavesApart.{flat_map-numbers_below}
use Rattle.bl_format.proofs.RewidthKeeps.{rewidth-member_count, rewidth-member_entry, rewidth-name_of, rewidth-struct_name, rewidth-type_name, rewidth-content_of, rewidth-basic_length, rewidth-inner_struct, rewidth-value_size}
use Rattle.bl_format.proofs.RewidthLayout.{member_alike, tests_alike, element_by_value}

-- the bytes of an element of a kind, but of a pointer
abbrev pub size_but_pointer : Kind → ℕ → ℕ
size_but_pointer (kinds.Whole whole) size = size
size_but_pointer (kinds.Bits n) size = size
size_but_pointer (kinds.Pointer depth t) size = 0
size_but_pointer kinds.Opaque size = size

-- what doesn't depend on the width of a leaf: the members on the way to it, its type's name, what it holds, the bytes
-- of an element that isn't a pointer, and how many elements there are
pub record Outline : Type 0 where
  pub way : List MemberStep
  pub type_name : List ℕ
  pub kind : Kind
  pub size : ℕ
  pub count : ℕ

-- the outline of a leaf
abbrev pub outline_of : NamedLeaf → Outline
outline_of x = record { way = x.way; type_name = x.type_name; kind = x.kind; size = size_but_pointer x.kind x.size; count = x.count }

outline_same : (a b : Outline) → a.way ≡ b.way → a.type_name ≡ b.type_name → a.kind ≡ b.kind → a.size ≡ b.size → a.count ≡ b.count → a ≡ b
outline_same a b way type_name kind size count = λ i. record { way = way i; type_name = type_name i; kind = kind i; size = size i; count = count i }

-- ---- a member that isn't a struct by value

step_same : (c : Catalogue) (from to : Width) (s k e : ℕ) → member_step (rewidth c from to) s k e ≡ member_step c s k e
step_same c from to s k e = rw (rewidth-struct_name c from to s, rewidth-name_of c from to s k, rewidth-member_entry c from to s k) refl

content_kind : (basic : Option Basic) (inner : Option ℕ) (n m : ℕ) → ((b : Basic) → basic ≡ Some b → n ≡ m)
    → kind_of_content (basic_or_struct basic inner) n ≡ kind_of_content (basic_or_struct basic inner) m
content_kind (Some b) inner n m same = ap (kind_of_content (basic_or_struct (Some b) inner)) (same b refl)
content_kind None None n m same = refl
content_kind None (Some t) n m same = refl

type_kind : (c : Catalogue) (from to : Width) (t : ℕ) → IsCatalogue c → first_fault c from ≡ None
    → kind_of_content (content_of c t) (type_entry (rewidth c from to) t).length ≡ kind_of_content (content_of c t) (type_entry c t).length
unfolding content_of
type_kind c from to t is e =
    content_kind (basic_named (type_entry c t).name) (struct_of_type c t) (type_entry (rewidth c from to) t).length (type_entry c t).length (λ b basic. rewidth-basic_length c from to t b is e basic)

-- what a leaf holds stays
pub rewidth-kind_of : (c : Catalogue) (from to : Width) (s k : ℕ) → IsCatalogue c → first_fault c from ≡ None
    → kind_of (rewidth c from to) s k ≡ kind_of c s k
unfolding kind_of
rewidth-kind_of c from to s k is e =
    rw (rewidth-name_of c from to s k, rewidth-member_entry c from to s k, rewidth-content_of c from to (member_entry c s k).type_number)
    (ap (λ (x : Kind). cond (name_of c s k).pointer (kinds.Pointer (name_of c s k).depth (member_entry c s k).type_number) x) (type_kind c from to (member_entry c s k).type_number is e))

kind_of_pointer : (c : Catalogue) (s k : ℕ) → (name_of c s k).pointer ≡ true → kind_of c s k ≡ kinds.Pointer (name_of c s k).depth (member_entry c s k).type_number
unfolding kind_of
kind_of_pointer c s k e = rw e refl

size_same : (c : Catalogue) (from to : Width) (s k : ℕ) → IsCatalogue c → first_fault c from ≡ None → k < member_count c s
    → inner_struct c s k ≡ None → (p : Bool) → (name_of c s k).pointer ≡ p
    → size_but_pointer (kind_of c s k) (element_size (rewidth c from to) to s k) ≡ size_but_pointer (kind_of c s k) (element_size c from s k)
size_same c from to s k is e within none true pointer = rw (kind_of_pointer c s k pointer) refl
size_same c from to s k is e within none false by_value =
    let there : (name_of (rewidth c from to) s k).pointer ≡ false = rw (rewidth-name_of c from to s k) by_value in
    let new : element_size (rewidth c from to) to s k ≡ (type_entry (rewidth c from to) (member_entry (rewidth c from to) s k).type_number).length = element_by_value (rewidth c from to) to s k there in
    let old : (type_entry (rewidth c from to) (member_entry c s k).type_number).length ≡ new_value_size (new_length c from to) c s k (inner_struct c s k) = rewidth-value_size c from to s k is e (struct_exists c s k within) within by_value in
    ap (size_but_pointer (kind_of c s k))
    (new
    ∙ ap (λ (t : ℕ). (type_entry (rewidth c from to) t).length) (type_number_same c from to s k)
    ∙ old
    ∙ ap (new_value_size (new_length c from to) c s k) none
    ∙ sym (element_by_value c from s k by_value))
  where
    type_number_same : (c : Catalogue) (from to : Width) (s k : ℕ) → (member_entry (rewidth c from to) s k).type_number ≡ (member_entry c s k).type_number
    type_number_same c from to s k = rw (rewidth-member_entry c from to s k) refl

own_same : (c : Catalogue) (from to : Width) (s k : ℕ) → IsCatalogue c → first_fault c from ≡ None → k < member_count c s
    → inner_struct c s k ≡ None → outline_of (own_leaf (rewidth c from to) to s k) ≡ outline_of (own_leaf c from s k)
own_same c from to s k is e within none =
    outline_same (outline_of (own_leaf (rewidth c from to) to s k)) (outline_of (own_leaf c from s k))
    (ap (λ (step : MemberStep). step ∷ []) (step_same c from to s k 0))
    (name_same c from to s k)
    (rewidth-kind_of c from to s k is e)
    (ap (λ (x : Kind). size_but_pointer x (element_size (rewidth c from to) to s k)) (rewidth-kind_of c from to s k is e) ∙ size_same c from to s k is e within none (name_of c s k).pointer refl)
    (rw (rewidth-name_of c from to s k) refl)
  where
    name_same : (c : Catalogue) (from to : Width) (s k : ℕ) → (type_entry (rewidth c from to) (member_entry (rewidth c from to) s k).type_number).name ≡ (type_entry c (member_entry c s k).type_number).name
    name_same c from to s k = rw (rewidth-member_entry c from to s k) (rewidth-type_name c from to (member_entry c s k).type_number)

-- ---- all leaves

outline_behind : MemberStep → Outline → Outline
outline_behind step x = record x { way = step ∷ x.way }

outlines_behind : (step : MemberStep) (by : ℕ) (xs : List NamedLeaf) → map outline_of (map (leaf_behind step by) xs) ≡ map (outline_behind step) (map outline_of xs)
unfolding outline_behind
outlines_behind step by [] = refl
outlines_behind step by (x ∷ xs) = ap (λ (ys : List Outline). outline_of (leaf_behind step by x) ∷ ys) (outlines_behind step by xs)

outlines_same : (f g : ℕ → List NamedLeaf) (n : ℕ) → ((k : ℕ) → k < n → map outline_of (f k) ≡ map outline_of (g k))
    → map outline_of (flat_map f (numbers_below n)) ≡ map outline_of (flat_map g (numbers_below n))
outlines_same f g zero h = refl
outlines_same f g (suc n) h =
    rw (flat_map-numbers_below f n, flat_map-numbers_below g n, map-append outline_of (flat_map f (numbers_below n)) (f n ++ []), map-append outline_of (flat_map g (numbers_below n)) (g n ++ []), map-append outline_of (f n) [], map-append outline_of (g n) [], h n (omega arith), outlines_same f g n (λ k lt. h k (omega arith))) refl

leaves_by-same : (p q : ℕ → List NamedLeaf) (c : Catalogue) (from to : Width) (s k : ℕ) → IsCatalogue c → first_fault c from ≡ None
    → k < member_count c s → ((t : ℕ) → map outline_of (p t) ≡ map outline_of (q t)) → (o : Option ℕ) → inner_struct c s k ≡ o
    → map outline_of (leaves_by p (rewidth c from to) to s k o) ≡ map outline_of (leaves_by q c from s k o)
leaves_by-same p q c from to s k is e within h None inner = ap (λ (x : Outline). x ∷ []) (own_same c from to s k is e within inner)
leaves_by-same p q c from to s k is e within h (Some t) inner =
    rw (rewidth-name_of c from to s k)
    (outlines_same (inner_leaves (p t) (rewidth c from to) to s k) (inner_leaves (q t) c from s k) (name_of c s k).count
    (λ i lt.
    outlines_behind (member_step (rewidth c from to) s k i) (member_offset (rewidth c from to) to s k + i * element_size (rewidth c from to) to s k) (p t)
    ∙ ap (λ (step : MemberStep). map (outline_behind step) (map outline_of (p t))) (step_same c from to s k i)
    ∙ ap (map (outline_behind (member_step c s k i))) (h t)
    ∙ sym (outlines_behind (member_step c s k i) (member_offset c from s k + i * element_size c from s k) (q t))))

unless_empty : (b : Bool) (xs ys : List NamedLeaf) → map outline_of xs ≡ map outline_of ys → map outline_of (cond b [] xs) ≡ map outline_of (cond b [] ys)
unless_empty true xs ys h = refl
unless_empty false xs ys h = h

member_leaves-same : (p q : ℕ → List NamedLeaf) (c : Catalogue) (from to : Width) (s k : ℕ) → IsCatalogue c → first_fault c from ≡ None
    → k < member_count c s → ((t : ℕ) → map outline_of (p t) ≡ map outline_of (q t))
    → map outline_of (member_leaves p (rewidth c from to) to s k) ≡ map outline_of (member_leaves q c from s k)
unfolding member_leaves
member_leaves-same p q c from to s k is e within h =
    rw (tests_alike _ _ (member_alike c from to s k is e within), rewidth-inner_struct c from to s k)
    (unless_empty (member_size c from s k == 0) _ _ (leaves_by-same p q c from to s k is e within h (inner_struct c s k) refl))

leaves_within-same : (c : Catalogue) (from to : Width) (n s : ℕ) → IsCatalogue c → first_fault c from ≡ None
    → map outline_of (leaves_within n (rewidth c from to) to s) ≡ map outline_of (leaves_within n c from s)
unfolding leaves_within
leaves_within-same c from to zero s is e = refl
leaves_within-same c from to (suc n) s is e =
    rw (rewidth-member_count c from to s)
    (outlines_same (member_leaves (leaves_within n (rewidth c from to) to) (rewidth c from to) to s) (member_leaves (leaves_within n c from) c from s) (member_count c s)
    (λ k within. member_leaves-same (leaves_within n (rewidth c from to) to) (leaves_within n c from) c from to s k is e within (λ t. leaves_within-same c from to n t is e)))

-- at another width a struct's leaves have the same outlines, in the same order
pub rewidth-named_leaves : (c : Catalogue) (from to : Width) (s : ℕ) → IsCatalogue c → first_fault c from ≡ None
    → map outline_of (named_leaves (rewidth c from to) to s) ≡ map outline_of (named_leaves c from s)
unfolding named_leaves
rewidth-named_leaves c from to s is e = leaves_within-same c from to (deepest_nesting + 1) s is e
