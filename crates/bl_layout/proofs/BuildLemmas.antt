-- The leaves of a struct by the numbers on the way to them, as they are built, are those of its definition; and what
-- the parts are that they are built from.
use Rattle.std.proofs.Common.{◌≡◌, ℕ, suc, ◌+◌, ◌*◌, ◌≤◌, ◌<◌, ◌^◌, Bool, true, false, cond, not, subst, All, List, [], ◌∷◌, ◌++◌, length, map, Option, Some, None, eqb, refl, sym, ◌∙◌, ap, arith, ltb-false}
use Rattle.std.proofs.Math.Dec.{eqb-suc-zero}
use Rattle.std.proofs.lemmas.List.Sums.{prefix_len-le-length}
use Rattle.std.specs.Prelude.{◌==◌, ◌&&◌, flat_map, option_map, unwrap_or, nat_le, slice_index, drop}
use Rattle.std.specs.List.{prefix_len}
use Rattle.std.specs.Str.{byte}
use Rattle.std.proofs.lemmas.List.{map-append}
use Rattle.std.proofs.lemmas.List.Elements.{All-map}
use Rattle.std.proofs.lemmas.Bool.{or_parts}
use Rattle.bl_num.specs.declared.number.Width.{Width}
use Rattle.bl_format.specs.declared.catalogue.Catalogue.{Catalogue}
use Rattle.bl_format.specs.declared.catalogue.MemberEntry.{MemberEntry}
use Rattle.bl_format.specs.declared.layout.Leaf.{Leaf}
use Rattle.bl_format.specs.Schema.{IsCatalogue}
use Rattle.bl_format.specs.Limits.{most_elements}
use Rattle.bl_format.specs.Members.{MemberName, member_name, other_name, function_name, plain_name, function_parts, plain_parts, within_count, is_word_byte}
use Rattle.bl_format.specs.Words.{numbers_below}
use Rattle.bl_layout.specs.MemberNames.{name_parts}
use Rattle.bl_format.specs.Layout.{NamedLeaf, type_entry, struct_entry, member_entry, member_count, member_numbers, struct_length, name_of, content_of, kind_of, is_bad_length, inner_struct, element_size, member_size, member_offset, leaf_behind, member_step, inner_leaves, leaves_by, member_leaves, named_leaves, leaf_of, leaves_of, first_fault}
use Rattle.bl_format.proofs.MemberPasses.{member_passes}
use Rattle.bl_format.proofs.LeavesApart.{named_leaves-within}
use Rattle.bl_layout.specs.declared.leaves.Part.{Part}
use Rattle.bl_layout.specs.Sizes.{parts_of, inner_of, basic_in}
use Rattle.bl_layout.specs.Leaves.{leaf_behind_on, element_leaves, leaves_of_elements, leaf_of_part, part_of, kind_at, leaf_list_by, member_leaf_list}
use Rattle.bl_layout.proofs.CheckLemmas.{struct_fits, basic_in-content_of}
use Rattle.bl_layout.proofs.GraphLemmas.{inner_struct-inner_of}
use Rattle.bl_layout.proofs.OffsetLemmas.{member_offset-suc}

-- ---- lists

map-flat_map : {X A B : Type 0} (g : A → B) (f : X → List A) (xs : List X)
    → map g (flat_map f xs) ≡ flat_map (λ x. map g (f x)) xs
map-flat_map g f [] = refl
map-flat_map g f (x ∷ xs) =
    map-append g (f x) (flat_map f xs) ∙ ap (λ ys. map g (f x) ++ ys) (map-flat_map g f xs)

flat_map-same : {X A : Type 0} (f g : X → List A) (xs : List X)
    → ((x : X) → f x ≡ g x) → flat_map f xs ≡ flat_map g xs
flat_map-same f g [] same = refl
flat_map-same f g (x ∷ xs) same =
    ap (λ ys. ys ++ flat_map f xs) (same x) ∙ ap (λ ys. g x ++ ys) (flat_map-same f g xs same)

-- elements of a struct without leaves have none
pub no-leaves : (p : Part) (inside : List Leaf) (n : ℕ) → (length inside == 0) ≡ true → leaves_of_elements p inside n ≡ []
no-leaves p (x ∷ xs) n e = absurd (let some : eqb (suc (length xs)) 0 ≡ false = eqb-suc-zero (length xs) in cc)
no-leaves p [] n e = none (numbers_below n)
  where
    none : (es : List ℕ) → flat_map (element_leaves p []) es ≡ []
    none [] = refl
    none (e ∷ es) = none es

-- ---- leaves by names and by numbers

-- a leaf of an inner struct
leaves-behind : (c : Catalogue) (s k e by : ℕ) (xs : List NamedLeaf)
    → map leaf_of (map (leaf_behind (member_step c s k e) by) xs)
    ≡ map (leaf_behind_on k (record { name_number = (member_entry c s k).name_number; element = e }) by) (map leaf_of xs)
leaves-behind c s k e by [] = refl
leaves-behind c s k e by (x ∷ xs) =
    ap (λ ys. leaf_of (leaf_behind (member_step c s k e) by x) ∷ ys) (leaves-behind c s k e by xs)

-- the leaves of one element
element_leaves-of : (c : Catalogue) (w : Width) (s k e : ℕ) (xs : List NamedLeaf)
    → map leaf_of (inner_leaves xs c w s k e) ≡ element_leaves (part_of c w s k) (map leaf_of xs) e
unfolding element_size name_of
element_leaves-of c w s k e xs = leaves-behind c s k e (member_offset c w s k + e * element_size c w s k) xs

-- the leaves of a member by the struct that it is
leaf_list_by-of : (c : Catalogue) (w : Width) (s k : ℕ) (o : Option ℕ)
    → map leaf_of (leaves_by (named_leaves c w) c w s k o) ≡ leaf_list_by (leaves_of c w) c w s k o
unfolding element_size name_of leaves_of
leaf_list_by-of c w s k None = refl
leaf_list_by-of c w s k (Some t) =
    map-flat_map leaf_of (inner_leaves (named_leaves c w t) c w s k) (numbers_below (name_of c s k).count)
    ∙ flat_map-same _ (element_leaves (part_of c w s k) (leaves_of c w t)) (numbers_below (name_of c s k).count)
    (λ e. element_leaves-of c w s k e (named_leaves c w t))

-- the leaves of a member
member_leaves-of : (c : Catalogue) (w : Width) (s k : ℕ)
    → map leaf_of (member_leaves (named_leaves c w) c w s k) ≡ member_leaf_list (leaves_of c w) c w s k
unfolding member_leaves member_leaf_list member_size element_size name_of
member_leaves-of c w s k = go (member_size c w s k == 0)
  where
    go : (b : Bool) → map leaf_of (cond b [] (leaves_by (named_leaves c w) c w s k (inner_struct c s k)))
        ≡ cond b [] (leaf_list_by (leaves_of c w) c w s k (inner_struct c s k))
    go true = refl
    go false = leaf_list_by-of c w s k (inner_struct c s k)

-- the leaves of a struct are those of its members
pub leaves_of-members : (c : Catalogue) (w : Width) (s : ℕ)
    → named_leaves c w s ≡ flat_map (member_leaves (named_leaves c w) c w s) (member_numbers c s)
    → leaves_of c w s ≡ flat_map (member_leaf_list (leaves_of c w) c w s) (member_numbers c s)
unfolding leaves_of
leaves_of-members c w s e =
    ap (map leaf_of) e
    ∙ map-flat_map leaf_of (member_leaves (named_leaves c w) c w s) (member_numbers c s)
    ∙ flat_map-same _ (member_leaf_list (leaves_of c w) c w s) (member_numbers c s) (member_leaves-of c w s)

-- ---- what the leaves are built from

-- a struct's length is small
pub struct_length-small : (c : Catalogue) (s : ℕ) → IsCatalogue c → s < length c.structs → struct_length c s < 2 ^ 16
struct_length-small c s is lt =
    is.lengths_fit (struct_entry c s).type_number (record { name = []; length = 0 }) (struct_fits c s is lt).type_number

-- a member ends near its struct's start
pub part-near : (c : Catalogue) (w : Width) (s k : ℕ)
    → IsCatalogue c → first_fault c w ≡ None → s < length c.structs → k < member_count c s
    → (part_of c w s k).offset + (part_of c w s k).size * (part_of c w s k).count < 2 ^ 31
part-near c w s k is e place lt =
    let within : member_offset c w s (suc k) ≤ struct_length c s =
    ltb-false (struct_length c s) (member_offset c w s (suc k)) (member_passes c w s k e lt).within in
    let next : member_offset c w s (suc k) ≡ member_offset c w s k + (part_of c w s k).size * (part_of c w s k).count =
    member_offset-suc c w s k in
    omega (arith, within, next, struct_length-small c s is place)

-- the leaves of a struct begin near its start
pub leaves-near : (c : Catalogue) (w : Width) (s : ℕ)
    → IsCatalogue c → first_fault c w ≡ None → s < length c.structs
    → All (λ x. x.offset < 2 ^ 31) (leaves_of c w s)
unfolding leaves_of
leaves-near c w s is e place =
    let small = struct_length-small c s is place in
    All-map (λ (x : Leaf). x.offset < 2 ^ 31) leaf_of (named_leaves c w s)
    (λ j d lt. (let h = named_leaves-within c w s e j d lt in omega (arith, h, small)))

-- a member by value of a basic type has a length of it
pub length-good : (c : Catalogue) (w : Width) (s k : ℕ) → first_fault c w ≡ None → k < member_count c s
    → (not (parts_of c (member_entry c s k)).pointer
    && is_bad_length (basic_in (content_of c (member_entry c s k).type_number)) (type_entry c (member_entry c s k).type_number).length) ≡ false
unfolding name_of
length-good c w s k e lt =
    let t = (member_entry c s k).type_number in
    rw (basic_in-content_of c t) (or_parts _ _ (member_passes c w s k e lt).basic_length).1

-- what the leaf of a member holds
pub kind_of-at : (c : Catalogue) (s k : ℕ) → kind_of c s k ≡ kind_at c (member_entry c s k)
unfolding kind_of name_of
kind_of-at c s k = refl

-- ---- stars

within-depth : (o : Option MemberName) (d : MemberName) (n : ℕ)
    → ((m : MemberName) → o ≡ Some m → m.depth ≤ n) → d.depth ≤ n
    → (unwrap_or (within_count o) d).depth ≤ n
within-depth None d n each none = none
within-depth (Some m) d n each none = go (nat_le m.count most_elements)
  where
    go : (b : Bool) → (unwrap_or (cond b (Some m) None) d).depth ≤ n
    go true = each m refl
    go false = none

function-depth : (name : List ℕ) (b : Bool) (n : ℕ) (m : MemberName)
    → cond b (Some (function_parts name n)) None ≡ Some m → m.depth ≤ length name
function-depth name true n m e =
    let same : function_parts name n ≡ m = cc in
    subst (λ (x : MemberName). x.depth ≤ length name) same (omega arith)
function-depth name false n m e = absurd (cc)

plain-depth : (name : List ℕ) (b : Bool) (stars n : ℕ) (o : Option (List ℕ)) (m : MemberName)
    → stars ≤ length name → cond b None (option_map (plain_parts name stars n) o) ≡ Some m → m.depth ≤ length name
plain-depth name true stars n o m le e = absurd (cc)
plain-depth name false stars n None m le e = absurd (cc)
plain-depth name false stars n (Some ns) m le e =
    let same : plain_parts name stars n ns ≡ m = cc in
    subst (λ (x : MemberName). x.depth ≤ length name) same le

-- a name has no more stars than bytes
pub depth-le : (name : List ℕ) → (name_parts name).depth ≤ length name
unfolding member_name
depth-le name =
    within-depth _ (other_name name) (length name) (form (slice_index name 0 == byte "(")) (omega arith)
  where
    stars : ℕ
    stars = prefix_len (λ b. b == byte "*") name

    form : (b : Bool) (m : MemberName) → cond b (function_name name) (plain_name name) ≡ Some m → m.depth ≤ length name
    form true m e = function-depth name _ (prefix_len is_word_byte (drop 2 name)) m e
    form false m e =
        plain-depth name _ stars (prefix_len is_word_byte (drop stars name)) _ m (prefix_len-le-length (λ b. b == byte "*") name) e

-- ---- the leaves of a member, case by case

-- the struct that a member is, by its entry as the code has it
pub inner-found : (c : Catalogue) (s k : ℕ) (m : MemberEntry) (o : Option ℕ)
    → m ≡ member_entry c s k → o ≡ inner_of c m → inner_struct c s k ≡ o
inner-found c s k m o entry is = inner_struct-inner_of c s k ∙ sym (is ∙ ap (inner_of c) entry)

-- whether a member has no bytes, by its part as the code has it
pub emptiness : (c : Catalogue) (w : Width) (s k : ℕ) (p : Part) (empty : Bool)
    → p ≡ part_of c w s k → empty ≡ (p.size * p.count == 0)
    → ((part_of c w s k).size * (part_of c w s k).count == 0) ≡ empty
emptiness c w s k p empty part is = sym (is ∙ ap (λ (q : Part). q.size * q.count == 0) part)

-- a member without bytes
pub list-empty : (inside : ℕ → List Leaf) (c : Catalogue) (w : Width) (s k : ℕ)
    → ((part_of c w s k).size * (part_of c w s k).count == 0) ≡ true → member_leaf_list inside c w s k ≡ []
unfolding member_leaf_list
list-empty inside c w s k e = ap (λ b. cond b [] (leaf_list_by inside c w s k (inner_struct c s k))) e

-- a struct by value
pub list-inner : (inside : ℕ → List Leaf) (c : Catalogue) (w : Width) (s k t : ℕ)
    → ((part_of c w s k).size * (part_of c w s k).count == 0) ≡ false → inner_struct c s k ≡ Some t
    → member_leaf_list inside c w s k ≡ leaves_of_elements (part_of c w s k) (inside t) (part_of c w s k).count
unfolding member_leaf_list
list-inner inside c w s k t e is =
    ap (λ b. cond b [] (leaf_list_by inside c w s k (inner_struct c s k))) e ∙ ap (leaf_list_by inside c w s k) is

-- any other member
pub list-own : (inside : ℕ → List Leaf) (c : Catalogue) (w : Width) (s k : ℕ)
    → ((part_of c w s k).size * (part_of c w s k).count == 0) ≡ false → inner_struct c s k ≡ None
    → member_leaf_list inside c w s k ≡ leaf_of_part (part_of c w s k) (kind_of c s k) ∷ []
unfolding member_leaf_list
list-own inside c w s k e is =
    ap (λ b. cond b [] (leaf_list_by inside c w s k (inner_struct c s k))) e ∙ ap (leaf_list_by inside c w s k) is
