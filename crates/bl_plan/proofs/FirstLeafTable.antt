-- The first leaves of a struct's members by their keys, as they are gathered leaf by leaf.
use Rattle.std.proofs.Common.{◌≡◌, ◌<◌, ◌≤◌, ◌^◌, ℕ, suc, ◌+◌, Bool, true, false, cond, List, ◌∷◌, length, get_or, drop, Option, Some, None, refl, sym, ap, ◌∙◌, arith, drop-cons}
use Rattle.std.specs.Prelude.{not, option_map}
use Rattle.std.specs.BTreeMap.{IsEmpty}
use Rattle.std.specs.List.{position_from}
use Rattle.std.specs.Option.{option_or}
use Rattle.std.specs.Str.{bytes_eq}
use Rattle.std.proofs.lemmas.List.{drop_all, get_or-map, length-map}
use Rattle.bl_num.specs.declared.number.Width.{Width}
use Rattle.bl_format.specs.declared.catalogue.Catalogue.{Catalogue}
use Rattle.bl_format.specs.declared.layout.Leaf.{Leaf}
use Rattle.bl_format.specs.declared.layout.Shape.{Shape}
use Rattle.bl_format.specs.Layout.{NamedLeaf, HasLayout, no_leaf, leaf_of, leaves_of, named_leaves, name_of, member_count, shape_of, struct_name, first_fault, depth_fault, leaves_fault, layout_fault}
use Rattle.bl_format.proofs.CatalogueRead.{IsCatalogue-can_be_read}
use Rattle.bl_format.proofs.MemberPasses.{neither, first_fault-none}
use Rattle.bl_layout.proofs.CountLemmas.{leaf_count-small}
use Rattle.bl_plan.specs.declared.source_members.SourceMember.{SourceMember}
use Rattle.bl_plan.specs.declared.source_members.SourceElements.{SourceElements}
use Rattle.bl_plan.specs.Names.{Learns, number_for}
use Rattle.bl_plan.specs.SourcePlaces.{FirstLeaves, HasFirstLeaves, has_key, first_leaf, member_of_leaf, member_from, source_member, elements_by}
use Rattle.bl_plan.proofs.FirstPlaces.{first_place-passes}
use Rattle.bl_plan.proofs.LeafWays.{named_begin, first_member-begins}
use Rattle.bl_plan.proofs.MemberFound.{IsLaid}

-- ---- structs of a layout

-- a struct of a layout
pub laid : (c : Catalogue) (w : Width) (s : ℕ) → HasLayout c w → s < length c.structs → IsLaid c w s
unfolding layout_fault
laid c w s has within = record {
  no_fault = first_fault-none c w has.no_fault;
  deep = (neither (depth_fault c) (leaves_fault c w) (neither (first_fault c w) _ has.no_fault).1).0;
  within = within;
}

-- a struct has few leaves
pub few_leaves : (c : Catalogue) (w : Width) (s : ℕ) → HasLayout c w → s < length c.structs → length (named_leaves c w s) < 2 ^ 16
few_leaves c w s has within =
    leaf_count-small c w s (IsCatalogue-can_be_read c has.can_be_read) (first_fault-none c w has.no_fault) within

-- ---- leaves as the code has them

-- as many as by their names
pub length-leaves_of : (c : Catalogue) (w : Width) (s : ℕ) → length (leaves_of c w s) ≡ length (named_leaves c w s)
unfolding leaves_of
length-leaves_of c w s = length-map (named_leaves c w s) leaf_of

-- the member of a leaf
pub leaf-member : (c : Catalogue) (w : Width) (s i : ℕ) (leaves : List Leaf) (d : Leaf) → leaves ≡ leaves_of c w s → i < length leaves
    → (get_or leaves i d).member ≡ member_of_leaf c w s i
unfolding leaves_of
leaf-member c w s i leaves d are lt =
    ap (λ ls. (get_or ls i d).member) are
    ∙ ap (λ (l : Leaf). l.member)
    (get_or-map leaf_of (named_leaves c w s) i no_leaf d (omega (arith, lt, ap length are, length-map (named_leaves c w s) leaf_of)))

-- is one of its struct's
pub member-below : (c : Catalogue) (w : Width) (s i : ℕ) → i < length (named_leaves c w s) → member_of_leaf c w s i < member_count c s
member-below c w s i lt =
    let leaf = named_begin c w s i no_leaf lt in
    omega (arith, leaf.below, first_member-begins c s leaf.member (get_or (named_leaves c w s) i no_leaf) leaf.begins)

-- and so it is of a leaf as the code has it
pub leaf-below : (c : Catalogue) (w : Width) (s i : ℕ) (leaves : List Leaf) (d : Leaf) → leaves ≡ leaves_of c w s → i < length leaves
    → (get_or leaves i d).member < member_count c s
leaf-below c w s i leaves d are lt =
    let few : i < length (named_leaves c w s) = omega (arith, lt, ap length are, length-leaves_of c w s) in
    omega (arith, leaf-member c w s i leaves d are lt, member-below c w s i few)

-- the first leaf of a key is one of the struct's
pub first_leaf-within : (c : Catalogue) (w : Width) (s i : ℕ) (key : List ℕ) (leaves : List Leaf) → leaves ≡ leaves_of c w s
    → first_leaf c w s key ≡ Some i → i < length leaves
first_leaf-within c w s i key leaves are found =
    omega (arith, (first_place-passes (has_key c s key) (named_leaves c w s) i found).within, ap length are, length-leaves_of c w s)

-- the member that begins with it, by its shape
pub source_member-found : (c : Catalogue) (w : Width) (s k first : ℕ) (key : List ℕ) (shape : Shape) → first_leaf c w s key ≡ Some first
    → k ≡ member_of_leaf c w s first → shape ≡ shape_of c w s k
    → Some (record { first = first; count = shape.count; inner = shape.inner }) ≡ source_member c w s key
unfolding shape_of source_member
source_member-found c w s k first key shape found member is =
    let as_member : Shape → SourceMember = λ h. record { first = first; count = h.count; inner = h.inner } in
    ap (λ h. Some (as_member h)) (is ∙ ap (shape_of c w s) member)
    ∙ sym (ap (option_map (member_from c w s)) found)

-- the elements of a struct by value, if it has the name
pub elements-found : (c : Catalogue) (w : Width) (name : List ℕ) (x : SourceMember) (s n : ℕ) → bytes_eq (struct_name c s) name ≡ true
    → n ≡ length (named_leaves c w s)
    → Some (record { s = s; first = x.first; leaves = n; count = x.count }) ≡ elements_by c w name x s
elements-found c w name x s n named leaves =
    let with_leaves : ℕ → SourceElements = λ m. record { s = s; first = x.first; leaves = m; count = x.count } in
    ap (λ m. Some (with_leaves m)) leaves ∙ sym (ap (λ b. cond b (Some (with_leaves (length (named_leaves c w s)))) None) named)

-- a text that doesn't differ from another
pub not_other : (b : Bool) → not b ≡ false → b ≡ true
not_other true e = refl
not_other false e = absurd (cc)

-- ---- what is gathered

-- what a table has and what the leaves from place i on have is what all leaves have
abbrev pub HasFirstBelow : Catalogue → Width → ℕ → ℕ → FirstLeaves → Type 0
HasFirstBelow c w s i table =
    (key : List ℕ) → option_or (number_for table key) (position_from (has_key c s key) i (drop i (named_leaves c w s))) ≡ first_leaf c w s key

or_none : {X : Type 0} (o : Option X) → option_or o None ≡ o
or_none None = refl
or_none (Some x) = refl

or_more : {X : Type 0} (o : Option X) (b : Bool) (x : X) (rest : Option X)
    → option_or (option_or o (cond b (Some x) None)) rest ≡ option_or o (cond b (Some x) rest)
or_more None true x rest = refl
or_more None false x rest = refl
or_more (Some y) b x rest = refl

-- at the start there is nothing
pub first_none : (c : Catalogue) (w : Width) (s : ℕ) (table : FirstLeaves) → IsEmpty table → HasFirstBelow c w s 0 table
first_none c w s table empty key =
    ap (λ o. option_or o (position_from (has_key c s key) 0 (named_leaves c w s))) (none_for table empty)
  where
    none_for : (m : FirstLeaves) → IsEmpty m → number_for m key ≡ None
    none_for m empty = rw empty refl

-- one leaf more
pub first_more : (c : Catalogue) (w : Width) (s i : ℕ) (old new : FirstLeaves) (own : List ℕ) → i < length (named_leaves c w s)
    → own ≡ (name_of c s (member_of_leaf c w s i)).key → Learns old new own i
    → HasFirstBelow c w s i old → HasFirstBelow c w s (i + 1) new
first_more c w s i old new own lt is learns so_far key =
    let xs : List NamedLeaf = named_leaves c w s in
    let rest = position_from (has_key c s key) (i + 1) (drop (i + 1) xs) in
    let next : suc i ≡ i + 1 = omega arith in
    let split : drop i xs ≡ get_or xs i no_leaf ∷ drop (i + 1) xs =
    drop-cons xs i no_leaf lt ∙ ap (λ n. get_or xs i no_leaf ∷ drop n xs) next in
    ap (λ o. option_or o rest) (learns key)
    ∙ ap (λ (x : List ℕ). option_or (option_or (number_for old key) (cond (bytes_eq x key) (Some i) None)) rest) is
    ∙ or_more (number_for old key) (has_key c s key (get_or xs i no_leaf)) i rest
    ∙ ap (λ ys. option_or (number_for old key) (position_from (has_key c s key) i ys)) (sym split) ∙ so_far key

-- after all leaves
pub first_all : (c : Catalogue) (w : Width) (s i : ℕ) (table : FirstLeaves) → length (named_leaves c w s) ≤ i
    → HasFirstBelow c w s i table → HasFirstLeaves c w s table
first_all c w s i table le so_far key =
    sym (or_none (number_for table key))
    ∙ ap (λ ys. option_or (number_for table key) (position_from (has_key c s key) i ys)) (sym (drop_all i (named_leaves c w s) le))
    ∙ so_far key
