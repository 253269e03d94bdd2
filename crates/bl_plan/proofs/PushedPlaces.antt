-- What the code knows at each member: the member of its key under the other catalogue, and how much room the leaves
-- of both have.
use Rattle.std.proofs.Common.{◌≡◌, ◌<◌, ◌≤◌, ◌+◌, ◌*◌, ℕ, All, List, length, get_or, Option, Some, None, refl, sym, ap, subst, ◌∙◌, arith}
use Rattle.std.specs.Prelude.{IfSome, map}
use Rattle.std.specs.Option.{option_and_then}
use Rattle.std.proofs.lemmas.List.Elements.{All-map}
use Rattle.bl_num.specs.declared.number.Width.{Width}
use Rattle.bl_format.specs.declared.catalogue.Catalogue.{Catalogue}
use Rattle.bl_format.specs.declared.layout.Shape.{Shape}
use Rattle.bl_format.specs.Layout.{NamedLeaf, struct_name, name_of, member_count, inner_struct, shape_of, leaves_by, named_leaves}
use Rattle.bl_layout.proofs.UnfoldLemmas.{named_leaves-members, inner-within}
use Rattle.bl_plan.specs.declared.source_members.SourceMember.{SourceMember}
use Rattle.bl_plan.specs.declared.source_members.SourceElements.{SourceElements}
use Rattle.bl_plan.specs.SourcePlaces.{source_place, source_member, elements_of}
use Rattle.bl_plan.proofs.SourcePlaceFacts.{source_place-within}
use Rattle.bl_plan.proofs.NumberedLists.{length-up_to}
use Rattle.bl_plan.proofs.MemberFound.{IsLaid, StandsIn, leaves_in, leaves_in-inner, source_member-stands}
use Rattle.bl_plan.proofs.MemberMeets.{Met, met, length-elements}

-- ---- shapes

-- the struct that a member is by value, by its shape
pub shape-inner : (c : Catalogue) (w : Width) (s k : ℕ) (shape : Shape) (o : Option ℕ) → shape ≡ shape_of c w s k → shape.inner ≡ o
    → inner_struct c s k ≡ o
unfolding shape_of
shape-inner c w s k shape o is inner = sym (ap (λ (h : Shape). h.inner) is) ∙ inner

-- how many elements it has
pub shape-count : (c : Catalogue) (w : Width) (s k : ℕ) (shape : Shape) → shape ≡ shape_of c w s k → shape.count ≡ (name_of c s k).count
unfolding shape_of
shape-count c w s k shape is = ap (λ (h : Shape). h.count) is

-- where there is none of any number, there is none
pub none_left : (o : Option ℕ) → ((x : ℕ) → o ≡ Some x → ⊥) → o ≡ None
none_left None other = refl
none_left (Some x) other = absurd (other x refl)

-- ---- room

-- a member has no more leaves than its struct
pub length-member : (c : Catalogue) (w : Width) (s k : ℕ) → IsLaid c w s → k < member_count c s
    → length (leaves_in c w s k) ≤ length (named_leaves c w s)
length-member c w s k laid below =
    omega (arith, length-up_to (leaves_in c w s) k (member_count c s) below, ap length (named_leaves-members c w s laid.no_fault laid.deep laid.within))

-- nor have the elements of one that is a struct by value
pub length-inner : (c : Catalogue) (w : Width) (s k t : ℕ) → IsLaid c w s → k < member_count c s → 0 < length (leaves_in c w s k)
    → inner_struct c s k ≡ Some t → length (named_leaves c w t) * (name_of c s k).count ≤ length (named_leaves c w s)
length-inner c w s k t laid below some is =
    let all : length (leaves_in c w s k) ≡ length (named_leaves c w t) * (name_of c s k).count =
    ap length (leaves_in-inner c w s k some ∙ ap (leaves_by (named_leaves c w) c w s k) is)
    ∙ length-elements (named_leaves c w t) c w s k (name_of c s k).count in
    omega (arith, all, length-member c w s k laid below)

-- ---- the member of a key

-- the struct that it is by value is one of its catalogue
pub source_member-inner : (c : Catalogue) (w : Width) (s : ℕ) (key : List ℕ) (o : Option SourceMember) → IsLaid c w s
    → o ≡ source_member c w s key → IfSome o (λ x. IfSome x.inner (λ t. t < length c.structs))
source_member-inner c w s key None laid is = tt
source_member-inner c w s key (Some x) laid is = by x.inner (source_member-stands c w s key x laid (sym is)).inner_is
  where
    by : (o : Option ℕ) → o ≡ inner_struct c s (source_member-stands c w s key x laid (sym is)).member → IfSome o (λ t. t < length c.structs)
    by None inner = tt
    by (Some t) inner = inner-within c s (source_member-stands c w s key x laid (sym is)).member t (sym inner)

-- what is said of its elements, by the name and the member as the code has them
pub elements_said : (c : Catalogue) (w : Width) (name other : List ℕ) (o p : Option SourceMember) (found r : Option SourceElements)
    → found ≡ option_and_then (elements_of c w name) o → name ≡ other → o ≡ p → found ≡ r
    → option_and_then (elements_of c w other) p ≡ r
elements_said c w name other o p found r is names members result =
    (λ i. option_and_then (elements_of c w (sym names i)) (sym members i)) ∙ sym is ∙ result

-- what is known of the elements that are found
pub record AreMet (c : Catalogue) (w : Width) (s : ℕ) (name : List ℕ) (m : SourceElements) : Type 0 where
  pub within : m.s < length c.structs
  pub name_is : struct_name c m.s ≡ name
  pub leaves_are : length (named_leaves c w m.s) ≡ m.leaves
  pub near : m.first + m.count * m.leaves ≤ length (named_leaves c w s)

pub are_met : (c : Catalogue) (w : Width) (s : ℕ) (key name : List ℕ) (m : SourceElements) → IsLaid c w s
    → option_and_then (elements_of c w name) (source_member c w s key) ≡ Some m → AreMet c w s name m
are_met c w s key name m laid found =
    let h : Met c w s key name m = met c w s key name m found in
    let x : SourceMember = h.source in
    let stands : StandsIn c w s key x = source_member-stands c w s key x laid h.found in
    let k : ℕ = stands.member in
    let inner : inner_struct c s k ≡ Some m.s = sym stands.inner_is ∙ h.elements.inner_is in
    let all : length (leaves_in c w s k) ≡ length (named_leaves c w m.s) * (name_of c s k).count =
    ap length (leaves_in-inner c w s k stands.some ∙ ap (leaves_by (named_leaves c w) c w s k) inner)
    ∙ length-elements (named_leaves c w m.s) c w s k (name_of c s k).count in
    let counts : m.count ≡ (name_of c s k).count = sym h.elements.count_is ∙ stands.count_is in
    let same : m.count * m.leaves ≡ length (leaves_in c w s k) =
    (λ i. counts i * sym h.elements.leaves_are i) ∙ omega (arith, all) in
    record {
      within = inner-within c s k m.s inner;
      name_is = h.elements.name_is;
      leaves_are = h.elements.leaves_are;
      near = omega (
        arith,
        same,
        h.elements.first_is,
        stands.first_is,
        length-up_to (leaves_in c w s) k (member_count c s) stands.below,
        ap length (named_leaves-members c w s laid.no_fault laid.deep laid.within),
      );
    }

-- the places inside a struct are those of its leaves
pub found_within : (c : Catalogue) (w : Width) (s n : ℕ) (ys : List NamedLeaf) (found slice : List (Option ℕ))
    → found ≡ map (source_place (named_leaves c w s)) ys → slice ≡ found → length (named_leaves c w s) ≡ n
    → All (λ o. IfSome o (λ p. p < n)) slice
found_within c w s n ys found slice is same leaves =
    subst (λ os. All (λ o. IfSome o (λ p. p < n)) os) (sym (same ∙ is))
    (All-map (λ o. IfSome o (λ p. p < n)) (source_place (named_leaves c w s)) ys
    (λ i d below. subst (λ m. IfSome (source_place (named_leaves c w s) (get_or ys i d)) (λ p. p < m)) leaves (source_place-within (named_leaves c w s) (get_or ys i d))))
