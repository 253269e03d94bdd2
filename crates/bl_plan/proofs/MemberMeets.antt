-- What the leaves of a member meet among those of its struct's namesake, by the member of its key there.
use Rattle.std.proofs.Common.{◌≡◌, ◌≢◌, ℕ, ◌+◌, ◌*◌, ◌≤◌, ◌<◌, Bool, true, false, cond, All, List, [], ◌∷◌, length, get_or, Option, Some, None, refl, sym, ap, subst, ◌∙◌, arith, eq-eqb, eqb-true}
use Rattle.std.specs.Prelude.{◌==◌, ◌&&◌, nat_lt, map, flat_map, option_map, replicate, is_none}
use Rattle.std.specs.Option.{option_and_then}
use Rattle.std.specs.Str.{bytes_eq}
use Rattle.std.proofs.lemmas.Bool.{false_from_ne_true, ltb-true, ltb-false}
use Rattle.std.proofs.lemmas.List.{length-map}
use Rattle.std.proofs.lemmas.List.Elements.{All-map}
use Rattle.std.proofs.lemmas.Slice.Eq.{bytes_eq-Decides}
use Rattle.bl_num.specs.declared.number.Width.{Width}
use Rattle.bl_format.specs.declared.catalogue.Catalogue.{Catalogue}
use Rattle.bl_format.specs.Words.{numbers_below, first_place}
use Rattle.bl_format.specs.Layout.{MemberStep, NamedLeaf, struct_name, name_of, member_offset, element_size, inner_struct, leaf_behind, member_step, own_leaf, inner_leaves, leaves_by, named_leaves}
use Rattle.bl_format.proofs.LeafKinds.{each_number}
use Rattle.bl_selection.specs.Fate.{ways_meet}
use Rattle.bl_plan.specs.declared.source_members.SourceMember.{SourceMember}
use Rattle.bl_plan.specs.declared.source_members.SourceElements.{SourceElements}
use Rattle.bl_plan.specs.SourcePlaces.{source_place, source_member, own_leaf_of, elements_by, elements_of, leaf_in, element_places}
use Rattle.bl_plan.proofs.FirstPlaces.{first_place-among, first_place-nowhere, first_place-map}
use Rattle.bl_plan.proofs.NumberedLists.{flat_map-same, map-flat_map, map-both, map-none, length-alike}
use Rattle.bl_plan.proofs.LeafWays.{IsLeafOf, named_begin, meet-behind, meet-own_inner, meet-inner_own, meet-other_names}
use Rattle.bl_plan.proofs.MemberFound.{IsLaid, StandsIn, HasKey, leaves_in, leaves_in-inner, source_member-stands, meets-none, meets-member}

-- the leaves of element e of a member
abbrev pub leaf_of_element : Catalogue → Width → ℕ → ℕ → ℕ → NamedLeaf → NamedLeaf
leaf_of_element c w s k e = leaf_behind (member_step c s k e) (member_offset c w s k + e * element_size c w s k)

-- how many leaves some elements have
pub length-elements : (inside : List NamedLeaf) (c : Catalogue) (w : Width) (s k n : ℕ)
    → length (flat_map (inner_leaves inside c w s k) (numbers_below n)) ≡ length inside * n
length-elements inside c w s k n =
    length-alike (inner_leaves inside c w s k) (length inside) n (λ e. length-map inside (leaf_of_element c w s k e))

-- ---- a leaf that stands directly in the struct

-- what such a leaf meets among the leaves of a member: the first, if that stands directly in its struct, too
own_meets : (c d : Catalogue) (v w : Width) (s j t k : ℕ) (o : Option ℕ)
    → struct_name c s ≡ struct_name d t → (name_of c s j).key ≡ (name_of d t k).key
    → source_place (leaves_by (named_leaves c v) c v s j o) (own_leaf d w t k) ≡ cond (is_none o) (Some 0) None
own_meets c d v w s j t k None name key =
    ap (λ b. cond b (Some 0) None) (meet-behind c d s j t k 0 0 [] [] name key)
own_meets c d v w s j t k (Some u) name key =
    first_place-nowhere (λ (x : NamedLeaf). ways_meet x.way (own_leaf d w t k).way) (inner_leaves (named_leaves c v u) c v s j) (name_of c s j).count
    (λ e lt. All-map (λ x. ways_meet x.way (own_leaf d w t k).way ≡ false) (leaf_of_element c v s j e) (named_leaves c v u)
    (λ i x below. (let leaf = named_begin c v u i x below in
    meet-inner_own (member_step c s j e) (member_step d t k 0) c u leaf.member (get_or (named_leaves c v u) i x) leaf.begins)))

own_found : (x : SourceMember) (o : Option ℕ) → x.inner ≡ o
    → option_map (λ j. x.first + j) (cond (is_none o) (Some 0) None) ≡ cond (is_none o) (Some x.first) None
own_found x None is = let same : x.first + 0 ≡ x.first = omega arith in ap Some same
own_found x (Some u) is = refl

-- the member's one leaf meets the one leaf of the member of its key
pub own-meets : (c d : Catalogue) (v w : Width) (s t k : ℕ) → IsLaid c v s → struct_name c s ≡ struct_name d t
    → inner_struct d t k ≡ None → 0 < length (leaves_in d w t k)
    → map (source_place (named_leaves c v s)) (leaves_in d w t k)
    ≡ option_and_then own_leaf_of (source_member c v s (name_of d t k).key) ∷ []
own-meets c d v w s t k laid name is_own some =
    ap (map (source_place (named_leaves c v s))) (leaves_in-inner d w t k some ∙ ap (leaves_by (named_leaves d w) d w t k) is_own)
    ∙ ap (λ o. o ∷ []) (by (source_member c v s (name_of d t k).key) refl)
  where
    has : HasKey (name_of d t k).key (own_leaf d w t k)
    has = record { catalogue = d; s = t; member = k; begins = record { element = 0; steps = []; way_is = refl }; key_is = refl }

    by : (o : Option SourceMember) → source_member c v s (name_of d t k).key ≡ o
        → source_place (named_leaves c v s) (own_leaf d w t k) ≡ option_and_then own_leaf_of o
    by None is = meets-none c v s (name_of d t k).key (own_leaf d w t k) has is
    by (Some x) is =
        let stands = source_member-stands c v s (name_of d t k).key x laid is in
        meets-member c v s (name_of d t k).key x (own_leaf d w t k) laid stands has
        ∙ ap (option_map (λ j. x.first + j)) (own_meets c d v w s stands.member t k x.inner name stands.key_is)
        ∙ own_found x x.inner refl

-- ---- a leaf within an element of a struct by value

inner_has : (d : Catalogue) (w : Width) (t k e : ℕ) (y : NamedLeaf) → HasKey (name_of d t k).key (leaf_of_element d w t k e y)
inner_has d w t k e y =
    record { catalogue = d; s = t; member = k; begins = record { element = e; steps = y.way; way_is = refl }; key_is = refl }

-- it meets none where the other member isn't the struct of that name by value
other_meets : (c d : Catalogue) (v w : Width) (s j t k e f g : ℕ) (y : NamedLeaf) (x : SourceMember) → IsLeafOf d f y
    → option_and_then (elements_by c v (struct_name d f) x) x.inner ≡ None
    → source_place (leaves_by (named_leaves c v) c v s j x.inner) (leaf_of_element d w t k e y) ≡ None
other_meets c d v w s j t k e f g y x leaf apart = by x.inner apart
  where
    way : List MemberStep
    way = (leaf_of_element d w t k e y).way

    differ : (u : ℕ) → (b : Bool) → bytes_eq (struct_name c u) (struct_name d f) ≡ b
        → cond {A = Option SourceElements} b (Some (record { s = u; first = x.first; leaves = length (named_leaves c v u); count = x.count })) None ≡ None
        → bytes_eq (struct_name c u) (struct_name d f) ≡ false
    differ u true is none = absurd (cc)
    differ u false is none = is

    by : (o : Option ℕ) → option_and_then (elements_by c v (struct_name d f) x) o ≡ None
        → source_place (leaves_by (named_leaves c v) c v s j o) (leaf_of_element d w t k e y) ≡ None
    by None apart =
        ap (λ b. cond b (Some 0) None) (meet-own_inner (member_step c s j 0) (member_step d t k e) d f leaf.member y leaf.begins)
    by (Some u) apart =
        first_place-nowhere (λ (z : NamedLeaf). ways_meet z.way way) (inner_leaves (named_leaves c v u) c v s j) (name_of c s j).count
        (λ i lt. All-map (λ z. ways_meet z.way way ≡ false) (leaf_of_element c v s j i) (named_leaves c v u)
        (λ n z below. (let first = named_begin c v u n z below in
        meet-other_names (member_step c s j i) (member_step d t k e) c d u first.member f leaf.member (get_or (named_leaves c v u) n z) y first.begins leaf.begins
        (differ u (bytes_eq (struct_name c u) (struct_name d f)) refl apart))))

-- so the leaves of such a member meet none
pub other-meets : (c d : Catalogue) (v w : Width) (s t k f : ℕ) → IsLaid c v s
    → inner_struct d t k ≡ Some f → 0 < length (leaves_in d w t k)
    → option_and_then (elements_of c v (struct_name d f)) (source_member c v s (name_of d t k).key) ≡ None
    → map (source_place (named_leaves c v s)) (leaves_in d w t k) ≡ replicate (length (named_leaves d w f) * (name_of d t k).count) None
other-meets c d v w s t k f laid is_inner some apart =
    let inside : List NamedLeaf = named_leaves d w f in
    let n : ℕ = (name_of d t k).count in
    let leaves : List NamedLeaf = flat_map (inner_leaves inside d w t k) (numbers_below n) in
    ap (map (source_place (named_leaves c v s))) (leaves_in-inner d w t k some ∙ ap (leaves_by (named_leaves d w) d w t k) is_inner)
    ∙ map-none (source_place (named_leaves c v s)) leaves
    (each_number (λ y. source_place (named_leaves c v s) y ≡ None) (inner_leaves inside d w t k) n
    (λ e lt. All-map (λ y. source_place (named_leaves c v s) y ≡ None) (leaf_of_element d w t k e) inside
    (λ i y below. one e (get_or inside i y) (named_begin d w f i y below))))
    ∙ ap (λ m. replicate m None) (length-elements inside d w t k n)
  where
    key : List ℕ
    key = (name_of d t k).key

    one : (e : ℕ) (y : NamedLeaf) → IsLeafOf d f y → source_place (named_leaves c v s) (leaf_of_element d w t k e y) ≡ None
    one e y leaf = by (source_member c v s key) refl apart
      where
        by : (o : Option SourceMember) → source_member c v s key ≡ o → option_and_then (elements_of c v (struct_name d f)) o ≡ None
            → source_place (named_leaves c v s) (leaf_of_element d w t k e y) ≡ None
        by None is apart = meets-none c v s key (leaf_of_element d w t k e y) (inner_has d w t k e y) is
        by (Some x) is apart =
            let stands = source_member-stands c v s key x laid is in
            meets-member c v s key x (leaf_of_element d w t k e y) laid stands (inner_has d w t k e y)
            ∙ ap (option_map (λ j. x.first + j)) (other_meets c d v w s stands.member t k e f 0 y x leaf apart)

-- ---- a leaf within an element of the struct of one name

-- a leaf of element e meets what it meets inside the struct, in element e, if the member has that
element_meets : (c d : Catalogue) (v w : Width) (s j t k e n : ℕ) (inside : List NamedLeaf) (y : NamedLeaf)
    → struct_name c s ≡ struct_name d t → (name_of c s j).key ≡ (name_of d t k).key
    → source_place (flat_map (inner_leaves inside c v s j) (numbers_below n)) (leaf_of_element d w t k e y)
    ≡ cond (nat_lt e n) (option_map (λ p. length inside * e + p) (source_place inside y)) None
element_meets c d v w s j t k e n inside y name key = by (nat_lt e n) refl
  where
    meets : NamedLeaf → Bool
    meets x = ways_meet x.way (leaf_of_element d w t k e y).way

    meets_at : (i : ℕ) (x : NamedLeaf) → meets (leaf_of_element c v s j i x) ≡ ((i == e) && ways_meet x.way y.way)
    meets_at i x = meet-behind c d s j t k i e x.way y.way name key

    elsewhere : (i : ℕ) → i ≢ e → All (λ x. meets x ≡ false) (inner_leaves inside c v s j i)
    elsewhere i other = All-map (λ x. meets x ≡ false) (leaf_of_element c v s j i) inside (λ m x below.
        meets_at i (get_or inside m x)
        ∙ ap (λ b. b && ways_meet (get_or inside m x).way y.way) (false_from_ne_true (i == e) (λ same. other (eqb-true i e same))))

    here : first_place meets (inner_leaves inside c v s j e) ≡ source_place inside y
    here = first_place-map meets (λ (x : NamedLeaf). ways_meet x.way y.way) (leaf_of_element c v s j e) inside (λ x.
        meets_at e x ∙ ap (λ b. b && ways_meet x.way y.way) (eq-eqb e e refl))

    by : (b : Bool) → nat_lt e n ≡ b
        → first_place meets (flat_map (inner_leaves inside c v s j) (numbers_below n))
        ≡ cond b (option_map (λ p. length inside * e + p) (source_place inside y)) None
    by true is =
        first_place-among meets (inner_leaves inside c v s j) n e (ltb-true e n is) (λ i lt other. elsewhere i other)
        ∙ (λ i. option_map (λ p. length-elements inside c v s j e i + p) (here i))
    by false is =
        let most : n ≤ e = ltb-false e n is in
        first_place-nowhere meets (inner_leaves inside c v s j) n (λ i lt. elsewhere i (λ same. omega (arith, same, lt, most)))

-- in terms of the elements of the source
in_element : (x : SourceElements) (e : ℕ) (o : Option ℕ)
    → option_map (λ j. x.first + j) (cond (nat_lt e x.count) (option_map (λ p. x.leaves * e + p) o) None)
    ≡ option_and_then (leaf_in x e) o
in_element x e o = by (nat_lt e x.count) o
  where
    by : (b : Bool) (o : Option ℕ)
        → option_map (λ j. x.first + j) (cond b (option_map (λ p. x.leaves * e + p) o) None)
        ≡ option_and_then (λ p. cond b (Some (x.first + e * x.leaves + p)) None) o
    by true None = refl
    by true (Some p) = let same : x.first + (x.leaves * e + p) ≡ x.first + e * x.leaves + p = omega arith in ap Some same
    by false None = refl
    by false (Some p) = refl

-- some elements are those of a source member that is a struct of a name by value
pub record AreOf (c : Catalogue) (v : Width) (name : List ℕ) (x : SourceMember) (m : SourceElements) : Type 0 where
  pub inner_is : x.inner ≡ Some m.s
  pub name_is : struct_name c m.s ≡ name
  pub first_is : x.first ≡ m.first
  pub count_is : x.count ≡ m.count
  pub leaves_are : length (named_leaves c v m.s) ≡ m.leaves

are_of : (c : Catalogue) (v : Width) (name : List ℕ) (x : SourceMember) (m : SourceElements)
    → elements_of c v name x ≡ Some m → AreOf c v name x m
are_of c v name x m found = by x.inner refl found
  where
    by_name : (u : ℕ) → x.inner ≡ Some u → (b : Bool) → bytes_eq (struct_name c u) name ≡ b
        → cond b (Some (record { s = u; first = x.first; leaves = length (named_leaves c v u); count = x.count })) None ≡ Some m
        → AreOf c v name x m
    by_name u inner true is found =
        let own : SourceElements = record { s = u; first = x.first; leaves = length (named_leaves c v u); count = x.count } in
        let same : own ≡ m = cc in
        subst (AreOf c v name x) same (record {
          inner_is = inner;
          name_is = (bytes_eq-Decides (struct_name c u) name).0 is;
          first_is = refl;
          count_is = refl;
          leaves_are = refl;
        })
    by_name u inner false is found = absurd (cc)

    by : (o : Option ℕ) → x.inner ≡ o → option_and_then (elements_by c v name x) o ≡ Some m → AreOf c v name x m
    by None inner found = absurd (cc)
    by (Some u) inner found = by_name u inner (bytes_eq (struct_name c u) name) refl found

-- the member of a key and its elements
pub record Met (c : Catalogue) (v : Width) (s : ℕ) (key name : List ℕ) (m : SourceElements) : Type 0 where
  pub source : SourceMember
  pub found : source_member c v s key ≡ Some source
  pub elements : AreOf c v name source m

pub met : (c : Catalogue) (v : Width) (s : ℕ) (key name : List ℕ) (m : SourceElements)
    → option_and_then (elements_of c v name) (source_member c v s key) ≡ Some m → Met c v s key name m
met c v s key name m found = by (source_member c v s key) refl found
  where
    by : (o : Option SourceMember) → source_member c v s key ≡ o → option_and_then (elements_of c v name) o ≡ Some m → Met c v s key name m
    by None is found = absurd (cc)
    by (Some x) is found = record { source = x; found = is; elements = are_of c v name x m found }

-- the leaves of a member meet, element by element, what those inside meet inside
pub inner-meets : (c d : Catalogue) (v w : Width) (s t k f : ℕ) (m : SourceElements) → IsLaid c v s → struct_name c s ≡ struct_name d t
    → inner_struct d t k ≡ Some f → 0 < length (leaves_in d w t k)
    → option_and_then (elements_of c v (struct_name d f)) (source_member c v s (name_of d t k).key) ≡ Some m
    → map (source_place (named_leaves c v s)) (leaves_in d w t k)
    ≡ flat_map (element_places m (map (source_place (named_leaves c v m.s)) (named_leaves d w f))) (numbers_below (name_of d t k).count)
inner-meets c d v w s t k f m laid name is_inner some are =
    let n : ℕ = (name_of d t k).count in
    ap (map (source_place (named_leaves c v s))) (leaves_in-inner d w t k some ∙ ap (leaves_by (named_leaves d w) d w t k) is_inner)
    ∙ map-flat_map (source_place (named_leaves c v s)) (inner_leaves (named_leaves d w f) d w t k) (numbers_below n)
    ∙ flat_map-same (λ e. map (source_place (named_leaves c v s)) (inner_leaves (named_leaves d w f) d w t k e))
    (element_places m (map (source_place (named_leaves c v m.s)) (named_leaves d w f))) (numbers_below n)
    (λ e. map-both (IsLeafOf d f) (source_place (named_leaves c v s)) (leaf_of_element d w t k e)
    (option_and_then (leaf_in m e)) (source_place (named_leaves c v m.s)) (named_leaves d w f) (named_begin d w f) (λ y leaf. one e y))
  where
    key : List ℕ
    key = (name_of d t k).key

    h : Met c v s key (struct_name d f) m
    h = met c v s key (struct_name d f) m are

    x : SourceMember
    x = h.source

    stands : StandsIn c v s key x
    stands = source_member-stands c v s key x laid h.found

    one : (e : ℕ) (y : NamedLeaf)
        → source_place (named_leaves c v s) (leaf_of_element d w t k e y) ≡ option_and_then (leaf_in m e) (source_place (named_leaves c v m.s) y)
    one e y =
        let o : Option ℕ = source_place (named_leaves c v m.s) y in
        meets-member c v s key x (leaf_of_element d w t k e y) laid stands (inner_has d w t k e y)
        ∙ ap (λ i. option_map (λ j. x.first + j) (source_place (leaves_by (named_leaves c v) c v s stands.member i) (leaf_of_element d w t k e y))) h.elements.inner_is
        ∙ ap (option_map (λ j. x.first + j)) (element_meets c d v w s stands.member t k e (name_of c s stands.member).count (named_leaves c v m.s) y name stands.key_is)
        ∙ (λ i. option_map (λ j. h.elements.first_is i + j) (cond (nat_lt e ((sym stands.count_is ∙ h.elements.count_is) i)) (option_map (λ p. h.elements.leaves_are i * e + p) o) None))
        ∙ in_element m e o
