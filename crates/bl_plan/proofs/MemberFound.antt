-- The member of a key among those with leaves: where its leaves stand among all of its struct, and that the leaves
-- that a leaf of a member of that key may meet are its own.
use Rattle.std.proofs.Common.{◌≡◌, ℕ, suc, ◌+◌, ◌<◌, Bool, true, false, cond, All, List, [], ◌∷◌, length, get_or, Option, Some, None, refl, sym, ap, subst, ◌∙◌, arith}
use Rattle.std.specs.Prelude.{◌==◌, flat_map, option_map}
use Rattle.std.specs.Str.{bytes_eq}
use Rattle.std.proofs.lemmas.Bool.{false_from_ne_true}
use Rattle.std.proofs.lemmas.List.Elements.{All-head}
use Rattle.std.proofs.lemmas.Slice.Eq.{bytes_eq-Decides}
use Rattle.bl_num.specs.declared.number.Width.{Width}
use Rattle.bl_format.specs.declared.catalogue.Catalogue.{Catalogue}
use Rattle.bl_format.specs.Words.{numbers_below, first_place}
use Rattle.bl_format.specs.Layout.{NamedLeaf, no_leaf, name_of, member_count, member_size, inner_struct, leaves_by, member_leaves, named_leaves, first_member, first_fault, depth_fault}
use Rattle.bl_selection.specs.Fate.{ways_meet}
use Rattle.bl_layout.proofs.UnfoldLemmas.{named_leaves-members}
use Rattle.bl_plan.specs.declared.source_members.SourceMember.{SourceMember}
use Rattle.bl_plan.specs.SourcePlaces.{source_place, has_key, first_leaf, member_of_leaf, member_from, source_member}
use Rattle.bl_plan.proofs.FirstPlaces.{PassesOnlyIn, first_place-cons, first_place-passes, first_place-none, first_place-among, none-passes, fails_too}
use Rattle.bl_plan.proofs.LeafWays.{Begins, IsLeafOf, member_begins, named_begin, first_member-begins, keys_differ, meet-keys}

-- the leaves of member k of a struct
abbrev pub leaves_in : Catalogue → Width → ℕ → ℕ → List NamedLeaf
leaves_in c w s k = member_leaves (named_leaves c w) c w s k

-- how many leaves stand before those of member k
abbrev pub leaves_before : Catalogue → Width → ℕ → ℕ → ℕ
leaves_before c w s k = length (flat_map (leaves_in c w s) (numbers_below k))

-- what is known of a struct of a layout: its leaves are those of its members, and these have keys of their own
pub record IsLaid (c : Catalogue) (w : Width) (s : ℕ) : Type 0 where
  pub no_fault : first_fault c w ≡ None
  pub deep : depth_fault c ≡ None
  pub within : s < length c.structs

-- a member that has leaves isn't empty: they are those of the struct that it is by value, or its own one
pub leaves_in-inner : (c : Catalogue) (w : Width) (s k : ℕ) → 0 < length (leaves_in c w s k)
    → leaves_in c w s k ≡ leaves_by (named_leaves c w) c w s k (inner_struct c s k)
unfolding member_leaves
leaves_in-inner c w s k some = by (member_size c w s k == 0) some
  where
    by : (b : Bool) → 0 < length (cond b [] (leaves_by (named_leaves c w) c w s k (inner_struct c s k)))
        → cond b [] (leaves_by (named_leaves c w) c w s k (inner_struct c s k)) ≡ leaves_by (named_leaves c w) c w s k (inner_struct c s k)
    by true some = absurd (omega (arith, some))
    by false some = refl

-- ---- the member of a key

-- a member of the source is that of a key, and where its leaves stand
pub record StandsIn (c : Catalogue) (w : Width) (s : ℕ) (key : List ℕ) (x : SourceMember) : Type 0 where
  pub member : ℕ
  pub below : member < member_count c s
  pub key_is : (name_of c s member).key ≡ key
  pub first_is : x.first ≡ leaves_before c w s member
  pub some : 0 < length (leaves_in c w s member)
  pub inner_is : x.inner ≡ inner_struct c s member
  pub count_is : x.count ≡ (name_of c s member).count

-- where all elements of a list pass, the first one is found
record FindsFirst (before a count : ℕ) : Type 0 where
  place : a ≡ before
  some : 0 < count

finds_first : {X : Type 0} (p : X → Bool) (xs : List X) (before a : ℕ) → All (λ x. p x ≡ true) xs
    → option_map (λ j. before + j) (first_place p xs) ≡ Some a → FindsFirst before a (length xs)
finds_first p [] before a all e = absurd (cc)
finds_first {X} p (x ∷ xs) before a all e =
    let first : Some (before + 0) ≡ Some a =
    sym (ap (option_map (λ j. before + j)) (first_place-cons p x xs
    ∙ ap (λ b. cond b (Some 0) (option_map (λ j. suc j) (first_place p xs))) (All-head (λ (y : X). p y ≡ true) x xs all))) ∙ e in
    let same : before + 0 ≡ a = cc in
    record { place = omega (arith, same); some = omega arith }

-- a key is that of one member alone
one_key : (c : Catalogue) (w : Width) (s k : ℕ) → first_fault c w ≡ None → k < member_count c s
    → PassesOnlyIn (has_key c s (name_of c s k).key) (leaves_in c w s) (member_count c s) k
one_key c w s k no_fault below i lt other z d within =
    let x : NamedLeaf = get_or (leaves_in c w s i) z d in
    false_from_ne_true (has_key c s (name_of c s k).key x)
    (λ same. keys_differ c w s i k no_fault lt below other
    (ap (λ m. (name_of c s m).key) (sym (first_member-begins c s i x (member_begins (named_leaves c w) c w s i z d within)))
    ∙ (bytes_eq-Decides (name_of c s (first_member x.way)).key (name_of c s k).key).0 same))

all_of_key : (c : Catalogue) (w : Width) (s k : ℕ) → All (λ x. has_key c s (name_of c s k).key x ≡ true) (leaves_in c w s k)
all_of_key c w s k z d within =
    let x : NamedLeaf = get_or (leaves_in c w s k) z d in
    (bytes_eq-Decides (name_of c s (first_member x.way)).key (name_of c s k).key).1
    (ap (λ m. (name_of c s m).key) (first_member-begins c s k x (member_begins (named_leaves c w) c w s k z d within)))

-- the member of a leaf that is the first one of a key
member_from-stands : (c : Catalogue) (w : Width) (s a : ℕ) (key : List ℕ) → IsLaid c w s → first_leaf c w s key ≡ Some a
    → StandsIn c w s key (member_from c w s a)
member_from-stands c w s a key laid found =
    let x : NamedLeaf = get_or (named_leaves c w s) a no_leaf in
    let h = first_place-passes (has_key c s key) (named_leaves c w s) a found in
    let leaf : IsLeafOf c s x = named_begin c w s a no_leaf h.within in
    let at : member_of_leaf c w s a ≡ leaf.member = first_member-begins c s leaf.member x leaf.begins in
    let k : ℕ = member_of_leaf c w s a in
    let below : k < member_count c s = omega (arith, at, leaf.below) in
    let key_is : (name_of c s k).key ≡ key = (bytes_eq-Decides (name_of c s k).key key).0 (h.passes no_leaf) in
    let there : first_place (has_key c s (name_of c s k).key) (flat_map (leaves_in c w s) (numbers_below (member_count c s))) ≡ Some a =
    (λ i. first_place (has_key c s (key_is i)) (sym (named_leaves-members c w s laid.no_fault laid.deep laid.within) i)) ∙ found in
    let first = finds_first (has_key c s (name_of c s k).key) (leaves_in c w s k) (leaves_before c w s k) a (all_of_key c w s k)
    (sym (first_place-among (has_key c s (name_of c s k).key) (leaves_in c w s) (member_count c s) k below (one_key c w s k laid.no_fault below)) ∙ there) in
    record {
      member = k;
      below = below;
      key_is = key_is;
      first_is = first.place;
      some = first.some;
      inner_is = refl;
      count_is = refl;
    }

-- the member that is found for a key
pub source_member-stands : (c : Catalogue) (w : Width) (s : ℕ) (key : List ℕ) (x : SourceMember) → IsLaid c w s
    → source_member c w s key ≡ Some x → StandsIn c w s key x
unfolding source_member
source_member-stands c w s key x laid found = by (first_leaf c w s key) refl found
  where
    by : (o : Option ℕ) → first_leaf c w s key ≡ o → option_map (member_from c w s) o ≡ Some x → StandsIn c w s key x
    by None e found = absurd (cc)
    by (Some a) e found =
        let same : member_from c w s a ≡ x = cc in
        subst (StandsIn c w s key) same (member_from-stands c w s a key laid e)

-- ---- what a leaf of a member of that key meets

-- leaf y stands behind a member of a key
pub record HasKey (key : List ℕ) (y : NamedLeaf) : Type 0 where
  pub catalogue : Catalogue
  pub s : ℕ
  pub member : ℕ
  pub begins : Begins catalogue s member y
  pub key_is : (name_of catalogue s member).key ≡ key

-- a leaf that such a leaf meets has the key
meets-key : (c : Catalogue) (s k : ℕ) (key : List ℕ) (x y : NamedLeaf) → Begins c s k x → HasKey key y
    → ways_meet x.way y.way ≡ true → has_key c s key x ≡ true
meets-key c s k key x y begins has meet =
    (λ i. bytes_eq (name_of c s (first_member-begins c s k x begins i)).key (sym has.key_is i))
    ∙ meet-keys c has.catalogue s k has.s has.member x y begins has.begins meet

-- where no member with leaves has the key, it meets none
pub meets-none : (c : Catalogue) (w : Width) (s : ℕ) (key : List ℕ) (y : NamedLeaf) → HasKey key y
    → source_member c w s key ≡ None → source_place (named_leaves c w s) y ≡ None
unfolding source_member
meets-none c w s key y has none =
    let all = none-passes (has_key c s key) (named_leaves c w s) (nothing (first_leaf c w s key) none) in
    first_place-none (λ (x : NamedLeaf). ways_meet x.way y.way) (named_leaves c w s) (λ z d within.
    let x : NamedLeaf = get_or (named_leaves c w s) z d in
    let leaf = named_begin c w s z d within in
    fails_too (ways_meet x.way y.way) (has_key c s key x) (meets-key c s leaf.member key x y leaf.begins has) (all z d within))
  where
    nothing : (o : Option ℕ) → option_map (member_from c w s) o ≡ None → o ≡ None
    nothing None e = refl
    nothing (Some a) e = absurd (cc)

-- else it meets what it meets among the leaves of that member, behind all leaves before them
pub meets-member : (c : Catalogue) (w : Width) (s : ℕ) (key : List ℕ) (x : SourceMember) (y : NamedLeaf) → IsLaid c w s
    → (stands : StandsIn c w s key x) → HasKey key y
    → source_place (named_leaves c w s) y
    ≡ option_map (λ j. x.first + j) (source_place (leaves_by (named_leaves c w) c w s stands.member x.inner) y)
meets-member c w s key x y laid stands has =
    let meets : NamedLeaf → Bool = λ z. ways_meet z.way y.way in
    let k : ℕ = stands.member in
    let only : PassesOnlyIn meets (leaves_in c w s) (member_count c s) k = λ i lt other z d within. (
    let leaf : NamedLeaf = get_or (leaves_in c w s i) z d in
    let begins = member_begins (named_leaves c w) c w s i z d within in
    fails_too (meets leaf) (has_key c s (name_of c s k).key leaf)
    (λ meet. ap (λ q. has_key c s q leaf) stands.key_is ∙ meets-key c s i key leaf y begins has meet)
    (one_key c w s k laid.no_fault stands.below i lt other z d within)) in
    ap (λ xs. source_place xs y) (named_leaves-members c w s laid.no_fault laid.deep laid.within)
    ∙ first_place-among meets (leaves_in c w s) (member_count c s) k stands.below only
    ∙ (λ i. option_map (λ j. sym stands.first_is i + j) (source_place (leaves_in-inner c w s k stands.some i) y))
    ∙ ap (λ o. option_map (λ j. x.first + j) (source_place (leaves_by (named_leaves c w) c w s k o) y)) (sym stands.inner_is)
