-- The leaves of a layout's structs can be read and written: they fit in the bytes of an element of their struct, those
-- that aren't opaque hold numbers, and no two overlap.
use Rattle.std.proofs.Common.{◌≡◌, ◌≢◌, ℕ, zero, suc, ◌≤◌, ◌<◌, All, List, [], ◌∷◌, None, length, refl, sym, ap, subst, arith, inl, inr, get_or}
use Rattle.std.specs.Prelude.{map, AllPairs}
use Rattle.std.proofs.lemmas.List.Elements.{All-nil, All-cons, All-map}
use Rattle.bl_num.specs.declared.number.Order.{Order}
use Rattle.bl_num.specs.declared.number.Width.{Width}
use Rattle.bl_num.specs.declared.number.Width.TheVariants.{Four, Eight}
use Rattle.bl_num.specs.Numbers.{IsWholeLength, number_of, number_meant, pointer_bytes}
use Rattle.bl_format.specs.declared.catalogue.Catalogue.{Catalogue}
use Rattle.bl_format.specs.declared.layout.Kind.{Kind}
use Rattle.bl_format.specs.declared.layout.Kind.TheVariants as kinds
use Rattle.bl_format.specs.declared.layout.Leaf.{Leaf}
use Rattle.bl_format.specs.Layout.{NamedLeaf, HasLayout, leaf_of, leaves_of, named_leaves, first_fault, struct_length}
use Rattle.bl_format.specs.Graph.{Number, Pattern, Points, Naming, leaf_bytes, leaf_value, value_by}
use Rattle.bl_format.proofs.MemberPasses.{first_fault-none}
use Rattle.bl_format.proofs.LeafBytes.{length-leaf_bytes}
use Rattle.bl_format.proofs.LeafKinds.{FitsKind, named_leaves-fit, named_leaves-have_bytes}
use Rattle.bl_format.proofs.LeavesApart.{AreApart, end_of_leaf, named_leaves-apart, named_leaves-within}
use Rattle.bl_members.specs.Leaf.{FitsIn, HoldsNumbers, StandsBefore, bytes_of_leaf, number_of_leaf, value_of_number}

-- the bytes of a leaf's element don't look at the names on the way to it
pub bytes_of_leaf-leaf_of : (x : NamedLeaf) (bytes : List ℕ) (k : ℕ)
    → bytes_of_leaf (leaf_of x) bytes k ≡ leaf_bytes x bytes k
bytes_of_leaf-leaf_of x bytes k = refl

-- a layout has no fault of a member
no_member_fault : (c : Catalogue) (w : Width) → HasLayout c w → first_fault c w ≡ None
no_member_fault c w has = first_fault-none c w has.no_fault

-- ---- each leaf

-- each leaf fits in the bytes of an element of its struct
pub leaves_of-fit_in : (c : Catalogue) (w : Width) (s : ℕ) → HasLayout c w
    → All (λ x. FitsIn x (struct_length c s)) (leaves_of c w s)
unfolding leaves_of
leaves_of-fit_in c w s has =
    All-map (λ x. FitsIn x (struct_length c s)) leaf_of (named_leaves c w s)
    (named_leaves-within c w s (no_member_fault c w has))

pointer_has_number : (w : Width) → IsWholeLength (pointer_bytes w)
pointer_has_number Four = inr (inr (inl refl))
pointer_has_number Eight = inr (inr (inr refl))

-- a size that a kind has is that of a number, but for opaque bytes
size_of_number : (w : Width) (kind : Kind) (size : ℕ) → FitsKind w kind size → kind ≢ kinds.Opaque → IsWholeLength size
size_of_number w (kinds.Whole whole) size fits some = fits.1
size_of_number w (kinds.Bits n) size fits some = elim fits.1 [ inl h ↦ inr (inr (inl h)) | inr h ↦ inr (inr (inr h)) ]
size_of_number w (kinds.Pointer depth t) size fits some = rw fits (pointer_has_number w)
size_of_number w kinds.Opaque size fits some = absurd (some refl)

-- each leaf that isn't opaque holds numbers
pub leaves_of-hold_numbers : (c : Catalogue) (w : Width) (s : ℕ) → HasLayout c w
    → All (λ x. x.kind ≢ kinds.Opaque → HoldsNumbers x) (leaves_of c w s)
unfolding leaves_of
leaves_of-hold_numbers c w s has =
    All-map (λ x. x.kind ≢ kinds.Opaque → HoldsNumbers x) leaf_of (named_leaves c w s)
    (λ i d lt some. size_of_number w _ _ (named_leaves-fit c w s (no_member_fault c w has) i d lt) some)

-- each leaf has elements, each of some bytes
pub leaves_of-have_bytes : (c : Catalogue) (w : Width) (s : ℕ)
    → All (λ x. (0 < x.size) × (0 < x.count)) (leaves_of c w s)
unfolding leaves_of
leaves_of-have_bytes c w s =
    All-map (λ x. (0 < x.size) × (0 < x.count)) leaf_of (named_leaves c w s)
    (λ i d lt. let has = named_leaves-have_bytes c w s i d lt in (has.size, has.count))

-- what a leaf meets in the bytes of an element of struct s
pub record IsUsable (c : Catalogue) (s : ℕ) (x : Leaf) : Type 0 where
  pub fits : FitsIn x (struct_length c s)
  pub size : 0 < x.size
  pub count : 0 < x.count
  pub number : x.kind ≢ kinds.Opaque → HoldsNumbers x

-- the leaf at a place among those of a struct
pub leaf_at-usable : (c : Catalogue) (w : Width) (s : ℕ) (leaves : List Leaf) (i : ℕ) (x : Leaf)
    → HasLayout c w → leaves ≡ leaves_of c w s → i < length leaves → x ≡ get_or leaves i x → IsUsable c s x
leaf_at-usable c w s leaves i x has are lt is =
    subst (IsUsable c s) (sym is) (record {
      fits = subst (All (λ y. FitsIn y (struct_length c s))) (sym are) (leaves_of-fit_in c w s has) i x lt;
      size = (subst (All (λ y. (0 < y.size) × (0 < y.count))) (sym are) (leaves_of-have_bytes c w s) i x lt).0;
      count = (subst (All (λ y. (0 < y.size) × (0 < y.count))) (sym are) (leaves_of-have_bytes c w s) i x lt).1;
      number = subst (All (λ y. y.kind ≢ kinds.Opaque → HoldsNumbers y)) (sym are) (leaves_of-hold_numbers c w s has) i x lt;
    })

-- ---- two leaves

later_begin : (from to : ℕ) (xs : List NamedLeaf)
    → AreApart from xs to → All (λ (y : Leaf). from ≤ y.offset) (map leaf_of xs)
later_begin from to [] h = All-nil (λ (y : Leaf). from ≤ y.offset)
later_begin from to (x ∷ xs) h =
    let later : All (λ (y : Leaf). end_of_leaf x ≤ y.offset) (map leaf_of xs) =
    later_begin (end_of_leaf x) to xs h.1 in
    All-cons (λ (y : Leaf). from ≤ y.offset) (leaf_of x) (map leaf_of xs) h.0 (λ i d lt. omega (arith, h.0, later i d lt))

pairs_apart : (from to : ℕ) (xs : List NamedLeaf)
    → AreApart from xs to → AllPairs StandsBefore (map leaf_of xs)
pairs_apart from to [] h i j d lt below = absurd (omega (arith, below))
pairs_apart from to (x ∷ xs) h i zero d lt below = absurd (omega (arith, lt))
pairs_apart from to (x ∷ xs) h zero (suc j) d lt below = later_begin (end_of_leaf x) to xs h.1 j d (omega (arith, below))
pairs_apart from to (x ∷ xs) h (suc i) (suc j) d lt below =
    pairs_apart (end_of_leaf x) to xs h.1 i j d (omega (arith, lt)) (omega (arith, below))

-- each leaf stands before those behind it
pub leaves_of-in_order : (c : Catalogue) (w : Width) (s : ℕ) → HasLayout c w → AllPairs StandsBefore (leaves_of c w s)
unfolding leaves_of
leaves_of-in_order c w s has =
    pairs_apart 0 (struct_length c s) (named_leaves c w s) (named_leaves-apart c w s (no_member_fault c w has))

-- ---- the values of a graph

value_by-number : {P : Type 0} (w : Width) (kind : Kind) (size : ℕ) (names : Naming P) (order : Order) (bytes : List ℕ)
    → FitsKind w kind size → kind ≢ kinds.Opaque → length bytes ≡ size
    → value_by kind names order bytes ≡ value_of_number kind names (number_of order size bytes)
value_by-number w (kinds.Whole whole) size names order bytes fits some len =
    ap (λ (n : ℕ). Number (number_meant whole (number_of order n bytes))) (sym fits.0)
value_by-number w (kinds.Bits n) size names order bytes fits some len =
    ap (λ (m : ℕ). Pattern (number_of order m bytes)) (sym fits.0)
value_by-number w (kinds.Pointer depth t) size names order bytes fits some len =
    ap (λ (n : ℕ). Points (names (number_of order n bytes))) len
value_by-number w kinds.Opaque size names order bytes fits some len = absurd (some refl)

-- the value of an element of a leaf is that of its number
pub leaf_value-number : {P : Type 0} (w : Width) (x : NamedLeaf) (names : Naming P) (order : Order) (bytes : List ℕ)
    (k : ℕ)
    → FitsKind w x.kind x.size → x.kind ≢ kinds.Opaque → length (leaf_bytes x bytes k) ≡ x.size
    → leaf_value names order bytes x k ≡ value_of_number x.kind names (number_of_leaf order (leaf_of x) bytes k)
unfolding leaf_value
leaf_value-number w x names order bytes k fits some len =
    value_by-number w x.kind x.size names order (leaf_bytes x bytes k) fits some len

-- so it is of each leaf of a struct, in the bytes of an element of it
pub named_leaves-numbers : {P : Type 0} (c : Catalogue) (w : Width) (s : ℕ) (names : Naming P) (order : Order)
    (bytes : List ℕ)
    → HasLayout c w → length bytes ≡ struct_length c s
    → All (λ x. x.kind ≢ kinds.Opaque → (k : ℕ) → k < x.count
    → leaf_value names order bytes x k ≡ value_of_number x.kind names (number_of_leaf order (leaf_of x) bytes k))
    (named_leaves c w s)
named_leaves-numbers c w s names order bytes has len i d lt some k below =
    let none = no_member_fault c w has in
    leaf_value-number w _ names order bytes k (named_leaves-fit c w s none i d lt) some
    (length-leaf_bytes c w s bytes none len i d lt k below)
