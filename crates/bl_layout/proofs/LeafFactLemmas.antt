-- The leaves of a struct stand apart within its length, have the bytes of their kinds, and end at element 0.
use Rattle.std.proofs.Common.{◌≡◌, ℕ, All, List, [], ◌∷◌, map, Some, None, refl}
use Rattle.std.specs.Prelude.{option_map}
use Rattle.std.specs.List.{last_or}
use Rattle.std.proofs.lemmas.List.Elements.{All-map}
use Rattle.bl_num.specs.declared.number.Width.{Width}
use Rattle.bl_format.specs.declared.catalogue.Catalogue.{Catalogue}
use Rattle.bl_format.specs.declared.layout.Kind.{Kind}
use Rattle.bl_format.specs.declared.layout.Kind.TheVariants as kinds
use Rattle.bl_format.specs.declared.layout.PathStep.{PathStep}
use Rattle.bl_format.specs.declared.layout.Leaf.{Leaf}
use Rattle.bl_format.specs.Layout.{NamedLeaf, leaf_of, named_leaves, leaves_of, struct_length, layout_fault, HasLayout}
use Rattle.bl_format.proofs.MemberPasses.{first_fault-none}
use Rattle.bl_format.proofs.LeavesApart as named
use Rattle.bl_format.proofs.LeavesApart.{end_of_leaf}
use Rattle.bl_format.proofs.LeafKinds as sized
use Rattle.bl_format.proofs.LeafKinds.{HoldsOfOwn, named_leaves-hold, named_leaves-have_bytes, named_leaves-fit}
use Rattle.bl_layout.specs.LeafFacts.{AreApart, FitsKind, IsSized, EndsAtZero}

-- leaves by numbers stand where those by names do
AreApart-leaf_of : (from to : ℕ) (xs : List NamedLeaf) → named.AreApart from xs to → AreApart from (map leaf_of xs) to
AreApart-leaf_of from to [] h = h
AreApart-leaf_of from to (x ∷ xs) h = (h.0, AreApart-leaf_of (end_of_leaf x) to xs h.1)

-- the leaves of a struct stand apart within its length
pub leaves_of-apart : (c : Catalogue) (w : Width) (s : ℕ) → layout_fault c w ≡ None
    → AreApart 0 (leaves_of c w s) (struct_length c s)
unfolding leaves_of
leaves_of-apart c w s e =
    AreApart-leaf_of 0 (struct_length c s) (named_leaves c w s) (named.named_leaves-apart c w s (first_fault-none c w e))

FitsKind-same : (w : Width) (kind : Kind) (size : ℕ) → sized.FitsKind w kind size → FitsKind w kind size
FitsKind-same w (kinds.Whole whole) size h = h
FitsKind-same w (kinds.Bits n) size h = h
FitsKind-same w (kinds.Pointer depth t) size h = h
FitsKind-same w kinds.Opaque size h = h

-- each leaf of a struct has the bytes of its kind
pub leaves_of-sized : (c : Catalogue) (w : Width) (s : ℕ) → layout_fault c w ≡ None → All (IsSized w) (leaves_of c w s)
unfolding leaves_of
leaves_of-sized c w s e =
    All-map (IsSized w) leaf_of (named_leaves c w s)
    (λ j d lt.
    (let some = named_leaves-have_bytes c w s j d lt in
    let fits = named_leaves-fit c w s (first_fault-none c w e) j d lt in
    record { size = some.size; count = some.count; kind = FitsKind-same w _ _ fits }))

-- one step more before a way leaves its last step
last-behind : (step : PathStep) (steps : List PathStep)
    → option_map (λ (p : PathStep). p.element) (last_or None steps) ≡ Some 0
    → option_map (λ (p : PathStep). p.element) (last_or None (step ∷ steps)) ≡ Some 0
last-behind step [] h = absurd (cc)
last-behind step (p ∷ ps) h = h

-- each leaf of a struct ends at element 0
pub leaves_of-end : (c : Catalogue) (w : Width) (s : ℕ) → All EndsAtZero (leaves_of c w s)
unfolding leaves_of
leaves_of-end c w s =
    All-map EndsAtZero leaf_of (named_leaves c w s)
    (named_leaves-hold (λ x. EndsAtZero (leaf_of x)) c w s (record {
      behind = λ step by x h. last-behind (record { name_number = step.name_number; element = step.element }) (leaf_of x).steps h;
      own = λ s k lt some. refl;
    }))

-- ---- a list that is that of a struct's leaves

pub list-apart : (xs : List Leaf) (c : Catalogue) (w : Width) (s : ℕ)
    → HasLayout c w → xs ≡ leaves_of c w s → AreApart 0 xs (struct_length c s)
list-apart xs c w s has same = rw same (leaves_of-apart c w s has.no_fault)

pub list-sized : (xs : List Leaf) (c : Catalogue) (w : Width) (s : ℕ)
    → HasLayout c w → xs ≡ leaves_of c w s → All (IsSized w) xs
list-sized xs c w s has same = rw same (leaves_of-sized c w s has.no_fault)

pub list-end : (xs : List Leaf) (c : Catalogue) (w : Width) (s : ℕ)
    → xs ≡ leaves_of c w s → All EndsAtZero xs
list-end xs c w s same = rw same (leaves_of-end c w s)
