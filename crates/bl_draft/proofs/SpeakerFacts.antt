-- What a target's leaves say can be heard at the source's leaves that they meet, in an element of the source's struct.
use Rattle.std.proofs.Common.{◌≡◌, ◌≢◌, ◌≤◌, ℕ, ◌+◌, ◌*◌, Bool, true, false, cond, List, [], ◌∷◌, Option, Some, None, refl, sym, ap, subst, ◌∙◌, arith, inl, inr, mul-le-mul_right}
use Rattle.std.specs.Prelude.{All, IfSome, min, slice_index_or, option_map, option_and_then}
use Rattle.std.specs.List.{find, cons_option}
use Rattle.std.proofs.Math.Nat.{min-le_left}
use Rattle.std.proofs.lemmas.List.Elements.{All-nil, All-cons, All-head, All-tail}
use Rattle.bl_num.specs.declared.number.Width.{Width}
use Rattle.bl_num.specs.declared.number.Width.TheVariants.{Four, Eight}
use Rattle.bl_num.specs.Numbers.{IsWholeLength, pointer_bytes}
use Rattle.bl_format.specs.declared.catalogue.Catalogue.{Catalogue}
use Rattle.bl_format.specs.declared.layout.Kind.{Kind}
use Rattle.bl_format.specs.declared.layout.Kind.TheVariants as kinds
use Rattle.bl_format.specs.declared.raw.RawKind.{RawKind}
use Rattle.bl_format.specs.declared.raw.RawKind.TheVariants.{Bytes, Pair}
use Rattle.bl_format.specs.Layout.{NamedLeaf, HasLayout, leaf_of, named_leaves, first_fault, struct_length}
use Rattle.bl_format.proofs.LeafKinds.{FitsKind, named_leaves-fit}
use Rattle.bl_format.proofs.LeavesApart.{named_leaves-within}
use Rattle.bl_format.proofs.MemberPasses.{first_fault-none}
use Rattle.bl_selection.specs.Fate.{ways_meet, source_leaf}
use Rattle.bl_file.specs.declared.speakers.Speaker.{Speaker}
use Rattle.bl_file.specs.Speakers.{IsHeard, said_by}
use Rattle.bl_file.specs.Views.{viewed_or_bytes}
use Rattle.bl_file.proofs.PairLemmas.{IsViewed, SaysNoPair, said_viewed}
use Rattle.bl_draft.specs.Speakers.{is_pointer, kept_speaker, met_speaker, met_speakers}

-- ---- leaves of pointers

-- elements of pointers are as long as one is
pub pointer_size : (w : Width) (kind : Kind) (size : ℕ) → FitsKind w kind size → is_pointer kind ≡ true → size ≡ pointer_bytes w
pointer_size w (kinds.Pointer depth t) size fits is = fits
pointer_size w (kinds.Whole whole) size fits is = absurd (cc)
pointer_size w (kinds.Bits n) size fits is = absurd (cc)
pointer_size w kinds.Opaque size fits is = absurd (cc)

pointer_has_number : (w : Width) → IsWholeLength (pointer_bytes w)
pointer_has_number Four = inr (inr (inl refl))
pointer_has_number Eight = inr (inr (inr refl))

-- a leaf stands in so many bytes, and its elements are as long as a number where they are pointers
record CanBeHeard (n : ℕ) (x : NamedLeaf) : Type 0 where
  pub fits : x.offset + x.size * x.count ≤ n
  pub number : is_pointer x.kind ≡ true → IsWholeLength x.size

leaves_can_be_heard : (c : Catalogue) (w : Width) (s : ℕ) → HasLayout c w → All (CanBeHeard (struct_length c s)) (named_leaves c w s)
leaves_can_be_heard c w s has i d lt =
    let none : first_fault c w ≡ None = first_fault-none c w has.no_fault in
    record {
      fits = named_leaves-within c w s none i d lt;
      number = λ is. subst IsWholeLength (sym (pointer_size w _ _ (named_leaves-fit c w s none i d lt) is)) (pointer_has_number w);
    }

-- ---- what is said is no pair

kind_says : (basics : List (Option ℕ)) (kind : Kind) → SaysNoPair (said_by basics kind)
kind_says basics (kinds.Pointer depth t) = said_viewed depth (slice_index_or basics t None)
kind_says basics (kinds.Whole whole) = tt
kind_says basics (kinds.Bits n) = tt
kind_says basics kinds.Opaque = tt

no_pair : (kind : RawKind) → IsViewed kind → kind ≢ Pair
no_pair kind viewed pair = let other : Bytes ≡ Pair = ap viewed_or_bytes (sym pair) ∙ viewed ∙ pair in absurd (cc)

-- ---- the leaf that is met

-- what is so of all elements is so of the one that is found
pub IfSome-find : {X : Type 0} (P : X → Type 0) (p : X → Bool) (xs : List X) → All P xs → IfSome (find p xs) P
IfSome-find P p [] all = tt
IfSome-find P p (x ∷ xs) all = first (p x) (IfSome-find P p xs (All-tail P x xs all))
  where
    first : (b : Bool) → IfSome (find p xs) P → IfSome (cond b (Some x) (find p xs)) P
    first true later = All-head P x xs all
    first false later = later

-- fewer elements stand in as many bytes
fewer_fit : (at size few many n : ℕ) → few ≤ many → at + size * many ≤ n → at + size * few ≤ n
fewer_fit at size few many n le fits =
    let less : few * size ≤ many * size = mul-le-mul_right size le in
    let one : few * size ≡ size * few = omega arith in
    let other : many * size ≡ size * many = omega arith in
    omega (arith, less, one, other, fits)

kept_heard : (n : ℕ) (x y : NamedLeaf) (said : Option RawKind) → CanBeHeard n x → is_pointer x.kind ≡ true → SaysNoPair said
    → IfSome (option_map (kept_speaker (leaf_of x) (leaf_of y)) said) (IsHeard n)
kept_heard n x y None can is viewed = tt
kept_heard n x y (Some kind) can is viewed = record {
  fits = fewer_fit x.offset x.size (min x.count y.count) x.count n (min-le_left x.count y.count) can.fits;
  number = can.number is;
  no_pair = no_pair kind viewed;
}

module _ (basics : List (Option ℕ)) (n : ℕ) (xs : List NamedLeaf) (all : All (CanBeHeard n) xs) where
  -- what a leaf says where it meets another, or none
  abbrev said_at : NamedLeaf → Option NamedLeaf → Option Speaker
  said_at y o = option_and_then (λ (x : NamedLeaf). met_speaker basics (leaf_of y) (leaf_of x)) o

  met_heard : (y : NamedLeaf) (o : Option NamedLeaf) → IfSome o (CanBeHeard n) → IfSome (said_at y o) (IsHeard n)
  met_heard y None can = tt
  met_heard y (Some x) can = by_kind (is_pointer x.kind) refl
    where
      by_kind : (b : Bool) → is_pointer x.kind ≡ b
          → IfSome (cond b (option_map (kept_speaker (leaf_of x) (leaf_of y)) (said_by basics y.kind)) None) (IsHeard n)
      by_kind true is = kept_heard n x y (said_by basics y.kind) can is (kind_says basics y.kind)
      by_kind false is = tt

  all_with : (o : Option Speaker) (others : List Speaker) → IfSome o (IsHeard n) → All (IsHeard n) others → All (IsHeard n) (cons_option o others)
  all_with None others one rest = rest
  all_with (Some x) others one rest = All-cons (IsHeard n) x others one rest

  all_heard : (ys : List NamedLeaf) → All (IsHeard n) (met_speakers basics xs ys)
  all_heard [] = All-nil (IsHeard n)
  all_heard (y ∷ ys) =
      all_with (said_at y (source_leaf xs y)) (met_speakers basics xs ys)
      (met_heard y (source_leaf xs y) (IfSome-find (CanBeHeard n) (λ (x : NamedLeaf). ways_meet x.way y.way) xs all))
      (all_heard ys)

-- what some leaves say can be heard at the leaves of a struct that they meet
pub met_speakers-heard : (c : Catalogue) (w : Width) (s : ℕ) (basics : List (Option ℕ)) (ys : List NamedLeaf) → HasLayout c w
    → All (IsHeard (struct_length c s)) (met_speakers basics (named_leaves c w s) ys)
met_speakers-heard c w s basics ys has =
    all_heard basics (struct_length c s) (named_leaves c w s) (leaves_can_be_heard c w s has) ys
