-- What a carried element of a struct says is what the target's leaves say, heard at the source's leaves that they meet.
use Rattle.std.proofs.Common.{◌≡◌, ◌<◌, ◌≤◌, ℕ, zero, suc, ◌+◌, ◌-◌, Bool, true, false, cond, List, [], ◌∷◌, ◌++◌, length, Option, Some, None, refl, ap, ◌∙◌, arith, lt-ltb, le-ltb}
use Rattle.std.specs.Prelude.{All, IfSome, ◌&&◌, ◌==◌, nat_lt, min, map, flat_map, option_map, option_and_then, codes}
use Rattle.std.specs.List.{enumerate_from, cons_option}
use Rattle.std.specs.Str.{bytes_eq}
use Rattle.std.proofs.Math.Bool.{and-false}
use Rattle.std.proofs.lemmas.Bool.{ltb-true}
use Rattle.std.proofs.lemmas.Grind.{flat_map-append}
use Rattle.std.proofs.lemmas.List.{append-nil}
use Rattle.bl_num.specs.declared.number.Order.{Order}
use Rattle.bl_num.specs.declared.number.Width.{Width}
use Rattle.bl_num.specs.Numbers.{number_of}
use Rattle.bl_format.specs.declared.catalogue.Catalogue.{Catalogue}
use Rattle.bl_format.specs.declared.layout.Kind.{Kind}
use Rattle.bl_format.specs.declared.layout.Kind.TheVariants as kinds
use Rattle.bl_format.specs.declared.raw.RawKind.{RawKind}
use Rattle.bl_format.specs.declared.raw.View.{View}
use Rattle.bl_format.specs.Words.{numbers_below}
use Rattle.bl_format.specs.Layout.{NamedLeaf, HasLayout, leaf_of, named_leaves, struct_length}
use Rattle.bl_format.specs.Graph.{Target, Naming, Value, Points, Cell, cells, leaf_bytes, value_by, leaf_value, view_by, views_of}
use Rattle.bl_format.proofs.LeafBytes.{length-leaf_bytes}
use Rattle.bl_format.proofs.MemberPasses.{first_fault-none}
use Rattle.bl_selection.specs.Carried.{struct_form, carried_cells}
use Rattle.bl_selection.specs.Fate.{ways_meet, source_leaf, is_whole, is_char, same_type, kept_count, zero_of_kind, zero_of, converted_value, value_from, carried_value}
use Rattle.bl_plan.proofs.MeetingLaws.{kept_few}
use Rattle.bl_file.specs.declared.speakers.Speaker.{Speaker}
use Rattle.bl_file.specs.Heard.{leaf_heard, element_heard}
use Rattle.bl_file.specs.Speakers.{basic_lengths, said_by}
use Rattle.bl_file.proofs.ViewLaws.{views_said, pointer_said, none_said, flat_map-below, flat_map-more, flat_map-nothing}
use Rattle.bl_draft.specs.Speakers.{is_pointer, kept_speaker, met_speaker, met_speakers}
use Rattle.bl_draft.proofs.SpeakerFacts.{IfSome-find}

-- ---- lists

-- what only the first of some numbers give
pub flat_map-until : {X : Type 0} (f : ℕ → List X) (m n : ℕ) → m ≤ n
    → flat_map (λ k. cond (nat_lt k m) (f k) []) (numbers_below n) ≡ flat_map f (numbers_below m)
flat_map-until {X} f m n le = go (n - m) n (omega (arith, le))
  where
    some : ℕ → List X
    some k = cond (nat_lt k m) (f k) []

    go : (more all : ℕ) → all ≡ m + more → flat_map some (numbers_below all) ≡ flat_map f (numbers_below m)
    go zero all is =
        let same : all ≡ m = omega (arith, is) in
        ap (λ (k : ℕ). flat_map some (numbers_below k)) same
        ∙ flat_map-below some f m (λ k lt. ap (λ (b : Bool). cond b (f k) []) (lt-ltb k m lt))
    go (suc more) all is =
        let same : all ≡ (m + more) + 1 = omega (arith, is) in
        ap (λ (k : ℕ). flat_map some (numbers_below k)) same
        ∙ flat_map-more some (m + more)
        ∙ ap (λ (xs : List X). xs ++ some (m + more)) (go more (m + more) refl)
        ∙ ap (λ (b : Bool). flat_map f (numbers_below m) ++ cond b (f (m + more)) []) (le-ltb (m + more) m (omega arith))
        ∙ append-nil (flat_map f (numbers_below m))

-- ---- one value

-- zero says nothing
zero_says : (d : Catalogue) (kind : Kind) (n : ℕ) → view_by d kind (zero_of_kind None kind n) ≡ []
zero_says d (kinds.Pointer depth t) n = refl
zero_says d (kinds.Whole whole) n = refl
zero_says d (kinds.Bits m) n = refl
zero_says d kinds.Opaque n = refl

-- what is said where a leaf of kind b meets one of kind a
abbrev met_said : Catalogue → Kind → Kind → Option RawKind
met_said d a b = cond (is_pointer a) (said_by (basic_lengths d) b) None

-- a leaf without pointers says nothing, whatever it meets
nothing_met : (target : Target) (pointer : Bool) → [] ≡ views_said target (cond pointer None None)
nothing_met target true = refl
nothing_met target false = refl

-- what a value says once it is carried
converted_says : (d : Catalogue) (names : Naming Target) (alike : Bool) (n : ℕ) (a b : Kind) (value : Value Target) (v : ℕ)
    → (is_pointer a ≡ true → value ≡ Points (names v))
    → view_by d b (converted_value alike (zero_of_kind None b n) a b value) ≡ views_said (names v) (met_said d a b)
converted_says d names alike n (kinds.Pointer depth s) (kinds.Pointer deep t) value v is =
    ap (view_by d (kinds.Pointer deep t)) (is refl) ∙ pointer_said d deep t (names v)
converted_says d names alike n (kinds.Whole whole) (kinds.Pointer deep t) value v is = refl
converted_says d names alike n (kinds.Bits m) (kinds.Pointer deep t) value v is = refl
converted_says d names alike n kinds.Opaque (kinds.Pointer deep t) value v is = refl
converted_says d names alike n a (kinds.Whole whole) value v is = nothing_met (names v) (is_pointer a)
converted_says d names alike n a (kinds.Bits m) value v is = nothing_met (names v) (is_pointer a)
converted_says d names alike n a kinds.Opaque value v is = nothing_met (names v) (is_pointer a)

-- ---- how many elements are kept

not_whole : (kind : Kind) → is_pointer kind ≡ true → is_whole kind ≡ false
not_whole (kinds.Pointer depth t) is = refl
not_whole (kinds.Whole whole) is = absurd (cc)
not_whole (kinds.Bits n) is = refl
not_whole kinds.Opaque is = refl

-- of pointers as many are kept as both leaves have
kept_pointers : (x y : NamedLeaf) → is_pointer x.kind ≡ true → kept_count x y ≡ min x.count y.count
kept_pointers x y is =
    let no_char : is_char x ≡ false =
    ap (λ (whole : Bool). bytes_eq x.type_name (codes "char") && whole) (not_whole x.kind is)
    ∙ and-false (bytes_eq x.type_name (codes "char")) in
    ap (λ (char : Bool). cond (char && is_char y && nat_lt y.count x.count) (y.count - 1) (min x.count y.count)) no_char

-- ---- one leaf

module _ (names : Naming Target) (order : Order) (bytes : List ℕ) where
  -- the number in element k of a leaf
  abbrev number_in : NamedLeaf → ℕ → ℕ
  number_in x k = number_of order x.size (leaf_bytes x bytes k)

  -- the elements of a leaf of pointers name what their numbers do
  abbrev HasAddresses : NamedLeaf → Type 0
  HasAddresses x = is_pointer x.kind ≡ true → (k : ℕ) → k < x.count → leaf_value names order bytes x k ≡ Points (names (number_in x k))

  -- what is heard of a speaker, or none
  abbrev heard_of : Option Speaker → List View
  heard_of None = []
  heard_of (Some x) = leaf_heard names order bytes x

  -- what is heard of the kept elements of a leaf, by what is said
  kept_heard : (x y : NamedLeaf) (said : Option RawKind)
      → flat_map (λ k. views_said (names (number_in x k)) said) (numbers_below (min x.count y.count))
      ≡ heard_of (option_map (kept_speaker (leaf_of x) (leaf_of y)) said)
  kept_heard x y None = flat_map-nothing (min x.count y.count)
  kept_heard x y (Some kind) = refl

  first_heard : (o : Option Speaker) (others : List Speaker)
      → heard_of o ++ element_heard names order others bytes ≡ element_heard names order (cons_option o others) bytes
  first_heard None others = refl
  first_heard (Some x) others = refl

  module _ (d : Catalogue) where
    -- what element k of leaf y says, by the leaf that it meets
    abbrev said_from : Option NamedLeaf → NamedLeaf → ℕ → List View
    said_from o y k = view_by d y.kind (value_from None names order bytes o y k)

    -- what the number in element k of leaf x says
    abbrev said_there : NamedLeaf → NamedLeaf → ℕ → List View
    said_there x y k = views_said (names (number_in x k)) (met_said d x.kind y.kind)

    element_says : (x y : NamedLeaf) (k : ℕ) → HasAddresses x
        → said_from (Some x) y k ≡ cond (nat_lt k (kept_count x y)) (said_there x y k) []
    element_says x y k has = by_kept (nat_lt k (kept_count x y)) refl
      where
        alike : Bool
        alike = same_type x y && x.size == y.size

        by_kept : (b : Bool) → nat_lt k (kept_count x y) ≡ b
            → view_by d y.kind (cond b (converted_value alike (zero_of None y) x.kind y.kind (leaf_value names order bytes x k)) (zero_of None y))
            ≡ cond b (said_there x y k) []
        by_kept true is =
            let below : k < kept_count x y = ltb-true k (kept_count x y) is in
            converted_says d names alike y.size x.kind y.kind (leaf_value names order bytes x k) (number_in x k)
            (λ pointer. has pointer k (omega (arith, below, (kept_few x y).0)))
        by_kept false is = zero_says d y.kind y.size

    both_heard : (x y : NamedLeaf)
        → flat_map (said_there x y) (numbers_below (kept_count x y)) ≡ heard_of (met_speaker (basic_lengths d) (leaf_of y) (leaf_of x))
    both_heard x y = by_pointer (is_pointer x.kind) refl
      where
        by_pointer : (b : Bool) → is_pointer x.kind ≡ b
            → flat_map (λ k. views_said (names (number_in x k)) (cond b (said_by (basic_lengths d) y.kind) None)) (numbers_below (kept_count x y))
            ≡ heard_of (cond b (option_map (kept_speaker (leaf_of x) (leaf_of y)) (said_by (basic_lengths d) y.kind)) None)
        by_pointer true is =
            ap (λ (n : ℕ). flat_map (λ k. views_said (names (number_in x k)) (said_by (basic_lengths d) y.kind)) (numbers_below n)) (kept_pointers x y is)
            ∙ kept_heard x y (said_by (basic_lengths d) y.kind)
        by_pointer false is = flat_map-nothing (kept_count x y)

    -- what a leaf says, by the leaf that it meets
    leaf_says : (o : Option NamedLeaf) (y : NamedLeaf) → IfSome o HasAddresses
        → flat_map (said_from o y) (numbers_below y.count)
        ≡ heard_of (option_and_then (λ (x : NamedLeaf). met_speaker (basic_lengths d) (leaf_of y) (leaf_of x)) o)
    leaf_says None y has =
        flat_map-below (said_from None y) none_said y.count (λ k lt. zero_says d y.kind y.size) ∙ flat_map-nothing y.count
    leaf_says (Some x) y has =
        flat_map-below (said_from (Some x) y) (λ k. cond (nat_lt k (kept_count x y)) (said_there x y k) []) y.count (λ k lt. element_says x y k has)
        ∙ flat_map-until (said_there x y) (kept_count x y) y.count (kept_few x y).1
        ∙ both_heard x y

    -- ---- all leaves

    module _ (xs : List NamedLeaf) (all : All HasAddresses xs) where
      -- the cells of a leaf, for some of its elements
      abbrev cells_at : NamedLeaf → List ℕ → List Cell
      cells_at y ks = map (λ k. record { leaf = y; at = k; value = carried_value None names order xs bytes y k }) ks

      cells_say : (y : NamedLeaf) (ks : List ℕ) → views_of d (cells_at y ks) ≡ flat_map (said_from (source_leaf xs y) y) ks
      unfolding carried_value
      cells_say y [] = refl
      cells_say y (k ∷ ks) = ap (λ vs. said_from (source_leaf xs y) y k ++ vs) (cells_say y ks)

      leaves_say : (i : ℕ) (ys : List NamedLeaf)
          → views_of d (flat_map (λ (p : ℕ × NamedLeaf). cells_at p.1 (numbers_below p.1.count)) (enumerate_from i ys))
          ≡ element_heard names order (met_speakers (basic_lengths d) xs ys) bytes
      leaves_say i [] = refl
      leaves_say i (y ∷ ys) =
          let own : List Cell = cells_at y (numbers_below y.count) in
          let others : List Cell = flat_map (λ (p : ℕ × NamedLeaf). cells_at p.1 (numbers_below p.1.count)) (enumerate_from (i + 1) ys) in
          let said : Option Speaker = option_and_then (λ (x : NamedLeaf). met_speaker (basic_lengths d) (leaf_of y) (leaf_of x)) (source_leaf xs y) in
          flat_map-append (λ (cell : Cell). view_by d cell.leaf.kind cell.value) own others
          ∙ ap (λ vs. vs ++ views_of d others) (cells_say y (numbers_below y.count))
          ∙ ap (λ vs. vs ++ views_of d others) (leaf_says (source_leaf xs y) y (IfSome-find HasAddresses (λ (x : NamedLeaf). ways_meet x.way y.way) xs all))
          ∙ ap (λ vs. heard_of said ++ vs) (leaves_say (i + 1) ys)
          ∙ first_heard said (met_speakers (basic_lengths d) xs ys)

      -- what the cells say that some leaves get from an element
      pub cells_heard : (ys : List NamedLeaf)
          → views_of d (cells (λ j y k. carried_value None names order xs bytes y k) ys)
          ≡ element_heard names order (met_speakers (basic_lengths d) xs ys) bytes
      unfolding cells
      cells_heard ys = leaves_say 0 ys

-- ---- the leaves of a struct

pointer_value : (names : Naming Target) (order : Order) (kind : Kind) (size : ℕ) (bytes : List ℕ) → is_pointer kind ≡ true → length bytes ≡ size
    → value_by kind names order bytes ≡ Points (names (number_of order size bytes))
pointer_value names order (kinds.Pointer depth t) size bytes is long = ap (λ (n : ℕ). Points (names (number_of order n bytes))) long
pointer_value names order (kinds.Whole whole) size bytes is long = absurd (cc)
pointer_value names order (kinds.Bits n) size bytes is long = absurd (cc)
pointer_value names order kinds.Opaque size bytes is long = absurd (cc)

leaves_have_addresses : (names : Naming Target) (order : Order) (c : Catalogue) (w : Width) (s : ℕ) (bytes : List ℕ) → HasLayout c w
    → length bytes ≡ struct_length c s → All (HasAddresses names order bytes) (named_leaves c w s)
unfolding leaf_value
leaves_have_addresses names order c w s bytes has long i e lt is k below =
    pointer_value names order _ _ _ is (length-leaf_bytes c w s bytes (first_fault-none c w has.no_fault) long i e lt k below)

-- what a struct's element says, once it is carried to some leaves of another catalogue
pub carried_cells-heard : (d : Catalogue) (names : Naming Target) (order : Order) (c : Catalogue) (w : Width) (s : ℕ) (ys : List NamedLeaf) (bytes : List ℕ)
    → HasLayout c w → length bytes ≡ struct_length c s
    → views_of d (carried_cells names (struct_form order c w s) ys bytes)
    ≡ element_heard names order (met_speakers (basic_lengths d) (named_leaves c w s) ys) bytes
carried_cells-heard d names order c w s ys bytes has long =
    cells_heard names order bytes d (named_leaves c w s) (leaves_have_addresses names order c w s bytes has long) ys
