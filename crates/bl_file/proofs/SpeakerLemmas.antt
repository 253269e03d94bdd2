-- The leaves of a struct that say anything can be read in an element's bytes.
use Rattle.std.proofs.Common.{◌≡◌, ◌≢◌, ◌<◌, ℕ, List, [], ◌++◌, ◌∷◌, length, get_or, Option, Some, None, refl, sym, ap, subst, ◌∙◌, arith}
use Rattle.std.specs.Prelude.{All, option_map, slice_index_or}
use Rattle.std.specs.List.{cons_option}
use Rattle.std.proofs.lemmas.List.{length-map, get_or_default}
use Rattle.std.proofs.lemmas.List.Elements.{All-nil, All-cons, All-head, All-tail}
use Rattle.bl_num.specs.declared.number.Width.{Width}
use Rattle.bl_format.specs.declared.catalogue.Catalogue.{Catalogue}
use Rattle.bl_format.specs.declared.layout.Kind.{Kind}
use Rattle.bl_format.specs.declared.layout.Kind.TheVariants as kinds
use Rattle.bl_format.specs.declared.layout.Leaf.{Leaf}
use Rattle.bl_format.specs.declared.raw.RawKind.{RawKind}
use Rattle.bl_format.specs.declared.raw.RawKind.TheVariants.{Bytes, Pair}
use Rattle.bl_format.specs.Layout.{HasLayout, leaves_of, struct_length, struct_numbers}
use Rattle.bl_members.specs.Leaf.{FitsIn, HoldsNumbers}
use Rattle.bl_members.proofs.Leaves.{leaves_of-fit_in, leaves_of-hold_numbers}
use Rattle.bl_selection.proofs.EntriesAsNodes.{length-numbers_below}
use Rattle.bl_file.specs.declared.speakers.Speaker.{Speaker}
use Rattle.bl_file.specs.Speakers.{IsHeard, basic_lengths, said_by, speaker_with, speakers_of, struct_speakers}
use Rattle.bl_file.specs.declared.views.Sight.{Sight}
use Rattle.bl_file.specs.Seen.{Namings}
use Rattle.bl_file.specs.Heard.{AreHeard}
use Rattle.bl_file.specs.Views.{IsSight, elements_said, node_at_said, viewed_or_bytes}
use Rattle.bl_file.proofs.IdLemmas.{get_or-by}
use Rattle.bl_file.proofs.PairLemmas.{IsViewed, SaysNoPair, said_viewed}
use Rattle.bl_file.proofs.ReadLemmas.{has_elements}
use Rattle.bl_file.proofs.SightLemmas.{node_is_said, silent_elements}
use Rattle.bl_format.specs.Graph.{Target, Naming}
use Rattle.bl_format.specs.declared.file.Head.{Head}
use Rattle.bl_format.specs.declared.raw.View.{View}
use Rattle.std.proofs.lemmas.List.{append-nil}

-- the elements of a leaf are as long as a number where it isn't opaque
abbrev HasNumber : Leaf → Type 0
HasNumber x = x.kind ≢ kinds.Opaque → HoldsNumbers x

-- what a leaf's kind says is no pair
kind_says : (basics : List (Option ℕ)) (kind : Kind) → SaysNoPair (said_by basics kind)
kind_says basics (kinds.Pointer depth t) = said_viewed depth (slice_index_or basics t None)
kind_says basics (kinds.Whole whole) = tt
kind_says basics (kinds.Bits n) = tt
kind_says basics kinds.Opaque = tt

no_pair : (kind : RawKind) → IsViewed kind → kind ≢ Pair
no_pair kind viewed pair = let other : Bytes ≡ Pair = ap viewed_or_bytes (sym pair) ∙ viewed ∙ pair in absurd (cc)

first_readable : (basics : List (Option ℕ)) (n : ℕ) (x : Leaf) (said : Option RawKind) (others : List Speaker)
    → said_by basics x.kind ≡ said → FitsIn x n → HasNumber x → All (IsHeard n) others
    → All (IsHeard n) (cons_option (option_map (speaker_with x) said) others)
first_readable basics n x None others is fits number all = all
first_readable basics n x (Some kind) others is fits number all =
    All-cons (IsHeard n) (speaker_with x kind) others
    (record {
      fits = fits;
      number = number (λ opaque. let none : said_by basics x.kind ≡ None = ap (said_by basics) opaque in absurd (cc));
      no_pair = no_pair kind (subst SaysNoPair is (kind_says basics x.kind));
    }) all

all_readable : (basics : List (Option ℕ)) (n : ℕ) (leaves : List Leaf) → All (λ (x : Leaf). FitsIn x n) leaves → All HasNumber leaves
    → All (IsHeard n) (speakers_of basics leaves)
all_readable basics n [] fit numbers = All-nil (IsHeard n)
all_readable basics n (x ∷ xs) fit numbers =
    first_readable basics n x (said_by basics x.kind) (speakers_of basics xs) refl (All-head (λ (y : Leaf). FitsIn y n) x xs fit) (All-head HasNumber x xs numbers)
    (all_readable basics n xs (All-tail (λ (y : Leaf). FitsIn y n) x xs fit) (All-tail HasNumber x xs numbers))

-- the leaves of a catalogue that say anything can be heard
pub struct_speakers-heard : (c : Catalogue) (w : Width) → HasLayout c w → AreHeard c (struct_speakers c w (basic_lengths c))
struct_speakers-heard c w has =
    let own : ℕ → List Speaker = λ s. speakers_of (basic_lengths c) (leaves_of c w s) in
    record {
      len = length-map (struct_numbers c) own ∙ length-numbers_below (length c.structs);
      each = λ s lt. subst (All (IsHeard (struct_length c s))) (sym (get_or-by own (length c.structs) s [] lt))
          (all_readable (basic_lengths c) (struct_length c s) (leaves_of c w s) (leaves_of-fit_in c w s has) (leaves_of-hold_numbers c w s has));
    }

-- ---- a node by that by which its pointers are read

module _ (s : Sight) (n k : ℕ) (d : Head) (sight : IsSight s n) (lt : k < length s.nodes.now) (some : (get_or s.nodes.now k d).index ≢ 0) where
  -- its struct is there
  pub node_struct : (get_or s.nodes.now k d).index < length s.speakers.now
  node_struct =
      let c = s.layout.now.catalogue in
      let own = has_elements c (get_or s.nodes.now k d) (sight.nodes k d lt).no_fault some in
      omega (arith, own.struct, sight.heard.len)

  -- its leaves can be read
  pub node_heard : (speakers e : List Speaker) → speakers ≡ get_or s.speakers.now (get_or s.nodes.now k d).index e
      → All (IsHeard (struct_length s.layout.now.catalogue (get_or s.nodes.now k d).index)) speakers
  node_heard speakers e is =
      let c = s.layout.now.catalogue in
      let x = get_or s.nodes.now k d in
      subst (All (IsHeard (struct_length c x.index))) (sym (is ∙ get_or_default s.speakers.now x.index e [] node_struct))
      (sight.heard.each x.index (has_elements c x (sight.nodes k d lt).no_fault some).struct)

  -- what its elements say is what it says
  pub node_says : (names : Namings) (b : List ℕ) (speakers e : List Speaker) → speakers ≡ get_or s.speakers.now (get_or s.nodes.now k d).index e
      → elements_said speakers s.nodes.now (names k) s.header.now s.layout.now.catalogue (get_or s.nodes.now k d) b (get_or s.nodes.now k d).count
      ≡ node_at_said names s b k
  node_says names b speakers e is = node_is_said names s b k d e speakers lt some node_struct is

  no_leaves : (names : Naming Target) (b : List ℕ) (speakers : List Speaker) → length speakers ≡ 0
      → [] ≡ elements_said speakers s.nodes.now names s.header.now s.layout.now.catalogue (get_or s.nodes.now k d) b (get_or s.nodes.now k d).count
  no_leaves names b [] none = silent_elements s.nodes.now names s.header.now s.layout.now.catalogue (get_or s.nodes.now k d) b (get_or s.nodes.now k d).count
  no_leaves names b (x ∷ xs) none = absurd (omega (arith, none))

  -- it says nothing where no leaf does
  pub node_says_nothing : (names : Namings) (b : List ℕ) (speakers e : List Speaker) (old : List View)
      → speakers ≡ get_or s.speakers.now (get_or s.nodes.now k d).index e → length speakers ≡ 0 → old ≡ old ++ node_at_said names s b k
  node_says_nothing names b speakers e old is none =
      sym (append-nil old) ∙ ap (λ vs. old ++ vs) (no_leaves (names k) b speakers none ∙ node_says names b speakers e is)
