-- No view says that a node is a pair, and a node of this kind is long enough for one.
use Rattle.std.proofs.Common.{◌≡◌, ◌≤◌, ◌+◌, ℕ, zero, suc, Bool, true, false, cond, List, [], ◌∷◌, Option, Some, None, refl}
use Rattle.std.specs.Prelude.{All, ◌==◌, nat_le, map, filter, flat_map}
use Rattle.std.specs.List.{enumerate_from}
use Rattle.std.proofs.lemmas.Bool.{leb-true}
use Rattle.std.proofs.lemmas.List.Elements.{All-nil, All-cons, All-append, All-head, All-filter}
use Rattle.bl_format.specs.declared.file.Header.{Header}
use Rattle.bl_format.specs.declared.file.Head.{Head}
use Rattle.bl_format.specs.declared.catalogue.Catalogue.{Catalogue}
use Rattle.bl_format.specs.declared.layout.Kind.{Kind}
use Rattle.bl_format.specs.declared.layout.Kind.TheVariants as kinds
use Rattle.bl_format.specs.declared.raw.RawKind.{RawKind}
use Rattle.bl_format.specs.declared.raw.RawKind.TheVariants.{Bytes, Numbers, Pointers, Pair}
use Rattle.bl_format.specs.declared.raw.View.{View}
use Rattle.bl_format.specs.Nodes.{is_pair_code, pair_length, view_of, view_of_basic, view_of_type, pointed_length, viewed_kind, common_kind}
use Rattle.bl_format.specs.Graph.{Value, Points, Target, Naming, Cell, view_by, views_of}
use Rattle.bl_format.specs.Layout.{basic_named, type_entry}
use Rattle.bl_file.specs.Outlines.{ArePairsLong}
use Rattle.bl_file.specs.Seen.{Namings, named_cells, named_views, views_seen}
use Rattle.bl_file.specs.Views.{viewed_or_bytes, kind_by, kinds_by}

-- ---- no view gives a pair

-- a kind is none of a pair
abbrev pub IsViewed : RawKind → Type 0
IsViewed kind = viewed_or_bytes kind ≡ kind

-- views give no pair
abbrev pub AreViewed : List View → Type 0
AreViewed views = All (λ (v : View). IsViewed v.kind) views

-- what a pointer says is no pair
abbrev pub SaysNoPair : Option RawKind → Type 0
SaysNoPair None = Unit {0}
SaysNoPair (Some kind) = IsViewed kind

basic_viewed : (basic : Option ℕ) → SaysNoPair (view_of_basic basic)
basic_viewed None = refl
basic_viewed (Some zero) = tt
basic_viewed (Some (suc zero)) = refl
basic_viewed (Some (suc (suc n))) = refl

-- what a pointer of this depth says is no pair
pub said_viewed : (depth : ℕ) (basic : Option ℕ) → SaysNoPair (view_of depth basic)
unfolding view_of
said_viewed zero basic = refl
said_viewed (suc zero) basic = basic_viewed basic
said_viewed (suc (suc zero)) basic = refl
said_viewed (suc (suc (suc n))) basic = refl

list_viewed : (n : ℕ) (said : Option RawKind) → SaysNoPair said
    → AreViewed (elim said [ None ↦ [] | Some k ↦ record { node = n; kind = k } ∷ [] ])
list_viewed n None viewed = All-nil (λ (v : View). IsViewed v.kind)
list_viewed n (Some k) viewed =
    All-cons (λ (v : View). IsViewed v.kind) (record { node = n; kind = k }) [] viewed (All-nil (λ (v : View). IsViewed v.kind))

pointer_viewed : (c : Catalogue) (depth t : ℕ) (value : Value Target) → AreViewed (view_by c (kinds.Pointer depth t) value)
pointer_viewed c depth t (Points (Some n)) =
    list_viewed n (view_of_type c depth t) (said_viewed depth (pointed_length c t (basic_named (type_entry c t).name)))
pointer_viewed c depth t value = All-nil (λ (v : View). IsViewed v.kind)

-- what a value says is no pair
pub value_viewed : (c : Catalogue) (kind : Kind) (value : Value Target) → AreViewed (view_by c kind value)
value_viewed c (kinds.Pointer depth t) value = pointer_viewed c depth t value
value_viewed c (kinds.Whole whole) value = All-nil (λ (v : View). IsViewed v.kind)
value_viewed c (kinds.Bits n) value = All-nil (λ (v : View). IsViewed v.kind)
value_viewed c kinds.Opaque value = All-nil (λ (v : View). IsViewed v.kind)

-- nor is what stands in lists of such views
pub flat_map_viewed : {X : Type 0} (f : X → List View) (xs : List X) → ((x : X) → AreViewed (f x)) → AreViewed (flat_map f xs)
flat_map_viewed f [] all = All-nil (λ (v : View). IsViewed v.kind)
flat_map_viewed f (x ∷ xs) all =
    All-append (λ (v : View). IsViewed v.kind) (f x) (flat_map f xs) (all x) (flat_map_viewed f xs all)

named_viewed : (names : Naming Target) (h : Header) (c : Catalogue) (b : List ℕ) (x : Head) (raw : Bool)
    → AreViewed (cond raw [] (flat_map (views_of c) (named_cells names h c b x)))
named_viewed names h c b x true = All-nil (λ (v : View). IsViewed v.kind)
named_viewed names h c b x false =
    flat_map_viewed (views_of c) (named_cells names h c b x)
    (λ cs. flat_map_viewed (λ (y : Cell). view_by c y.leaf.kind y.value) cs (λ y. value_viewed c y.leaf.kind y.value))

-- what pointers say is no pair
pub seen_viewed : (names : Namings) (h : Header) (c : Catalogue) (nodes : List Head) (b : List ℕ) → AreViewed (views_seen names h c nodes b)
unfolding views_seen
seen_viewed names h c nodes b =
    flat_map_viewed (λ (p : ℕ × Head). named_views (names p.0) h c b p.1) (enumerate_from 0 nodes)
    (λ p. named_viewed (names p.0) h c b p.1 (p.1.index == 0))

one_viewed : (all : Bool) (kind : RawKind) → IsViewed kind → IsViewed (cond all kind Bytes)
one_viewed true kind viewed = viewed
one_viewed false kind viewed = refl

common_viewed : (views : List View) → AreViewed views → IsViewed (common_kind (map (λ (v : View). v.kind) views))
common_viewed [] all = refl
common_viewed (v ∷ vs) all = one_viewed _ v.kind (All-head (λ (w : View). IsViewed w.kind) v vs all)

-- the kind that such views give a node is no pair
pub viewed_no_pair : (views : List View) (n : ℕ) → AreViewed views → IsViewed (viewed_kind views n)
viewed_no_pair views n all =
    common_viewed (filter (λ (v : View). v.node == n) views)
    (All-filter (λ (v : View). v.node == n) (λ (v : View). IsViewed v.kind) views all)

-- ---- pairs are long

no_pair : (viewed : RawKind) (n : ℕ) → viewed_or_bytes viewed ≡ Pair → pair_length ≤ n
no_pair Bytes n is = absurd (cc)
no_pair (Numbers k) n is = absurd (cc)
no_pair Pointers n is = absurd (cc)
no_pair Pair n is = absurd (cc)

pair_by : (raw code long : Bool) (viewed : RawKind) (n : ℕ) → nat_le pair_length n ≡ long
    → cond raw (cond code (cond long Pair Bytes) (viewed_or_bytes viewed)) Bytes ≡ Pair → pair_length ≤ n
pair_by false code long viewed n fits is = absurd (cc)
pair_by true false long viewed n fits is = no_pair viewed n is
pair_by true true false viewed n fits is = absurd (cc)
pair_by true true true viewed n fits is = leb-true pair_length n fits

pairs_from : (i : ℕ) (nodes : List Head) (views : List View)
    → ArePairsLong nodes (map (λ (p : ℕ × Head). kind_by p.1 (viewed_kind views p.0)) (enumerate_from i nodes))
pairs_from i [] views k is = absurd (cc)
pairs_from i (x ∷ xs) views zero is =
    pair_by (x.index == 0) (is_pair_code x.code) (nat_le pair_length x.len) (viewed_kind views i) x.len refl is
pairs_from i (x ∷ xs) views (suc k) is = pairs_from (i + 1) xs views k is

-- pairs are long among the kinds by any views
pub pairs_long : (nodes : List Head) (views : List View) (kinds : List RawKind) → kinds ≡ kinds_by nodes views → ArePairsLong nodes kinds
pairs_long nodes views kinds are = rw are (pairs_from 0 nodes views)
