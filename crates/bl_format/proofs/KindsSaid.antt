-- What is so of every kind that a pointer may say of a raw node is so of the kind that such a node gets.
use Rattle.std.proofs.Common.{◌≡◌, ℕ, zero, suc, Bool, true, false, cond, All, List, [], ◌∷◌, Option, Some, None, refl}
use Rattle.std.specs.Prelude.{◌==◌, nat_le, map, flat_map, filter}
use Rattle.std.specs.List.{list_all}
use Rattle.std.proofs.lemmas.List.Elements.{All-nil, All-cons, All-append, All-head, All-map, All-filter}
use Rattle.bl_format.specs.declared.catalogue.Catalogue.{Catalogue}
use Rattle.bl_format.specs.declared.layout.Kind.{Kind}
use Rattle.bl_format.specs.declared.layout.Kind.TheVariants as kinds
use Rattle.bl_format.specs.declared.raw.RawKind.{RawKind}
use Rattle.bl_format.specs.declared.raw.RawKind.TheVariants as raw
use Rattle.bl_format.specs.declared.raw.View.{View}
use Rattle.bl_format.specs.Nodes.{view_of_basic, view_of, view_of_type, common_kind, is_pair_code, pair_length, viewed_kind, raw_kind, kind_eq}
use Rattle.bl_format.specs.Graph.{Target, Value, Points, Cell, view_by, views_of}

-- what is so of each element of each list is so of the elements of all lists behind one another
pub All-flat_map : {X Y : Type 0} (P : Y → Type 0) (f : X → List Y) (xs : List X) → ((x : X) → All P (f x)) → All P (flat_map f xs)
All-flat_map P f [] each = All-nil P
All-flat_map P f (x ∷ xs) each = All-append P (f x) (flat_map f xs) (each x) (All-flat_map P f xs each)

module _ (P : RawKind → Type 0) (bytes : P raw.Bytes) (numbers : (n : ℕ) → P (raw.Numbers (suc (suc n)))) (pointers : P raw.Pointers) where
  -- a pointer says nothing, or such a kind
  abbrev SaysSuch : Option RawKind → Type 0
  SaysSuch None = Unit {0}
  SaysSuch (Some kind) = P kind

  -- a view says such a kind
  abbrev IsSuch : View → Type 0
  IsSuch v = P v.kind

  basic_says : (basic : Option ℕ) → SaysSuch (view_of_basic basic)
  basic_says None = bytes
  basic_says (Some zero) = tt
  basic_says (Some (suc zero)) = bytes
  basic_says (Some (suc (suc n))) = numbers n

  pointer_says : (depth : ℕ) (basic : Option ℕ) → SaysSuch (view_of depth basic)
  unfolding view_of
  pointer_says (suc zero) basic = basic_says basic
  pointer_says (suc (suc zero)) basic = pointers
  pointer_says _ basic = bytes

  value_says : (c : Catalogue) (kind : Kind) (value : Value Target) → All IsSuch (view_by c kind value)
  value_says c (kinds.Pointer depth t) (Points (Some n)) = listed (view_of_type c depth t) (pointer_says depth _)
    where
      listed : (o : Option RawKind) → SaysSuch o → All IsSuch (elim o [ None ↦ [] | Some k ↦ record { node = n; kind = k } ∷ [] ])
      listed None says = All-nil IsSuch
      listed (Some k) says = All-cons IsSuch (record { node = n; kind = k }) [] says (All-nil IsSuch)
  value_says c _ _ = All-nil IsSuch

  -- so do all pointers among some cells
  pub cells_say : (c : Catalogue) (cs : List Cell) → All IsSuch (views_of c cs)
  cells_say c cs = All-flat_map IsSuch (λ (x : Cell). view_by c x.leaf.kind x.value) cs (λ x. value_says c x.leaf.kind x.value)

  if_such : (b : Bool) (k l : RawKind) → (b ≡ true → P k) → P l → P (cond b k l)
  if_such true k l one other = one refl
  if_such false k l one other = other

  common_such : (ks : List RawKind) → All P ks → P (common_kind ks)
  common_such [] all = bytes
  common_such (k ∷ ks) all = if_such (list_all (kind_eq k) ks) k raw.Bytes (λ same. All-head P k ks all) bytes

  -- the kind that such views give a node is such
  pub viewed_kind-such : (views : List View) (n : ℕ) → All (λ v. P v.kind) views → P (viewed_kind views n)
  viewed_kind-such views n all =
      let own : List View = filter (λ (v : View). v.node == n) views in
      common_such (map (λ (v : View). v.kind) own)
      (All-map P (λ (v : View). v.kind) own (All-filter (λ (v : View). v.node == n) IsSuch views all))

  -- and so is the kind of a raw node, if a pair is where it is long enough
  pub raw_kind-such : (views : List View) (code : List ℕ) (len n : ℕ) → All (λ v. P v.kind) views
      → (nat_le pair_length len ≡ true → P raw.Pair) → P (raw_kind views code len n)
  unfolding raw_kind
  raw_kind-such views code len n all pair =
      if_such (is_pair_code code) _ _ (λ own. if_such (nat_le pair_length len) raw.Pair raw.Bytes pair bytes) (viewed_kind-such views n all)
