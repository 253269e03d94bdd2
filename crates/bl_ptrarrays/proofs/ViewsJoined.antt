-- Views that are joined one by one give the kind that all views of a node agree on.
use Rattle.std.proofs.Common.{◌≡◌, ℕ, ◌+◌, ◌≤◌, ◌<◌, Bool, true, false, cond, All, List, [], ◌∷◌, length, get_or, Option, Some, None, refl, sym, ap, ◌∙◌, arith, drop_of_length-le}
use Rattle.std.specs.Prelude.{◌==◌, ◌&&◌, map, filter, set, unwrap_or, drop, replicate}
use Rattle.std.specs.List.{list_all}
use Rattle.std.proofs.lemmas.Bool.{eqb-true, eqb-false}
use Rattle.std.proofs.lemmas.List.{length-set, length-map, get_or-map, get_or-set_same, get_or-set_other, get_or-replicate, ext_get_or, drop_more, length-replicate}
use Rattle.std.proofs.lemmas.List.Elements.{All-tail}
use Rattle.bl_format.specs.declared.raw.RawKind.{RawKind}
use Rattle.bl_format.specs.declared.raw.RawKind.TheVariants.{Bytes}
use Rattle.bl_format.specs.declared.raw.View.{View}
use Rattle.bl_format.specs.Words.{numbers_below}
use Rattle.bl_format.specs.Nodes.{kind_eq, common_kind, viewed_kind}
use Rattle.bl_format.proofs.NumbersBelow.{get_or-numbers_below, length-numbers_below}
use Rattle.bl_ptrarrays.specs.Joined.{joined, joined_views}

-- ---- one node

-- the kinds that some views give a node
abbrev pub kinds_at : List View → ℕ → List RawKind
kinds_at vs n = map (λ (v : View). v.kind) (filter (λ (v : View). v.node == n) vs)

-- the kind of a node after some views of it
abbrev pub joined_all : Option RawKind → List RawKind → Option RawKind
joined_all before [] = before
joined_all before (k ∷ ks) = joined_all (Some (joined before k)) ks

bytes_anyway : (b : Bool) → cond b Bytes Bytes ≡ Bytes
bytes_anyway true = refl
bytes_anyway false = refl

joined_all-first : (k : RawKind) (ks : List RawKind)
    → unwrap_or (joined_all (Some k) ks) Bytes ≡ cond (list_all (kind_eq k) ks) k Bytes
joined_all-first k [] = refl
joined_all-first k (l ∷ ks) =
    by (kind_eq k l) (joined_all-first k ks) (joined_all-first Bytes ks ∙ bytes_anyway (list_all (kind_eq Bytes) ks))
  where
    by : (b : Bool) → unwrap_or (joined_all (Some k) ks) Bytes ≡ cond (list_all (kind_eq k) ks) k Bytes
        → unwrap_or (joined_all (Some Bytes) ks) Bytes ≡ Bytes
        → unwrap_or (joined_all (Some (cond b k Bytes)) ks) Bytes ≡ cond (b && list_all (kind_eq k) ks) k Bytes
    by true same other = same
    by false same other = other

-- views joined one by one are the kind on which all agree
joined_all-common : (ks : List RawKind) → unwrap_or (joined_all None ks) Bytes ≡ common_kind ks
joined_all-common [] = refl
joined_all-common (k ∷ ks) = joined_all-first k ks

-- ---- all nodes

-- each node keeps its place
pub length-joined_views : (vs : List View) (kinds : List (Option RawKind)) → length (joined_views vs kinds) ≡ length kinds
unfolding joined_views
length-joined_views [] kinds = refl
length-joined_views (v ∷ vs) kinds =
    let next : Option RawKind = Some (joined (get_or kinds v.node None) v.kind) in
    length-joined_views vs (set kinds v.node next) ∙ length-set kinds v.node next

joined_views-at : (vs : List View) (kinds : List (Option RawKind)) (n : ℕ)
    → All (λ v. v.node < length kinds) vs → n < length kinds
    → get_or (joined_views vs kinds) n None ≡ joined_all (get_or kinds n None) (kinds_at vs n)
unfolding joined_views
joined_views-at [] kinds n all lt = refl
joined_views-at (v ∷ vs) kinds n all lt =
    let next : Option RawKind = Some (joined (get_or kinds v.node None) v.kind) in
    let more : List (Option RawKind) = set kinds v.node next in
    let long : length more ≡ length kinds = length-set kinds v.node next in
    joined_views-at vs more n (λ i d below. omega (arith, long, All-tail (λ v. v.node < length kinds) v vs all i d below)) (omega (arith, long, lt))
    ∙ by (v.node == n) refl
  where
    by : (b : Bool) → (v.node == n) ≡ b
        → joined_all (get_or (set kinds v.node (Some (joined (get_or kinds v.node None) v.kind))) n None) (kinds_at vs n)
        ≡ joined_all (get_or kinds n None) (map (λ (v : View). v.kind) (cond b (v ∷ filter (λ (v : View). v.node == n) vs) (filter (λ (v : View). v.node == n) vs)))
    by true is =
        let same : v.node ≡ n = eqb-true v.node n is in
        let next : Option RawKind = Some (joined (get_or kinds v.node None) v.kind) in
        ap (λ (o : Option RawKind). joined_all o (kinds_at vs n))
        (ap (λ (m : ℕ). get_or (set kinds v.node next) m None) (sym same)
        ∙ get_or-set_same kinds v.node next None (omega (arith, lt, same))
        ∙ ap (λ (m : ℕ). Some (joined (get_or kinds m None) v.kind)) same)
    by false is =
        let next : Option RawKind = Some (joined (get_or kinds v.node None) v.kind) in
        ap (λ (o : Option RawKind). joined_all o (kinds_at vs n))
        (get_or-set_other kinds v.node n next None (λ same. eqb-false v.node n is (sym same)))

-- ---- the law

-- all views joined from nothing give each node the kind that its views give
pub joined_views-viewed : (seen : List View) (nodes : ℕ) → All (λ v. v.node < nodes) seen
    → map (λ o. unwrap_or o Bytes) (joined_views seen (replicate nodes None)) ≡ map (viewed_kind seen) (numbers_below nodes)
joined_views-viewed seen nodes all =
    let start : List (Option RawKind) = replicate nodes None in
    let many : length start ≡ nodes = length-replicate {A = Option RawKind} nodes None in
    let joined_kinds : List (Option RawKind) = joined_views seen start in
    let as_many : length joined_kinds ≡ nodes = length-joined_views seen start ∙ many in
    let or_bytes : Option RawKind → RawKind = λ o. unwrap_or o Bytes in
    let mapped : length (map or_bytes joined_kinds) ≡ nodes = length-map joined_kinds or_bytes ∙ as_many in
    ext_get_or Bytes (map or_bytes joined_kinds) (map (viewed_kind seen) (numbers_below nodes))
    (mapped ∙ sym (length-map (numbers_below nodes) (viewed_kind seen) ∙ length-numbers_below nodes))
    (λ n lt.
    let below : n < nodes = omega (arith, lt, mapped) in
    get_or-map or_bytes joined_kinds n None Bytes (omega (arith, below, as_many))
    ∙ ap or_bytes (joined_views-at seen start n (λ i d within. omega (arith, many, all i d within)) (omega (arith, below, many))
    ∙ ap (λ (o : Option RawKind). joined_all o (kinds_at seen n)) (get_or-replicate nodes n None None below))
    ∙ joined_all-common (kinds_at seen n)
    ∙ sym (get_or-map (viewed_kind seen) (numbers_below nodes) n 0 Bytes (omega (arith, below, length-numbers_below nodes))
    ∙ ap (viewed_kind seen) (get_or-numbers_below nodes n 0 below)))

-- ---- the loop

-- one view more
pub joined_views-next : (seen : List View) (i : ℕ) (d : View) (k : RawKind) (kinds end : List (Option RawKind))
    → i < length seen → joined_views (drop i seen) kinds ≡ end
    → k ≡ joined (get_or kinds (get_or seen i d).node None) (get_or seen i d).kind
    → joined_views (drop (i + 1) seen) (set kinds (get_or seen i d).node (Some k)) ≡ end
unfolding joined_views
joined_views-next seen i d k kinds end lt left is =
    let v : View = get_or seen i d in
    ap (λ (l : RawKind). joined_views (drop (i + 1) seen) (set kinds v.node (Some l))) is
    ∙ sym (ap (λ (vs : List View). joined_views vs kinds) (drop_more seen i d lt)) ∙ left

-- no view is left
pub joined_views-end : (seen : List View) (i : ℕ) (kinds end : List (Option RawKind))
    → length seen ≤ i → joined_views (drop i seen) kinds ≡ end → kinds ≡ end
unfolding joined_views
joined_views-end seen i kinds end le left =
    sym (ap (λ (xs : List View). joined_views xs kinds) (drop_of_length-le seen le)) ∙ left
