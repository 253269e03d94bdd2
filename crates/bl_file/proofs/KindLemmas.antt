-- The kinds of nodes by the views of the raw ones, and that these are the kinds by all views.
use Rattle.std.proofs.Common.{◌≡◌, ◌<◌, ◌≤◌, ℕ, ◌+◌, Bool, true, false, cond, List, [], ◌∷◌, ◌++◌, length, get_or, take, refl, sym, ap, ◌∙◌, arith, eqb-true, append_assoc, subst}
use Rattle.std.specs.Prelude.{◌==◌, nat_le, map, filter}
use Rattle.std.specs.List.{enumerate_from}
use Rattle.std.proofs.lemmas.List.{take_more, take_all, map_push, length-map, length-take-le, length-append}
use Rattle.std.proofs.lemmas.List.FromFn.{length-enumerate_from}
use Rattle.bl_format.specs.declared.file.Head.{Head}
use Rattle.bl_format.specs.declared.raw.RawKind.{RawKind}
use Rattle.bl_format.specs.declared.raw.RawKind.TheVariants.{Bytes, Pair}
use Rattle.bl_format.specs.declared.raw.View.{View}
use Rattle.bl_format.specs.Words.{numbers_below}
use Rattle.bl_format.specs.Nodes.{is_pair_code, viewed_kind, raw_kind, common_kind}
use Rattle.bl_selection.proofs.EntriesAsNodes.{length-numbers_below}
use Rattle.bl_file.specs.Seen.{kind_seen, kinds_seen}
use Rattle.bl_file.specs.Views.{is_raw, raw_only, viewed_or_bytes, kind_by, kinds_by}
use Rattle.bl_file.proofs.IdLemmas.{get_or-by}
use Rattle.bl_file.proofs.GroupLemmas.{enumerate-push}
use Rattle.bl_file.proofs.PairLemmas.{AreViewed, viewed_no_pair}

-- ---- one node after another

-- the kinds of the first k nodes
abbrev pub KindsSoFar : List Head → List View → ℕ → List RawKind → Type 0
KindsSoFar nodes views k so_far = so_far ≡ kinds_by (take k nodes) views

-- as many kinds as nodes were viewed
pub viewed-long : (views : List View) (n : ℕ) (viewed : List RawKind) → viewed ≡ map (viewed_kind views) (numbers_below n) → length viewed ≡ n
viewed-long views n viewed is =
    ap (λ (ks : List RawKind). length ks) is ∙ length-map (numbers_below n) (viewed_kind views) ∙ length-numbers_below n

-- one node more
pub kinds-more : (nodes : List Head) (views : List View) (viewed so_far : List RawKind) (k : ℕ) (d : Head) (e own : RawKind)
    → viewed ≡ map (viewed_kind views) (numbers_below (length nodes)) → k < length nodes
    → own ≡ kind_by (get_or nodes k d) (get_or viewed k e)
    → KindsSoFar nodes views k so_far → KindsSoFar nodes views (k + 1) (so_far ++ own ∷ [])
kinds-more nodes views viewed so_far k d e own are lt is before =
    let x = get_or nodes k d in
    let kind : ℕ × Head → RawKind = λ p. kind_by p.1 (viewed_kind views p.0) in
    let long : 0 + length (take k nodes) ≡ k = omega (arith, length-take-le k nodes (omega (arith, lt))) in
    let here : get_or viewed k e ≡ viewed_kind views k =
    ap (λ (ks : List RawKind). get_or ks k e) are ∙ get_or-by (viewed_kind views) (length nodes) k e lt in
    ap (λ ks. ks ++ own ∷ []) before
    ∙ ap (λ o. kinds_by (take k nodes) views ++ o ∷ []) (is ∙ ap (kind_by x) here)
    ∙ sym (ap (λ (ys : List Head). map kind (enumerate_from 0 ys)) (take_more nodes k d lt)
    ∙ ap (map kind) (enumerate-push 0 (take k nodes) x)
    ∙ map_push kind (enumerate_from 0 (take k nodes)) (0 + length (take k nodes), x)
    ∙ ap (λ n. kinds_by (take k nodes) views ++ kind_by x (viewed_kind views n) ∷ []) long)

-- no node is left
pub kinds-all : (nodes : List Head) (views : List View) (so_far : List RawKind) (k : ℕ) → length nodes ≤ k
    → KindsSoFar nodes views k so_far → so_far ≡ kinds_by nodes views
kinds-all nodes views so_far k ge before = before ∙ ap (λ (ys : List Head). kinds_by ys views) (take_all k nodes ge)

-- there are as many kinds as nodes
pub kinds-long : (nodes : List Head) (views : List View) (kinds : List RawKind) → kinds ≡ kinds_by nodes views → length kinds ≡ length nodes
kinds-long nodes views kinds is =
    ap (λ (ks : List RawKind). length ks) is
    ∙ length-map (enumerate_from 0 nodes) (λ (p : ℕ × Head). kind_by p.1 (viewed_kind views p.0)) ∙ length-enumerate_from 0 nodes

-- ---- views of raw nodes are enough

kept_first : (a b : Bool) (v : View) (vs : List View) (n : ℕ) → (v.node == n) ≡ b → (b ≡ true → a ≡ true)
    → filter (λ (w : View). w.node == n) (cond a (v ∷ vs) vs) ≡ cond b (v ∷ filter (λ (w : View). w.node == n) vs) (filter (λ (w : View). w.node == n) vs)
kept_first true b v vs n is so = ap (λ t. cond t (v ∷ filter (λ (w : View). w.node == n) vs) (filter (λ (w : View). w.node == n) vs)) is
kept_first false true v vs n is so = absurd (let e : false ≡ true = so refl in cc)
kept_first false false v vs n is so = refl

-- the views of a raw node are those among the views of raw nodes
pub views_of_raw : (nodes : List Head) (n : ℕ) (vs : List View) → is_raw nodes n ≡ true
    → filter (λ (w : View). w.node == n) (raw_only nodes vs) ≡ filter (λ (w : View). w.node == n) vs
views_of_raw nodes n [] raw = refl
views_of_raw nodes n (v ∷ vs) raw =
    kept_first (is_raw nodes v.node) (v.node == n) v (raw_only nodes vs) n refl
    (λ same. let is : v.node ≡ n = eqb-true v.node n same in ap (is_raw nodes) is ∙ raw)
    ∙ ap (λ ws. cond (v.node == n) (v ∷ ws) ws) (views_of_raw nodes n vs raw)

raw_here : (i : ℕ) (front : List Head) (x : Head) (xs : List Head) → i ≡ length front → (x.index == 0) ≡ true → is_raw (front ++ x ∷ xs) i ≡ true
raw_here i [] x xs is raw = rw is raw
raw_here i (y ∷ ys) x xs is raw = rw is (raw_here (length ys) ys x xs refl raw)

same_kind : (nodes : List Head) (views : List View) (i : ℕ) (x : Head) → AreViewed views → ((x.index == 0) ≡ true → is_raw nodes i ≡ true)
    → kind_by x (viewed_kind (raw_only nodes views) i) ≡ kind_seen views i x
unfolding raw_kind
same_kind nodes views i x all so = by (x.index == 0) refl
  where
    by : (b : Bool) → (x.index == 0) ≡ b
        → cond b (cond (is_pair_code x.code) (cond (nat_le 8 x.len) Pair Bytes) (viewed_or_bytes (viewed_kind (raw_only nodes views) i))) Bytes
        ≡ cond b (cond (is_pair_code x.code) (cond (nat_le 8 x.len) Pair Bytes) (viewed_kind views i)) Bytes
    by true is =
        ap (λ (vs : List View). cond (is_pair_code x.code) (cond (nat_le 8 x.len) Pair Bytes) (viewed_or_bytes (common_kind (map (λ (v : View). v.kind) vs))))
        (views_of_raw nodes i views (so is))
        ∙ ap (cond (is_pair_code x.code) (cond (nat_le 8 x.len) Pair Bytes)) (viewed_no_pair views i all)
    by false is = refl

same_kinds : (views : List View) (i : ℕ) (front xs : List Head) → AreViewed views → i ≡ length front
    → map (λ (p : ℕ × Head). kind_by p.1 (viewed_kind (raw_only (front ++ xs) views) p.0)) (enumerate_from i xs)
    ≡ map (λ (p : ℕ × Head). kind_seen views p.0 p.1) (enumerate_from i xs)
same_kinds views i front [] all is = refl
same_kinds views i front (x ∷ xs) all is =
    let more : (front ++ x ∷ []) ++ xs ≡ front ++ x ∷ xs = append_assoc front (x ∷ []) xs in
    let long : i + 1 ≡ length (front ++ x ∷ []) = omega (arith, is, length-append front (x ∷ [])) in
    let later = same_kinds views (i + 1) (front ++ x ∷ []) xs all long in
    let there : map (λ (p : ℕ × Head). kind_by p.1 (viewed_kind (raw_only (front ++ x ∷ xs) views) p.0)) (enumerate_from (i + 1) xs)
    ≡ map (λ (p : ℕ × Head). kind_seen views p.0 p.1) (enumerate_from (i + 1) xs) =
    subst (λ ys. map (λ (p : ℕ × Head). kind_by p.1 (viewed_kind (raw_only ys views) p.0)) (enumerate_from (i + 1) xs)
    ≡ map (λ (p : ℕ × Head). kind_seen views p.0 p.1) (enumerate_from (i + 1) xs)) more later in
    ap (λ k. k ∷ map (λ (p : ℕ × Head). kind_by p.1 (viewed_kind (raw_only (front ++ x ∷ xs) views) p.0)) (enumerate_from (i + 1) xs))
    (same_kind (front ++ x ∷ xs) views i x all (raw_here i front x xs is))
    ∙ ap (λ ks. kind_seen views i x ∷ ks) there

-- the kinds by the views of raw nodes are the kinds by all
pub kinds_by-kinds_seen : (nodes : List Head) (views : List View) → AreViewed views → kinds_by nodes (raw_only nodes views) ≡ kinds_seen nodes views
unfolding kinds_seen
kinds_by-kinds_seen nodes views all = same_kinds views 0 [] nodes all refl
