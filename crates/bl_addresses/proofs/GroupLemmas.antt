-- The groups of nodes, counted one after another.
use Rattle.std.proofs.Common.{◌≡◌, ◌<◌, ◌≤◌, ℕ, suc, ◌+◌, Bool, true, false, cond, not, List, [], ◌∷◌, ◌++◌, length, get_or, take, refl, sym, ap, ◌∙◌, arith}
use Rattle.std.specs.Prelude.{map, count_by}
use Rattle.std.specs.List.{enumerate_from}
use Rattle.std.proofs.lemmas.List.{get_or-map, take_more, map_push, length-map, length-take-le, take_all}
use Rattle.std.proofs.lemmas.List.FromFn.{length-enumerate_from}
use Rattle.std.proofs.lemmas.List.Sums.{sum_by_push, count_by-le-length}
use Rattle.bl_format.specs.declared.file.Head.{Head}
use Rattle.bl_format.specs.Nodes.{group_of, is_data}

-- the codes of some nodes
abbrev pub codes_of : List Head → List (List ℕ)
codes_of nodes = map (λ (x : Head). x.code) nodes

-- a code heads a group
abbrev pub is_head : List ℕ → Bool
is_head code = not (is_data code)

-- the groups of the first i nodes, and how many heads they have
pub record GroupsSoFar (nodes : List Head) (i heads : ℕ) (so_far : List ℕ) : Type 0 where
  pub count : heads ≡ count_by is_head (take i (codes_of nodes))
  pub groups : so_far ≡ map (λ p. group_of (codes_of nodes) p.0) (enumerate_from 0 (take i nodes))

-- at the start there is none
pub groups-none : (nodes : List Head) → GroupsSoFar nodes 0 0 []
groups-none nodes = record { count = refl; groups = refl }

-- one element more, with its number
pub enumerate-push : {X : Type 0} (i : ℕ) (xs : List X) (x : X)
    → enumerate_from i (xs ++ x ∷ []) ≡ enumerate_from i xs ++ (i + length xs, x) ∷ []
enumerate-push i [] x = let here : i ≡ i + 0 = omega arith in ap (λ n. (n, x) ∷ []) here
enumerate-push i (y ∷ ys) x =
    let far : (i + 1) + length ys ≡ i + suc (length ys) = omega arith in
    ap (λ ps. (i, y) ∷ ps) (enumerate-push (i + 1) ys x ∙ ap (λ n. enumerate_from (i + 1) ys ++ (n, x) ∷ []) far)

counted : (b : Bool) (n : ℕ) → cond b n (suc n) ≡ n + cond (not b) 1 0
counted true n = omega arith
counted false n = omega arith

-- one node more
pub groups-more : (nodes : List Head) (i before after : ℕ) (groups : List ℕ) (d : Head) → i < length nodes
    → after ≡ cond (is_data (get_or nodes i d).code) before (suc before) → GroupsSoFar nodes i before groups
    → GroupsSoFar nodes (i + 1) after (groups ++ after ∷ [])
groups-more nodes i before after groups d lt is so_far =
    let codes = codes_of nodes in
    let x = get_or nodes i d in
    let many : length codes ≡ length nodes = length-map nodes (λ (y : Head). y.code) in
    let more : take (i + 1) codes ≡ take i codes ++ x.code ∷ [] =
    take_more codes i [] (omega (arith, many, lt))
    ∙ ap (λ (code : List ℕ). take i codes ++ code ∷ []) (get_or-map (λ (y : Head). y.code) nodes i d [] lt) in
    let count : after ≡ count_by is_head (take (i + 1) codes) =
    is ∙ counted (is_data x.code) before ∙ ap (λ n. n + cond (is_head x.code) 1 0) so_far.count
    ∙ sym (ap (count_by is_head) more ∙ sum_by_push (λ code. cond (is_head code) 1 0) (take i codes) x.code) in
    let next : i + 1 ≡ suc i = omega arith in
    let own : after ≡ group_of codes i = count ∙ ap (λ n. count_by is_head (take n codes)) next in
    let long : 0 + length (take i nodes) ≡ i = omega (arith, length-take-le i nodes (omega (arith, lt))) in
    let group : ℕ × Head → ℕ = λ p. group_of codes p.0 in
    record {
      count = count;
      groups = ap (λ gs. gs ++ after ∷ []) so_far.groups
          ∙ ap (λ g. map group (enumerate_from 0 (take i nodes)) ++ g ∷ []) own
          ∙ sym (ap (λ (ys : List Head). map group (enumerate_from 0 ys)) (take_more nodes i d lt)
          ∙ ap (map group) (enumerate-push 0 (take i nodes) x)
          ∙ map_push group (enumerate_from 0 (take i nodes)) (0 + length (take i nodes), x)
          ∙ ap (λ n. map group (enumerate_from 0 (take i nodes)) ++ group_of codes n ∷ []) long);
    }

-- no more heads than nodes
pub groups-few : (nodes : List Head) (i before : ℕ) (groups : List ℕ) → i ≤ length nodes
    → GroupsSoFar nodes i before groups → before ≤ i
groups-few nodes i before groups le so_far =
    let many : length (codes_of nodes) ≡ length nodes = length-map nodes (λ (y : Head). y.code) in
    omega (arith, so_far.count, count_by-le-length is_head (take i (codes_of nodes)), length-take-le i (codes_of nodes) (omega (arith, many, le)))

-- as many groups as nodes
pub groups-long : (nodes : List Head) (groups : List ℕ)
    → groups ≡ map (λ p. group_of (codes_of nodes) p.0) (enumerate_from 0 nodes) → length groups ≡ length nodes
groups-long nodes groups is =
    ap (λ (gs : List ℕ). length gs) is ∙ length-map (enumerate_from 0 nodes) (λ (p : ℕ × Head). group_of (codes_of nodes) p.0)
    ∙ length-enumerate_from 0 nodes

-- where no node is left these are the groups of all
pub groups-all : (nodes : List Head) (i before : ℕ) (groups : List ℕ) → length nodes ≤ i
    → GroupsSoFar nodes i before groups → groups ≡ map (λ p. group_of (codes_of nodes) p.0) (enumerate_from 0 nodes)
groups-all nodes i before groups ge so_far =
    so_far.groups ∙ ap (λ (ys : List Head). map (λ p. group_of (codes_of nodes) p.0) (enumerate_from 0 ys)) (take_all i nodes ge)
