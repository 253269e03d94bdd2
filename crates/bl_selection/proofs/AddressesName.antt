-- The address of a node names that node wherever it is in scope, since no two nodes of a graph have one address.
use Rattle.std.proofs.Common.{◌≡◌, ◌≢◌, ℕ, zero, suc, ◌+◌, ◌<◌, Bool, true, false, cond, List, [], ◌∷◌, length, get_or, Option, Some, None, refl, ap, subst, ◌∙◌, arith}
use Rattle.std.specs.Prelude.{◌&&◌, ◌||◌, ◌==◌, map}
use Rattle.std.specs.List.{enumerate_from}
use Rattle.std.specs.Option.{option_or}
use Rattle.std.proofs.lemmas.Bool.{ne_eqb}
use Rattle.std.proofs.lemmas.Bool.Decides.{Decides-eqb}
use Rattle.std.proofs.lemmas.List.{get_or-map, length-map}
use Rattle.std.proofs.lemmas.List.FromFn.{length-enumerate_from, get_or-enumerate_from}
use Rattle.bl_format.specs.declared.catalogue.Catalogue.{Catalogue}
use Rattle.bl_format.specs.Words.{last_from}
use Rattle.bl_format.specs.Nodes.{Mark, group_of, target_of}
use Rattle.bl_format.specs.Graph.{Target, Node}
use Rattle.bl_selection.specs.Written.{address_of}
use Rattle.bl_selection.specs.GraphFits.{node_codes, no_node, mark_in, graph_marks, names_for, IsInScope}

and_true : (b : Bool) → (b && true) ≡ b
and_true true = refl
and_true false = refl

and_false : (b : Bool) → (b && false) ≡ false
and_false true = refl
and_false false = refl

or_none : (o : Option ℕ) → option_or o None ≡ o
or_none None = refl
or_none (Some x) = refl

-- from a place on, marks have the addresses of their places
abbrev pub HaveAddresses : ℕ → List Mark → Type 0
HaveAddresses i [] = Unit {0}
HaveAddresses i (m ∷ ms) = (m.address ≡ address_of (Some i)) × HaveAddresses (suc i) ms

module _ (extra : Mark → Bool) (t : ℕ) where
  -- a mark has the address of node t, and passes another test
  abbrev test : Mark → Bool
  test m = extra m && m.address == address_of (Some t)

  test_fails : (m : Mark) (i : ℕ) → t ≢ i → m.address ≡ address_of (Some i) → test m ≡ false
  test_fails m i differ is =
      rw (ne_eqb m.address (address_of (Some t)) (λ same. differ (omega (arith, is, same)))) (and_false (extra m))

  none_behind : (i : ℕ) (ms : List Mark) → t < i → HaveAddresses i ms → last_from test i ms ≡ None
  none_behind i [] lt have = refl
  none_behind i (m ∷ ms) lt have =
      rw (none_behind (suc i) ms (omega (arith, lt)) have.1, test_fails m i (λ same. omega (arith, same, lt)) have.0) refl

  one_there : (n i : ℕ) (ms : List Mark) (d : Mark) → t ≡ i + n → n < length ms → HaveAddresses i ms
      → last_from test i ms ≡ cond (extra (get_or ms n d)) (Some t) None
  one_there n i [] d is lt have = absurd (omega arith)
  one_there zero i (m ∷ ms) d is lt have =
      let here : i ≡ t = omega (arith, is) in
      let same : (m.address == address_of (Some t)) ≡ true = (Decides-eqb m.address (address_of (Some t))).1 (omega (arith, have.0, here)) in
      rw (none_behind (suc i) ms (omega (arith, here)) have.1, same, and_true (extra m)) (ap (λ (j : ℕ). cond (extra m) (Some j) None) here)
  one_there (suc n) i (m ∷ ms) d is lt have =
      let other : test m ≡ false = test_fails m i (λ same. omega (arith, same, is)) have.0 in
      let later = one_there n (suc i) ms d (omega (arith, is)) (omega arith) have.1 in
      ap (λ (b : Bool). option_or (last_from test (suc i) ms) (cond b (Some i) None)) other ∙ or_none (last_from test (suc i) ms) ∙ later

either_found : (a b : Bool) (t : ℕ) → (a || b) ≡ true → option_or (cond a (Some t) None) (cond b (Some t) None) ≡ Some t
either_found true b t e = refl
either_found false true t e = refl
either_found false false t e = absurd (cc)

-- the address of a node of the group, or of an ID, names it
target_of-address : (ms : List Mark) (g t : ℕ) (d : Mark) → HaveAddresses 0 ms → t < length ms
    → ((get_or ms t d).group == g || (get_or ms t d).is_an_id) ≡ true → target_of ms g (address_of (Some t)) ≡ Some t
unfolding target_of
target_of-address ms g t d have lt scope =
    let some : (address_of (Some t) == 0) ≡ false = ne_eqb (address_of (Some t)) 0 (λ same. omega (arith, same)) in
    let in_group = one_there (λ (n : Mark). n.group == g) t t 0 ms d (omega arith) lt have in
    let id = one_there (λ (n : Mark). n.is_an_id) t t 0 ms d (omega arith) lt have in
    rw (some, in_group, id) (either_found ((get_or ms t d).group == g) (get_or ms t d).is_an_id t scope)

marks_have_addresses : (c : Catalogue) (nodes : List Node) (k : ℕ) (xs : List Node)
    → HaveAddresses k (map (λ p. mark_in c nodes p.0 p.1) (enumerate_from k xs))
marks_have_addresses c nodes k [] = tt
marks_have_addresses c nodes k (x ∷ xs) =
    let next : k + 1 ≡ suc k = omega arith in
    (refl, subst (λ (i : ℕ). HaveAddresses i (map (λ p. mark_in c nodes p.0 p.1) (enumerate_from (k + 1) xs))) next (marks_have_addresses c nodes (k + 1) xs))

-- in node k, the address of what is in scope names it
pub names_for-in_scope : (c : Catalogue) (nodes : List Node) (k : ℕ) (to : Target)
    → IsInScope c nodes k to → names_for c nodes k (address_of to) ≡ to
unfolding graph_marks target_of
names_for-in_scope c nodes k None scope = refl
names_for-in_scope c nodes k (Some t) scope =
    let pairs : List (ℕ × Node) = enumerate_from 0 nodes in
    let make : ℕ × Node → Mark = λ p. mark_in c nodes p.0 p.1 in
    let within : t < length pairs = omega (arith, scope.0, length-enumerate_from 0 nodes) in
    let none : ℕ × Node = (0, no_node) in
    let place : get_or pairs t none ≡ (0 + t, get_or nodes t no_node) = get_or-enumerate_from 0 nodes t none scope.0 in
    let zero_more : 0 + t ≡ t = omega arith in
    let own : get_or (map make pairs) t (make none) ≡ mark_in c nodes t (get_or nodes t no_node) = get_or-map make pairs t none (make none) within ∙ ap make place ∙ ap (λ (i : ℕ). mark_in c nodes i (get_or nodes t no_node)) zero_more in
    target_of-address (map make pairs) (group_of (node_codes nodes) k) t (make none) (marks_have_addresses c nodes 0 nodes) (omega (arith, within, length-map pairs make))
    (ap (λ (m : Mark). m.group == group_of (node_codes nodes) k || m.is_an_id) own ∙ scope.1)
