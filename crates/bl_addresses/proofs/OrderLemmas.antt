-- Which rows a scope has, and how they are sorted.
use Rattle.std.proofs.Common.{◌≡◌, ◌<◌, ◌≤◌, inl, inr, ℕ, ◌+◌, ◌∙◌, Bool, true, false, List, [], ◌∷◌, ◌++◌, length, get_or, refl, sym, subst, arith}
use Rattle.std.specs.Prelude.{All, Contains, not}
use Rattle.std.specs.Ordering.{is_lt}
use Rattle.std.specs.List.{IsAllAdjacentAnswer}
use Rattle.std.specs.List.Sorted.{IsPartitionedBy, IsPermutation}
use Rattle.std.proofs.lemmas.Bool.{cases_lt}
use Rattle.std.proofs.lemmas.List.Elements.{All-push, Contains-append_left, Contains-push}
use Rattle.std.proofs.lemmas.List.Sorted.{sorted_far, ranks_by, All-permutation, Contains-permutation}
use Rattle.bl_format.specs.Nodes.{Mark}
use Rattle.bl_addresses.specs.declared.marks.Place.{Place}
use Rattle.bl_addresses.specs.declared.marks.Row.{Row}
use Rattle.bl_addresses.specs.declared.marks.Scope.{Scope}
use Rattle.bl_addresses.specs.Marks.{mark_at, is_member, is_up_to, place_of, row_of}
use Rattle.bl_addresses.specs.Order.{IsMember, IsRow, AreMembers, AreSorted, key, key_cmp}
use Rattle.bl_addresses.proofs.PlaceLemmas.{key_total, IsNoLater, no_later, IsUpTo, up_to_means, up_to_from}

-- the rows are those of the nodes below k that are looked up in the scope
pub record HasMembersBelow (scope : Scope) (marks : List Mark) (k : ℕ) (rows : List Row) : Type 0 where
  pub inside : All (IsRow scope marks) rows
  pub whole : (n : ℕ) → n < k → IsMember scope marks n → Contains rows (row_of scope (mark_at marks n) n)

-- with the row of node k they are those of the nodes up to it
pub members_push : (scope : Scope) (marks : List Mark) (k : ℕ) (rows : List Row) (m : Mark) → k < length marks
    → m ≡ mark_at marks k → is_member scope m ≡ true
    → HasMembersBelow scope marks k rows → HasMembersBelow scope marks (k + 1) (rows ++ row_of scope m k ∷ [])
members_push scope marks k rows m lt is passes below =
    subst (λ (n : Mark). HasMembersBelow scope marks (k + 1) (rows ++ row_of scope n k ∷ [])) (sym is) more
  where
    own : Row
    own = row_of scope (mark_at marks k) k

    member : is_member scope (mark_at marks k) ≡ true
    member = subst (λ n. is_member scope n ≡ true) is passes

    more : HasMembersBelow scope marks (k + 1) (rows ++ own ∷ [])
    more = record {
      inside = All-push (IsRow scope marks) rows own below.inside ((lt, member), refl);
      whole = λ n less of. elim (cases_lt n k) [
        | inl before ↦ Contains-append_left rows (own ∷ []) _ (below.whole n before of)
        | inr le ↦ (let same : k ≡ n = omega (arith, le, less) in
            subst (λ j. Contains (rows ++ own ∷ []) (row_of scope (mark_at marks j) j)) same (Contains-push rows own))
      ];
    }

-- where node k isn't looked up they are those of the nodes up to it already
pub members_skip : (scope : Scope) (marks : List Mark) (k : ℕ) (rows : List Row) (m : Mark)
    → m ≡ mark_at marks k → is_member scope m ≡ false
    → HasMembersBelow scope marks k rows → HasMembersBelow scope marks (k + 1) rows
members_skip scope marks k rows m is fails below = record {
  inside = below.inside;
  whole = λ n less of. elim (cases_lt n k) [
    | inl before ↦ below.whole n before of
    | inr le ↦ (let same : n ≡ k = omega (arith, le, less) in
        let own : is_member scope (mark_at marks k) ≡ true = subst (λ j. is_member scope (mark_at marks j) ≡ true) same of.1 in
        let none : is_member scope (mark_at marks k) ≡ false = subst (λ n. is_member scope n ≡ false) is fails in
        absurd (cc (own, none)))
  ];
}

-- the rows of the nodes below the last one are all
pub members_all : (scope : Scope) (marks : List Mark) (k : ℕ) (rows : List Row) → length marks ≤ k
    → HasMembersBelow scope marks k rows → AreMembers scope marks rows
members_all scope marks k rows le below = record {
  inside = below.inside;
  whole = λ n of. (let lt = of.0 in below.whole n (omega (arith, lt, le)) of);
}

-- rows in another order are those of the same nodes
pub members_moved : (scope : Scope) (marks : List Mark) (rows moved : List Row) → IsPermutation rows moved
    → AreMembers scope marks rows → AreMembers scope marks moved
members_moved scope marks rows moved perm members = record {
  inside = All-permutation (IsRow scope marks) rows moved perm members.inside;
  whole = λ n m. Contains-permutation _ _ _ perm (members.whole n m);
}

not_true : (b : Bool) → true ≡ not b → b ≡ false
not_true true e = absurd (cc)
not_true false e = refl

-- rows of which each two side by side are found in order are sorted
pub sorted_by_answers : (rows : List Row) (r : Bool) → r ≡ true
    → IsAllAdjacentAnswer (λ (x y : Row) b. b ≡ not (is_lt (key_cmp (key y) (key x)))) rows r → AreSorted rows
sorted_by_answers rows true is answers = λ k d low lt. not_true _ (answers k d lt)
sorted_by_answers rows false is answers = absurd (cc)

-- of two rows in order the first is no later
pub in_order : (rows : List Row) → AreSorted rows → (i j : ℕ) (d : Row) → i ≤ j → j < length rows
    → IsNoLater (place_of (get_or rows i d)) (get_or rows i d).node (place_of (get_or rows j d)) (get_or rows j d).node
in_order rows sorted i j d le lt =
    let p = get_or rows i d in
    let q = get_or rows j d in
    no_later (place_of p) (place_of q) p.node q.node
    (sorted_far (λ x y. is_lt (key_cmp (key x) (key y))) (ranks_by key_total key) rows sorted i j d le lt)

-- what is no later than a place up to a bound is up to it
earlier : (bound p q : Place) (m n : ℕ) → IsNoLater p m q n → IsUpTo bound q → IsUpTo bound p
earlier bound p q m n no_later up = elim no_later [
  | inl less ↦ elim up [
    | inl q_less ↦ inl (omega (arith, less, q_less))
    | inr q_same ↦ (let at = q_same.0 in inl (omega (arith, less, at)))
  ]
  | inr same ↦ (let part = same.0 in elim up [
    | inl q_less ↦ inl (omega (arith, part, q_less))
    | inr q_same ↦ (let at = q_same.0 in let le = q_same.1 in elim same.1 [
      | inl less ↦ inr (part ∙ at, omega (arith, less, le))
      | inr equal ↦ (let address = equal.0 in inr (part ∙ at, omega (arith, address, le)))
    ])
  ])
]

-- the rows up to a place come first
pub order_splits : (rows : List Row) (place : Place) → AreSorted rows
    → IsPartitionedBy (λ r. is_up_to place (place_of r)) rows
order_splits rows place sorted i j d le lt up =
    let m = get_or rows i d in
    let n = get_or rows j d in
    let p = place_of m in
    let q = place_of n in
    let no_later = in_order rows sorted i j d le lt in
    up_to_from place p (earlier place p q m.node n.node no_later (up_to_means place q up))
