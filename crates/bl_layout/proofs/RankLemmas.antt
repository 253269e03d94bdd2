-- Ranks that don't rise along links.
use Rattle.std.proofs.Common.{◌≡◌, ℕ, zero, suc, eq-eqb, ◌≤◌, ◌<◌, Bool, true, false, eqb, List, [], ◌∷◌, length, get_or, Option, Some, None, refl, sym, ◌∙◌, ap, arith, inl, inr}
use Rattle.std.specs.Prelude.{◌&&◌, slice_index, nat_lt}
use Rattle.std.specs.List.{list_all}
use Rattle.std.proofs.lemmas.Bool.{ltb-true, eqb-true, or_cases, or_left, or_right}
use Rattle.std.specs.declared.vec.Vec.{Vec}
use Rattle.std.specs.declared.alloc.Global.{Global}
use Rattle.bl_format.specs.Words.{contains, IsChain}
use Rattle.bl_format.specs.declared.catalogue.Catalogue.{Catalogue}
use Rattle.bl_format.specs.Layout.{member_count, inner_struct, leads_back}
use Rattle.bl_format.proofs.Closure.{numbers_reached-chain}
use Rattle.bl_layout.specs.Check.{IsFirstBack}
use Rattle.bl_layout.specs.Graph.{AreInnerStructs, AreRanks, links_of, leads, reaches, StaysInside}
use Rattle.bl_layout.proofs.SearchLemmas.{in_one}
use Rattle.bl_layout.proofs.GraphLemmas.{leads_back-reaches, inner_held}

-- no rank rises along a chain
chain_falls : (links : List (List ℕ)) (ranks : List ℕ) (x : ℕ) (ys : List ℕ) (end : ℕ)
    → AreRanks links ranks → IsChain (leads links) x ys end → slice_index ranks end ≤ slice_index ranks x
chain_falls links ranks x [] end are chain = rw chain (omega arith)
chain_falls links ranks x (y ∷ ys) end are chain = omega (arith, chain_falls links ranks y ys end are chain.1, are.falls x y chain.0)

-- a number of a lower rank doesn't reach one
below_unreached : (links : List (List ℕ)) (ranks : List ℕ) (t s : ℕ) → AreRanks links ranks → slice_index ranks t < slice_index ranks s → reaches links t s ≡ false
below_unreached links ranks t s are lt = go (reaches links t s) refl
  where
    go : (b : Bool) → reaches links t s ≡ b → b ≡ false
    go false e = refl
    go true e =
        let r = numbers_reached-chain (leads links) (length links) (t ∷ []) (length links) s e in
        let root : t ≡ r.root = in_one t r.root r.is_root in
        let falls : slice_index ranks s ≤ slice_index ranks t = rw root (chain_falls links ranks r.root r.others s are r.chain) in
        absurd (omega arith)

pub all_at : (p : ℕ → Bool) (xs : List ℕ) (x : ℕ) → list_all p xs ≡ true → contains xs x ≡ true → p x ≡ true
all_at p [] x all e = absurd cc
all_at p (y ∷ ys) x all e = go (p y) refl all (λ rest. all_at p ys x rest)
  where
    go : (b : Bool) → p y ≡ b → (b && list_all p ys) ≡ true → (list_all p ys ≡ true → contains ys x ≡ true → p x ≡ true) → p x ≡ true
    go true is all later = elim (or_cases (eqb y x) (contains ys x) e) [
      | inl same ↦ (let at : y ≡ x = eqb-true y x same in rw (← at) is)
      | inr held ↦ later all held
    ]
    go false is all later = absurd cc

-- a struct whose rank is above those of the structs in it isn't led back to
pub above_first : (c : Catalogue) (inner : List (Vec ℕ Global)) (ranks : List ℕ) (s : ℕ)
    → AreInnerStructs c inner → AreRanks (links_of inner) ranks
    → list_all (λ t. nat_lt (slice_index ranks t) (slice_index ranks s)) (get_or (links_of inner) s []) ≡ true
    → IsFirstBack c s (member_count c s)
above_first c inner ranks s are_inner are above = record {
  before = λ k lt. none k lt (inner_struct c s k) refl;
  at = λ lt. absurd (omega arith);
  within = omega arith;
}
  where
    none : (k : ℕ) → k < member_count c s → (o : Option ℕ) → inner_struct c s k ≡ o → leads_back c s o ≡ false
    none k lt None e = refl
    none k lt (Some t) e =
        let link : leads (links_of inner) s t ≡ true = inner_held c inner s k t are_inner lt e in
        let less : slice_index ranks t < slice_index ranks s = ltb-true _ _ (all_at (λ u. nat_lt (slice_index ranks u) (slice_index ranks s)) (get_or (links_of inner) s []) t above link) in
        leads_back-reaches c inner s t are_inner ∙ below_unreached (links_of inner) ranks t s are less

held_at : (xs : List ℕ) (k d : ℕ) → k < length xs → contains xs (get_or xs k d) ≡ true
held_at [] k d lt = absurd (omega arith)
held_at (x ∷ xs) zero d lt = or_left (eqb x x) (contains xs x) (eq-eqb x x refl)
held_at (x ∷ xs) (suc k) d lt = or_right (eqb x (get_or xs k d)) (contains xs (get_or xs k d)) (held_at xs k d (omega arith))

-- the links of a number have ranks
pub row_inside : (links : List (List ℕ)) (ranks row : List ℕ) (s k d : ℕ)
    → StaysInside links → length ranks ≡ length links → row ≡ get_or links s [] → k < length row → get_or row k d < length ranks
row_inside links ranks row s k d stays len is lt =
    let link : leads links s (get_or row k d) ≡ true = ap (λ (ls : List ℕ). contains ls (get_or row k d)) (sym is) ∙ held_at row k d lt in
    omega (arith, stays s (get_or row k d) link, len)
