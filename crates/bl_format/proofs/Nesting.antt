-- The leaves of a struct don't depend on how deep structs may be opened up, once that is deeper than the struct is
-- nested: one level more gives the same leaves. So `named_leaves`, which stops one level past the limit, has all
-- leaves of each struct that keeps the limit.
use Rattle.std.proofs.Common.{◌≡◌, ℕ, zero, suc, ◌≤◌, ◌<◌, List, [], ◌∷◌, length, Option, Some, None, refl, sym, ◌∙◌, arith}
use Rattle.std.specs.Prelude.{max, map, flat_map, filter_map, fold}
use Rattle.bl_num.specs.declared.number.Width.{Width}
use Rattle.bl_format.specs.declared.catalogue.Catalogue.{Catalogue}
use Rattle.bl_format.specs.Words.{numbers_below}
use Rattle.bl_format.specs.Layout.{NamedLeaf, struct_entry, inner_struct, member_leaves, leaves_within, nesting_within}

-- the greatest of some numbers is below a bound, so each is
fold_max-le : (a : ℕ) (xs : List ℕ) → a ≤ fold max a xs
fold_max-le a [] = omega arith
fold_max-le a (x ∷ xs) = omega (arith, fold_max-le (max a x) xs)

-- two ways of giving a struct's leaves that agree on the struct in a member give the member the same leaves
member_same : (p q : ℕ → List NamedLeaf) (c : Catalogue) (w : Width) (s k : ℕ)
    → ((t : ℕ) → inner_struct c s k ≡ Some t → p t ≡ q t)
    → member_leaves p c w s k ≡ member_leaves q c w s k
unfolding member_leaves
member_same p q c w s k h = go (inner_struct c s k) refl
  where
    go : (o : Option ℕ) → inner_struct c s k ≡ o → member_leaves p c w s k ≡ member_leaves q c w s k
    go None e = rw e refl
    go (Some t) e = rw (e, h t e) refl

members_same : (p q : ℕ → List NamedLeaf) (f : ℕ → ℕ) (c : Catalogue) (w : Width) (s a n : ℕ) (ks : List ℕ)
    → ((t : ℕ) → f t < n → p t ≡ q t) → fold max a (map f (filter_map (inner_struct c s) ks)) < n
    → flat_map (member_leaves p c w s) ks ≡ flat_map (member_leaves q c w s) ks
members_same p q f c w s a n [] agree lt = refl
members_same p q f c w s a n (k ∷ ks) agree lt = go (inner_struct c s k) refl (λ a' lt'. members_same p q f c w s a' n ks agree lt')
  where
    go : (o : Option ℕ) → inner_struct c s k ≡ o → ((a' : ℕ) → fold max a' (map f (filter_map (inner_struct c s) ks)) < n → flat_map (member_leaves p c w s) ks ≡ flat_map (member_leaves q c w s) ks)
        → flat_map (member_leaves p c w s) (k ∷ ks) ≡ flat_map (member_leaves q c w s) (k ∷ ks)
    go None e rest = rw (member_same p q c w s k (λ t e'. absurd (let x : None ≡ Some t = sym e ∙ e' in cc)), rest a (rw e at lt)) refl
    go (Some t) e rest =
        let lt' : fold max (max a (f t)) (map f (filter_map (inner_struct c s) ks)) < n = rw e at lt in
        rw (member_same p q c w s k (λ u e'. let x : Some t ≡ Some u = sym e ∙ e' in let y : t ≡ u = cc in rw (← y) (agree t (omega (arith, fold_max-le (max a (f t)) (map f (filter_map (inner_struct c s) ks)))))), rest (max a (f t)) lt') refl

-- one level more changes nothing
pub leaves_within-suc : (n : ℕ) (c : Catalogue) (w : Width) (s : ℕ)
    → nesting_within n c s < n → leaves_within n c w s ≡ leaves_within (suc n) c w s
unfolding leaves_within nesting_within
leaves_within-suc zero c w s lt = absurd (omega arith)
leaves_within-suc (suc n) c w s lt = members_same (leaves_within n c w) (leaves_within (suc n) c w) (nesting_within n c) c w s 0 n (numbers_below (length (struct_entry c s).members)) (λ t h. leaves_within-suc n c w t h) (omega arith)
