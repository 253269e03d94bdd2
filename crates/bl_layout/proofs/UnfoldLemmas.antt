-- The leaves of a struct by those of the structs in it, which are nested less deep: one step of each recursion, with
-- no bound on how deep structs are opened up.
use Rattle.std.proofs.Common.{◌≡◌, ℕ, zero, suc, ◌+◌, ◌≤◌, ◌<◌, Bool, true, false, List, [], ◌∷◌, length, Option, Some, None, refl, ◌∙◌, ap, arith, inl, inr}
use Rattle.std.specs.Prelude.{max, map, flat_map, filter_map, fold, nat_lt, if◌then◌else◌}
use Rattle.std.specs.List.{cons_option}
use Rattle.std.proofs.lemmas.Bool.{cases_lt, ltb-false}
use Rattle.std.proofs.lemmas.List.{map-append}
use Rattle.std.proofs.lemmas.List.Elements.{filter_map-append}
use Rattle.std.proofs.lemmas.List.Sums.{fold-append}
use Rattle.bl_num.specs.declared.number.Width.{Width}
use Rattle.bl_format.specs.declared.catalogue.Catalogue.{Catalogue}
use Rattle.bl_format.specs.declared.layout.LayoutFault.{LayoutFault}
use Rattle.bl_format.specs.declared.layout.LayoutFault.TheVariants.{TooDeep}
use Rattle.bl_format.specs.Limits.{deepest_nesting}
use Rattle.bl_format.specs.Words.{numbers_below}
use Rattle.bl_format.specs.Layout.{member_count, member_numbers, inner_struct, member_leaves, leaves_within, named_leaves, first_fault, nesting_within, nesting, depth_fault}
use Rattle.bl_format.proofs.MemberPasses.{none_below, inner_struct-some}
use Rattle.bl_format.proofs.Nesting.{leaves_within-suc}
use Rattle.bl_format.proofs.NoneInItself.{structs_below, fewer_below, one_below, structs_below-le}

-- ---- the greatest of what some numbers give

-- the greatest measure of the numbers that those below n give
abbrev pub greatest : (ℕ → ℕ) → (ℕ → Option ℕ) → ℕ → ℕ
greatest f g n = fold max 0 (map f (filter_map g (numbers_below n)))

-- the greater of a number and the measure of what one more gives
greater : (ℕ → ℕ) → ℕ → Option ℕ → ℕ
greater f a None = a
greater f a (Some t) = max a (f t)

greatest-suc : (f : ℕ → ℕ) (g : ℕ → Option ℕ) (n : ℕ) → greatest f g (suc n) ≡ greater f (greatest f g n) (g n)
unfolding greater
greatest-suc f g n =
    ap (λ (ts : List ℕ). fold max 0 (map f ts)) (filter_map-append g (numbers_below n) (n ∷ []))
    ∙ ap (fold max 0) (map-append f (filter_map g (numbers_below n)) (filter_map g (n ∷ [])))
    ∙ fold-append max 0 (map f (filter_map g (numbers_below n))) (map f (filter_map g (n ∷ [])))
    ∙ last (greatest f g n) (g n)
  where
    last : (a : ℕ) (o : Option ℕ) → fold max a (map f (cons_option o [])) ≡ greater f a o
    last a None = refl
    last a (Some t) = refl

greater-le : (f h : ℕ → ℕ) (a b : ℕ) (o : Option ℕ) → a ≤ b → ((t : ℕ) → o ≡ Some t → f t ≤ h t)
    → greater f a o ≤ greater h b o
unfolding greater
greater-le f h a b None le each = le
greater-le f h a b (Some t) le each = omega (arith, le, each t refl)

-- a measure that is no greater anywhere
greatest-le : (f h : ℕ → ℕ) (g : ℕ → Option ℕ) (n : ℕ)
    → ((k t : ℕ) → k < n → g k ≡ Some t → f t ≤ h t) → greatest f g n ≤ greatest h g n
greatest-le f h g zero each = omega arith
greatest-le f h g (suc n) each =
    omega (
      arith,
      greatest-suc f g n,
      greatest-suc h g n,
      greater-le f h (greatest f g n) (greatest h g n) (g n) (greatest-le f h g n (λ k t lt. each k t (omega arith))) (λ t. each n t (omega arith)),
    )

greater-one : (f : ℕ → ℕ) (a t : ℕ) (o : Option ℕ) → o ≡ Some t → f t ≤ greater f a o
unfolding greater
greater-one f a t None e = absurd (cc)
greater-one f a t (Some u) e = let same : u ≡ t = cc in rw same (omega arith)

greater-before : (f : ℕ → ℕ) (a : ℕ) (o : Option ℕ) → a ≤ greater f a o
unfolding greater
greater-before f a None = omega arith
greater-before f a (Some t) = omega arith

-- the greatest is no less than one of them
greatest-one : (f : ℕ → ℕ) (g : ℕ → Option ℕ) (n k t : ℕ) → k < n → g k ≡ Some t → f t ≤ greatest f g n
greatest-one f g zero k t lt e = absurd (omega arith)
greatest-one f g (suc n) k t lt e = elim (cases_lt k n) [
  | inl less ↦ omega (arith, greatest-suc f g n, greater-before f (greatest f g n) (g n), greatest-one f g n k t less e)
  | inr most ↦ (let is : n ≡ k = omega arith in
      omega (arith, greatest-suc f g n, greater-one f (greatest f g n) t (g n) (ap g is ∙ e)))
]

-- ---- nesting

-- opened up as often as a struct has structs below it, it is opened up whole
opened_whole : (c : Catalogue) (w : Width) (m s : ℕ) → first_fault c w ≡ None → s < length c.structs
    → structs_below c s ≤ m → nesting_within (suc m) c s ≤ nesting_within m c s
unfolding nesting_within
opened_whole c w zero s e lt le = absurd (omega (arith, le, one_below c s lt))
opened_whole c w (suc m) s e lt le =
    omega (
      arith,
      greatest-le (nesting_within (suc m) c) (nesting_within m c) (inner_struct c s) (member_count c s)
          (λ k t less is. opened_whole c w m t e (inner_struct-some c s k t is).is_struct.within (omega (arith, le, fewer_below c w s k t e lt less is))),
    )

-- a struct is nested one deeper than the deepest struct in it, at least
nesting-suc : (c : Catalogue) (w : Width) (s : ℕ) → first_fault c w ≡ None → s < length c.structs
    → suc (greatest (nesting c) (inner_struct c s) (member_count c s)) ≤ nesting c s
unfolding nesting nesting_within
nesting-suc c w s e lt = opened_whole c w (length c.structs) s e lt (structs_below-le c s)

-- a struct has at least the nesting of one without structs by value
pub nesting-some : (c : Catalogue) (w : Width) (s : ℕ) → first_fault c w ≡ None → s < length c.structs
    → 0 < nesting c s
nesting-some c w s e lt = omega (arith, nesting-suc c w s e lt)

-- a struct in another is nested less deep
pub inner-nesting : (c : Catalogue) (w : Width) (s k t : ℕ) → first_fault c w ≡ None → s < length c.structs
    → k < member_count c s → inner_struct c s k ≡ Some t → nesting c t < nesting c s
inner-nesting c w s k t e lt less is =
    omega (arith, nesting-suc c w s e lt, greatest-one (nesting c) (inner_struct c s) (member_count c s) k t less is)

-- a struct in another is one of the catalogue's
pub inner-within : (c : Catalogue) (s k t : ℕ) → inner_struct c s k ≡ Some t → t < length c.structs
inner-within c s k t is = (inner_struct-some c s k t is).is_struct.within

-- no opening up shows more than the nesting
nesting_within-most : (c : Catalogue) (w : Width) (m s : ℕ) → first_fault c w ≡ None → s < length c.structs
    → nesting_within m c s ≤ nesting c s
unfolding nesting_within
nesting_within-most c w zero s e lt = omega arith
nesting_within-most c w (suc m) s e lt =
    omega (
      arith,
      nesting-suc c w s e lt,
      greatest-le (nesting_within m c) (nesting c) (inner_struct c s) (member_count c s)
          (λ k t less is. nesting_within-most c w m t e (inner-within c s k t is)),
    )

within_limit : (n most : ℕ) (fault : LayoutFault) → (if nat_lt most n then Some fault else None) ≡ None → n ≤ most
within_limit n most fault e = go (nat_lt most n) refl e
  where
    go : (b : Bool) → nat_lt most n ≡ b → (if b then Some fault else None) ≡ None → n ≤ most
    go true is e = absurd (cc)
    go false is e = ltb-false most n is

-- where no struct passes the limit, each is nested at most so deep
pub nesting-limit : (c : Catalogue) (s : ℕ) → depth_fault c ≡ None → s < length c.structs
    → nesting c s ≤ deepest_nesting
unfolding depth_fault
nesting-limit c s e lt =
    within_limit (nesting c s) deepest_nesting (TooDeep (nesting c s))
    (none_below (λ (t : ℕ). if nat_lt deepest_nesting (nesting c t) then Some (TooDeep (nesting c t)) else None) (length c.structs) s e lt)

-- ---- leaves

-- the leaves of a struct by those of the structs in it
pub named_leaves-members : (c : Catalogue) (w : Width) (s : ℕ) → first_fault c w ≡ None → depth_fault c ≡ None
    → s < length c.structs
    → named_leaves c w s ≡ flat_map (member_leaves (named_leaves c w) c w s) (member_numbers c s)
unfolding named_leaves leaves_within
named_leaves-members c w s e deep lt =
    leaves_within-suc (deepest_nesting + 1) c w s (omega (arith, nesting_within-most c w (deepest_nesting + 1) s e lt, nesting-limit c s deep lt))
