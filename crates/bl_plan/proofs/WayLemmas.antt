-- The way to a leaf is that of its place, struct by struct; and how it is walked.
use Rattle.std.proofs.Common.{◌≡◌, ◌≢◌, ℕ, zero, suc, ◌+◌, ◌-◌, ◌*◌, ◌%◌, ◌≤◌, ◌<◌, Bool, true, false, cond, All, List, [], ◌∷◌, length, drop, get_or, Option, Some, None, refl, sym, ap, subst, ◌∙◌, arith, inl, inr, ltb-false, mul-le-mul_right}
use Rattle.std.specs.Prelude.{map, ◌==◌}
use Rattle.std.proofs.Math.Nat.{mod-eq_of_lt, add-mul-mod_self_right}
use Rattle.std.proofs.Math.Dec.{eqb}
use Rattle.std.proofs.lemmas.Bool.{cases_lt}
use Rattle.std.proofs.lemmas.List.{map-append, drop_more, length-drop, length-map, get_or-map}
use Rattle.std.proofs.lemmas.List.Elements.{All-nil, All-cons, All-map, All-head, All-tail}
use Rattle.std.proofs.lemmas.List.Sums.{sum_by_push}
use Rattle.bl_num.specs.declared.number.Width.{Width}
use Rattle.bl_format.specs.declared.catalogue.Catalogue.{Catalogue}
use Rattle.bl_format.specs.Limits.{deepest_nesting}
use Rattle.bl_format.specs.Words.{numbers_below}
use Rattle.bl_format.specs.declared.layout.Leaf.{Leaf}
use Rattle.bl_format.specs.declared.layout.PathStep.{PathStep}
use Rattle.bl_format.specs.Layout.{MemberStep, NamedLeaf, HasLayout, no_leaf, leaf_of, leaves_of, type_entry, member_entry, name_of, member_count, struct_length, element_size, member_size, member_offset, inner_struct, member_step, own_leaf, inner_leaves, leaves_by, member_leaves, leaves_within, named_leaves, first_fault}
use Rattle.bl_format.proofs.MemberPasses.{first_fault-none, member_passes, element_size-inner, struct_exists}
use Rattle.bl_format.proofs.LeavesApart.{AreApart, end_of_leaf, named_leaves-apart}
use Rattle.bl_format.proofs.LeafKinds.{HasBytes, each_number, named_leaves-hold, named_leaves-have_bytes}
use Rattle.bl_selection.specs.Fate.{direct_member}
use Rattle.bl_plan.specs.declared.members.Place.{Place}
use Rattle.bl_plan.specs.Ways.{IsAmongMembers, HasPlace, place_inside, IsWay}

-- ---- where members stand

pub member_offset-next : (c : Catalogue) (w : Width) (s k : ℕ) → member_offset c w s (suc k) ≡ member_offset c w s k + member_size c w s k
unfolding member_offset
member_offset-next c w s k =
    rw (map-append (member_size c w s) (numbers_below k) (k ∷ [])) (sum_by_push (λ (n : ℕ). n) (map (member_size c w s) (numbers_below k)) (member_size c w s k))

member_offset-further : (c : Catalogue) (w : Width) (s j d : ℕ) → member_offset c w s j ≤ member_offset c w s (j + d)
member_offset-further c w s j zero = let same : j ≡ j + 0 = omega arith in subst (λ (n : ℕ). member_offset c w s j ≤ member_offset c w s n) same (omega arith)
member_offset-further c w s j (suc d) =
    let next : suc (j + d) ≡ j + suc d = omega arith in
    let before = member_offset-further c w s j d in
    let more = member_offset-next c w s (j + d) in
    subst (λ (n : ℕ). member_offset c w s j ≤ member_offset c w s n) next (omega (arith, before, more))

-- a later member stands further on
pub member_offset-rises : (c : Catalogue) (w : Width) (s j k : ℕ) → j ≤ k → member_offset c w s j ≤ member_offset c w s k
member_offset-rises c w s j k le =
    let sum : j + (k - j) ≡ k = omega (arith, le) in
    subst (λ (n : ℕ). member_offset c w s j ≤ member_offset c w s n) sum (member_offset-further c w s j (k - j))

-- a place is that of one member
pub one_has_place : (c : Catalogue) (w : Width) (s j k at : ℕ) → HasPlace c w s j at → HasPlace c w s k at → j ≡ k
one_has_place c w s j k at first second = elim (cases_lt j k) [
  | inl less ↦ absurd (let rises = member_offset-rises c w s (suc j) k (omega (arith, less)) in omega (arith, rises, first.to, second.from))
  | inr most ↦ elim (cases_lt k j) [
    | inl less ↦ absurd (let rises = member_offset-rises c w s (suc k) j (omega (arith, less)) in omega (arith, rises, second.to, first.from))
    | inr least ↦ omega (arith, most, least)
  ]
]

-- where a member has a place, the place is among the members
pub among_members : (c : Catalogue) (w : Width) (s k at : ℕ) → HasPlace c w s k at → IsAmongMembers c w s at
among_members c w s k at has =
    let rises = member_offset-rises c w s (suc k) (member_count c s) (omega (arith, has.there)) in
    record { there = struct_exists c s k has.there; inside = omega (arith, rises, has.to) }

-- and inside the struct
pub inside_struct : (c : Catalogue) (w : Width) (s k at : ℕ) → first_fault c w ≡ None → HasPlace c w s k at → at < struct_length c s
inside_struct c w s k at none has =
    let within = ltb-false (struct_length c s) (member_offset c w s (suc k)) (member_passes c w s k none has.there).within in
    omega (arith, within, has.to)

-- the first member stands at the start
pub member_offset-zero : (c : Catalogue) (w : Width) (s : ℕ) → member_offset c w s 0 ≡ 0
unfolding member_offset
member_offset-zero c w s = refl

some_below : (c : Catalogue) (w : Width) (s at n : ℕ) → at < member_offset c w s n → 0 < n
some_below c w s at zero lt = absurd (omega (arith, lt, member_offset-zero c w s))
some_below c w s at (suc n) lt = omega arith

-- where a place is among members there are some
pub some_member : (c : Catalogue) (w : Width) (s at : ℕ) → IsAmongMembers c w s at → 0 < member_count c s
some_member c w s at among = some_below c w s at (member_count c s) among.inside

-- ---- the place inside a member

-- a struct by value that has a place has some bytes
pub some_length : (c : Catalogue) (w : Width) (s k t at : ℕ) → HasPlace c w s k at → inner_struct c s k ≡ Some t → 0 < struct_length c t
unfolding member_size
some_length c w s k t at has is = elim (cases_lt 0 (struct_length c t)) [
  | inl less ↦ less
  | inr none ↦ absurd (
      let empty : struct_length c t ≡ 0 = omega (arith, none) in
      let next : member_offset c w s (suc k) ≡ member_offset c w s k + element_size c w s k * (name_of c s k).count = member_offset-next c w s k in
      let size : element_size c w s k * (name_of c s k).count ≡ 0 * (name_of c s k).count = ap (λ (n : ℕ). n * (name_of c s k).count) (element_size-inner c w s k t is ∙ empty) in
      omega (arith, next, size, has.from, has.to))
]

-- the next place is the one inside the member that has a place
pub led_to : (c : Catalogue) (w : Width) (s at j inner off len : ℕ) → HasPlace c w s j at → inner_struct c s j ≡ Some inner
    → off ≡ member_offset c w s j → len ≡ struct_length c inner → (k t : ℕ) → HasPlace c w s k at → inner_struct c s k ≡ Some t
    → ◌≡◌ {A = Place} (record { s = inner; at = (at - off) % len }) (record { s = t; at = place_inside c w s k t at })
led_to c w s at j inner off len has is off_is len_is k t other there =
    let same : j ≡ k = one_has_place c w s j k at has other in
    let both : Some inner ≡ Some t = sym is ∙ ap (inner_struct c s) same ∙ there in
    let one : inner ≡ t = cc in
    let from : off ≡ member_offset c w s k = off_is ∙ ap (member_offset c w s) same in
    let long : len ≡ struct_length c t = len_is ∙ ap (struct_length c) one in
    λ i. record { s = one i; at = (at - from i) % long i }

pub led_nowhere : (c : Catalogue) (w : Width) (s at j : ℕ) → HasPlace c w s j at → inner_struct c s j ≡ None
    → (k t : ℕ) → HasPlace c w s k at → inner_struct c s k ≡ Some t → ⊥
led_nowhere c w s at j has is k t other there =
    let same : j ≡ k = one_has_place c w s j k at has other in
    let both : None ≡ Some t = sym is ∙ ap (inner_struct c s) same ∙ there in
    absurd (cc)

-- ---- the way to each leaf

-- a place in an element of a member that is a struct by value, and there
in_element : (c : Catalogue) (w : Width) (s k t e at : ℕ) → inner_struct c s k ≡ Some t → k < member_count c s → e < (name_of c s k).count → at < struct_length c t
    → HasPlace c w s k (member_offset c w s k + e * element_size c w s k + at) × (place_inside c w s k t (member_offset c w s k + e * element_size c w s k + at) ≡ at)
unfolding member_size
in_element c w s k t e at is there lt less =
    let size : ℕ = struct_length c t in
    let from : ℕ = member_offset c w s k in
    let same : element_size c w s k ≡ size = element_size-inner c w s k t is in
    let next : member_offset c w s (suc k) ≡ from + element_size c w s k * (name_of c s k).count = member_offset-next c w s k in
    let all : suc e * size ≤ (name_of c s k).count * size = mul-le-mul_right size (omega (arith, lt)) in
    let turned : size * (name_of c s k).count ≡ (name_of c s k).count * size = omega arith in
    let end : member_offset c w s (suc k) ≡ from + (name_of c s k).count * size =
    next ∙ ap (λ (n : ℕ). from + n * (name_of c s k).count) same ∙ ap (λ (n : ℕ). from + n) turned in
    let inside : e * size + at < (name_of c s k).count * size = omega (arith, all, less) in
    let place : from + e * element_size c w s k + at ≡ from + e * size + at = ap (λ (n : ℕ). from + e * n + at) same in
    let left : from + e * size + at - from ≡ at + e * size = omega arith in (
      record { there = there; from = omega (arith, place); to = omega (arith, place, end, inside) },
      ap (λ (n : ℕ). (n - from) % size) place ∙ ap (λ (n : ℕ). n % size) left
          ∙ add-mul-mod_self_right at e size ∙ mod-eq_of_lt less,
    )

way_behind : (c : Catalogue) (w : Width) (s k t e at : ℕ) (way : List MemberStep) → first_fault c w ≡ None
    → inner_struct c s k ≡ Some t → k < member_count c s → e < (name_of c s k).count → IsWay c w t at way
    → IsWay c w s (member_offset c w s k + e * element_size c w s k + at) (member_step c s k e ∷ way)
way_behind c w s k t e at [] none is there lt way = absurd way
way_behind c w s k t e at (y ∷ []) none is there lt way =
    let less = inside_struct c w t y.member at none way.1 in
    let in_it = in_element c w s k t e at is there lt less in (
      refl,
      in_it.0,
      is ∙ ap Some (sym way.0),
      subst (λ (n : ℕ). IsWay c w n (place_inside c w s k n (member_offset c w s k + e * element_size c w s k + at)) (y ∷ [])) (sym way.0)
          (subst (λ (n : ℕ). IsWay c w t n (y ∷ [])) (sym in_it.1) way),
    )
way_behind c w s k t e at (y ∷ z ∷ zs) none is there lt way =
    let less = inside_struct c w t y.member at none way.1 in
    let in_it = in_element c w s k t e at is there lt less in (
      refl,
      in_it.0,
      is ∙ ap Some (sym way.0),
      subst (λ (n : ℕ). IsWay c w n (place_inside c w s k n (member_offset c w s k + e * element_size c w s k + at)) (y ∷ z ∷ zs)) (sym way.0)
          (subst (λ (n : ℕ). IsWay c w t n (y ∷ z ∷ zs)) (sym in_it.1) way),
    )

-- the leaf's members are those of its place
abbrev pub HasWay : Catalogue → Width → ℕ → NamedLeaf → Type 0
HasWay c w s x = IsWay c w s x.offset x.way

own_way : (c : Catalogue) (w : Width) (s k : ℕ) → k < member_count c s → member_size c w s k ≢ 0 → HasWay c w s (own_leaf c w s k)
own_way c w s k there some =
    let next = member_offset-next c w s k in
    let more : 0 < member_size c w s k = elim (cases_lt 0 (member_size c w s k)) [ inl less ↦ less | inr none ↦ absurd (some (omega (arith, none))) ] in
    (refl, record { there = there; from = omega arith; to = omega (arith, next, more) })

member_ways : (inside : ℕ → List NamedLeaf) (c : Catalogue) (w : Width) (s k : ℕ) → first_fault c w ≡ None → k < member_count c s
    → ((t : ℕ) → All (HasWay c w t) (inside t)) → All (HasWay c w s) (member_leaves inside c w s k)
unfolding member_leaves
member_ways inside c w s k none there h = unless_empty (member_size c w s k == 0) refl
  where
    by_inner : (o : Option ℕ) → inner_struct c s k ≡ o → member_size c w s k ≢ 0 → All (HasWay c w s) (leaves_by inside c w s k o)
    by_inner (Some t) is some =
        each_number (HasWay c w s) (inner_leaves (inside t) c w s k) (name_of c s k).count
        (λ e lt. All-map (HasWay c w s) _ (inside t) (λ j d below. way_behind c w s k t e (get_or (inside t) j d).offset (get_or (inside t) j d).way none is there lt (h t j d below)))
    by_inner None is some = All-cons (HasWay c w s) (own_leaf c w s k) [] (own_way c w s k there some) (All-nil (HasWay c w s))

    unless_empty : (b : Bool) → (member_size c w s k == 0) ≡ b → All (HasWay c w s) (cond b [] (leaves_by inside c w s k (inner_struct c s k)))
    unless_empty true is = All-nil (HasWay c w s)
    unless_empty false is = by_inner (inner_struct c s k) refl (λ zero_size. let e : eqb 0 0 ≡ false = rw zero_size at is in absurd (cc))

ways_within : (n : ℕ) (c : Catalogue) (w : Width) (s : ℕ) → first_fault c w ≡ None → All (HasWay c w s) (leaves_within n c w s)
unfolding leaves_within
ways_within zero c w s none = All-nil (HasWay c w s)
ways_within (suc n) c w s none =
    each_number (HasWay c w s) (member_leaves (leaves_within n c w) c w s) (member_count c s)
    (λ k lt. member_ways (leaves_within n c w) c w s k none lt (λ t. ways_within n c w t none))

-- the members on the way to each leaf of a struct are those of its place
pub named_leaves-ways : (c : Catalogue) (w : Width) (s : ℕ) → first_fault c w ≡ None → All (HasWay c w s) (named_leaves c w s)
unfolding named_leaves
named_leaves-ways c w s none = ways_within (deepest_nesting + 1) c w s none

-- ---- its type

-- the type of a leaf is that of the member at which it ends
record IsOfMember (c : Catalogue) (x : NamedLeaf) : Type 0 where
  pub some : 0 < length x.way
  pub named : x.type_name ≡ (type_entry c (member_entry c (direct_member x.way).0 (direct_member x.way).1).type_number).name

direct_behind : (step : MemberStep) (way : List MemberStep) → 0 < length way → direct_member (step ∷ way) ≡ direct_member way
direct_behind step [] some = absurd (omega arith)
direct_behind step (x ∷ xs) some = refl

pub leaf_type_named : (c : Catalogue) (w : Width) (s : ℕ)
    → All (λ x. x.type_name ≡ (type_entry c (member_entry c (direct_member x.way).0 (direct_member x.way).1).type_number).name) (named_leaves c w s)
leaf_type_named c w s i d lt = (named_leaves-hold (IsOfMember c) c w s (record {
  behind = λ step by x h. record {
    some = omega arith;
    named = h.named ∙ ap (λ (p : ℕ × ℕ). (type_entry c (member_entry c p.0 p.1).type_number).name) (sym (direct_behind step x.way h.some));
  };
  own = λ s k lt some. record { some = omega arith; named = refl };
}) i d lt).named

-- ---- the walk

-- a place is that of a way from its step n on, and the way ends there as the whole one
pub record IsWalked (c : Catalogue) (w : Width) (way : List MemberStep) (n s at : ℕ) : Type 0 where
  pub is_way : IsWay c w s at (drop n way)
  pub ends : direct_member (drop n way) ≡ direct_member way

pub walk_start : (c : Catalogue) (w : Width) (way : List MemberStep) (s at : ℕ) → IsWay c w s at way → IsWalked c w way 0 s at
walk_start c w way s at is = record { is_way = is; ends = refl }

way_among : (c : Catalogue) (w : Width) (s at : ℕ) (way : List MemberStep) → IsWay c w s at way → IsAmongMembers c w s at
way_among c w s at [] is = absurd is
way_among c w s at (x ∷ []) is = among_members c w s x.member at is.1
way_among c w s at (x ∷ y ∷ ys) is = among_members c w s x.member at is.1

-- the place is always among members
pub walk_among : (c : Catalogue) (w : Width) (way : List MemberStep) (n s at : ℕ) → IsWalked c w way n s at → IsAmongMembers c w s at
walk_among c w way n s at walked = way_among c w s at (drop n way) walked.is_way

-- what a walk needs of the next place
abbrev pub LeadsTo : Catalogue → Width → ℕ → ℕ → ℕ → ℕ → Type 0
LeadsTo c w s at s' at' = (k t : ℕ) → HasPlace c w s k at → inner_struct c s k ≡ Some t → (s' ≡ t) × (at' ≡ place_inside c w s k t at)

next_way : (c : Catalogue) (w : Width) (s at s' at' : ℕ) (x : MemberStep) (rest : List MemberStep) → 0 < length rest
    → IsWay c w s at (x ∷ rest) → LeadsTo c w s at s' at' → IsWay c w s' at' rest
next_way c w s at s' at' x [] some is leads = absurd (omega arith)
next_way c w s at s' at' x (y ∷ ys) some is leads =
    let to = leads x.member y.s is.1 is.2 in
    subst (λ (n : ℕ). IsWay c w n at' (y ∷ ys)) (sym to.0) (subst (λ (n : ℕ). IsWay c w y.s n (y ∷ ys)) (sym to.1) is.3)

no_step : MemberStep
no_step = record { s = 0; member = 0; owner = []; key = []; identifier = []; name_number = 0; element = 0 }

-- one step further, where the way isn't at its end
pub walk_more : (c : Catalogue) (w : Width) (way : List MemberStep) (n s at s' at' : ℕ) → n + 1 < length way
    → LeadsTo c w s at s' at' → IsWalked c w way n s at → IsWalked c w way (n + 1) s' at'
walk_more c w way n s at s' at' lt leads walked =
    let rest : List MemberStep = drop (n + 1) way in
    let x : MemberStep = get_or way n no_step in
    let cut : drop n way ≡ x ∷ rest = drop_more way n no_step (omega (arith, lt)) in
    let long : 0 < length rest = omega (arith, lt, length-drop (n + 1) way) in
    record {
      is_way = next_way c w s at s' at' x rest long (subst (IsWay c w s at) cut walked.is_way) leads;
      ends = sym (direct_behind x rest long) ∙ sym (ap direct_member cut) ∙ walked.ends;
    }

last_of_way : (c : Catalogue) (w : Width) (s at k : ℕ) (way : List MemberStep) → length way ≡ 1 → IsWay c w s at way → HasPlace c w s k at
    → (s ≡ (direct_member way).0) × (k ≡ (direct_member way).1)
last_of_way c w s at k [] long is has = absurd (omega arith)
last_of_way c w s at k (x ∷ []) long is has = (sym is.0, one_has_place c w s k x.member at has is.1)
last_of_way c w s at k (x ∷ y ∷ ys) long is has = absurd (omega (arith, long))

-- at its end stands the member at which the way ends
pub walk_end : (c : Catalogue) (w : Width) (way : List MemberStep) (n s at k : ℕ) → length way ≡ n + 1 → IsWalked c w way n s at → HasPlace c w s k at
    → (s ≡ (direct_member way).0) × (k ≡ (direct_member way).1)
walk_end c w way n s at k long walked has =
    let one : length (drop n way) ≡ 1 = omega (arith, long, length-drop n way) in
    let last = last_of_way c w s at k (drop n way) one walked.is_way has in
    (last.0 ∙ ap (λ (p : ℕ × ℕ). p.0) walked.ends, last.1 ∙ ap (λ (p : ℕ × ℕ). p.1) walked.ends)

-- a way has steps
pub way_long : (c : Catalogue) (w : Width) (s at : ℕ) (way : List MemberStep) → IsWay c w s at way → 0 < length way
way_long c w s at [] is = absurd is
way_long c w s at (x ∷ xs) is = omega arith

-- the leaf that stands in the code's list is the one with its names
pub leaf_there : (c : Catalogue) (w : Width) (s i : ℕ) (leaves : List Leaf) (x : Leaf) → leaves ≡ leaves_of c w s → i < length (named_leaves c w s)
    → x ≡ get_or leaves i x → x ≡ leaf_of (get_or (named_leaves c w s) i no_leaf)
unfolding leaves_of
leaf_there c w s i leaves x are lt is =
    is ∙ ap (λ (t : List Leaf). get_or t i x) are ∙ get_or-map leaf_of (named_leaves c w s) i no_leaf x lt

-- the code's list is as long
pub leaves_long : (c : Catalogue) (w : Width) (s : ℕ) (leaves : List Leaf) → leaves ≡ leaves_of c w s → length leaves ≡ length (named_leaves c w s)
unfolding leaves_of
leaves_long c w s leaves are = ap (λ (t : List Leaf). length t) are ∙ length-map (named_leaves c w s) leaf_of

-- the walk of a leaf begins at its place
pub walk_begun : (c : Catalogue) (w : Width) (s i : ℕ) (x : Leaf) → HasLayout c w → i < length (named_leaves c w s)
    → x ≡ leaf_of (get_or (named_leaves c w s) i no_leaf) → IsWalked c w (get_or (named_leaves c w s) i no_leaf).way 0 s x.offset
walk_begun c w s i x has lt is =
    let y : NamedLeaf = get_or (named_leaves c w s) i no_leaf in
    let at : x.offset ≡ y.offset = ap (λ (z : Leaf). z.offset) is in
    walk_start c w y.way s x.offset
    (subst (λ (n : ℕ). IsWay c w s n y.way) (sym at) (named_leaves-ways c w s (first_fault-none c w has.no_fault) i no_leaf lt))

-- it has as many steps as its way
pub steps_long : (x : Leaf) (y : NamedLeaf) → x ≡ leaf_of y → length x.steps ≡ length y.way
steps_long x y is = ap (λ (z : Leaf). length z.steps) is ∙ length-map y.way (λ (step : MemberStep). record { name_number = step.name_number; element = step.element })

-- and it has some
pub way_some : (c : Catalogue) (w : Width) (s i : ℕ) → HasLayout c w → i < length (named_leaves c w s) → 0 < length (get_or (named_leaves c w s) i no_leaf).way
way_some c w s i has lt =
    let y : NamedLeaf = get_or (named_leaves c w s) i no_leaf in
    way_long c w s y.offset y.way (named_leaves-ways c w s (first_fault-none c w has.no_fault) i no_leaf lt)

-- one step further by the number of the next one
pub walk_step : (c : Catalogue) (w : Width) (way : List MemberStep) (n s at s' at' : ℕ) → 1 ≤ n → n < length way
    → LeadsTo c w s at s' at' → IsWalked c w way (n - 1) s at → IsWalked c w way (n + 1 - 1) s' at'
walk_step c w way n s at s' at' some lt leads walked =
    let next : n - 1 + 1 ≡ n + 1 - 1 = omega (arith, some) in
    subst (λ (k : ℕ). IsWalked c w way k s' at') next (walk_more c w way (n - 1) s at s' at' (omega (arith, some, lt)) leads walked)

-- behind the last step stands the member at which the leaf ends
pub walk_ended : (c : Catalogue) (w : Width) (s i n at_s at k : ℕ) (x : Leaf) (steps : List PathStep) → HasLayout c w → i < length (named_leaves c w s)
    → x ≡ leaf_of (get_or (named_leaves c w s) i no_leaf) → steps ≡ x.steps → length steps ≤ n → (1 ≤ length steps → n ≤ length steps)
    → IsWalked c w (get_or (named_leaves c w s) i no_leaf).way (n - 1) at_s at → HasPlace c w at_s k at
    → (at_s ≡ (direct_member (get_or (named_leaves c w s) i no_leaf).way).0) × (k ≡ (direct_member (get_or (named_leaves c w s) i no_leaf).way).1)
walk_ended c w s i n at_s at k x steps has lt is are far near walked place =
    let y : NamedLeaf = get_or (named_leaves c w s) i no_leaf in
    let some : 0 < length y.way = way_some c w s i has lt in
    let long : length steps ≡ length y.way = ap (λ (t : List PathStep). length t) are ∙ steps_long x y is in
    let end : n ≤ length steps = near (omega (arith, some, long)) in
    walk_end c w y.way (n - 1) at_s at k (omega (arith, some, long, end, far)) walked place

few_between : (from to : ℕ) (xs : List NamedLeaf) → AreApart from xs to → All HasBytes xs → from + length xs ≤ to
few_between from to [] apart all = omega (arith, apart)
few_between from to (x ∷ xs) apart all =
    let some : HasBytes x = All-head HasBytes x xs all in
    let bytes : 1 * x.count ≤ x.size * x.count = mul-le-mul_right x.count (omega (arith, some.size)) in
    let count = some.count in
    let later = few_between (end_of_leaf x) to xs apart.1 (All-tail HasBytes x xs all) in
    omega (arith, apart.0, bytes, count, later)

-- a struct has no more leaves than bytes
pub leaves_few : (c : Catalogue) (w : Width) (s : ℕ) → HasLayout c w → length (named_leaves c w s) ≤ struct_length c s
leaves_few c w s has =
    let few = few_between 0 (struct_length c s) (named_leaves c w s) (named_leaves-apart c w s (first_fault-none c w has.no_fault)) (named_leaves-have_bytes c w s) in
    omega (arith, few)
