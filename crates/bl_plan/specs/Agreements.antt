-- That what is carried leaf by leaf agrees with the fates of members, which are printed. This project's own.
use Rattle.std.specs.Prelude.{◌≡◌, ◌<◌, ℕ, ◌+◌, ◌*◌, ◌&&◌, nat_lt, if◌then◌else◌, Bool, true, false, List, [], ◌∷◌, drop, Some, unwrap_or}
use Rattle.bl_num.specs.declared.number.Width.{Width}
use Rattle.bl_num.specs.Numbers.{number_meant, bits_of}
use Rattle.bl_format.specs.declared.catalogue.Catalogue.{Catalogue}
use Rattle.bl_format.specs.declared.layout.Kind.{Kind}
use Rattle.bl_format.specs.declared.layout.Kind.TheVariants as kinds
use Rattle.bl_format.specs.Layout.{MemberStep, NamedLeaf, struct_name, struct_number, name_of, member_count, inner_struct, member_offset, element_size}
use Rattle.bl_format.specs.Graph.{Value, Number}
use Rattle.bl_selection.specs.declared.draft.Fate.{Fate}
use Rattle.bl_selection.specs.declared.draft.Fate.TheVariants as fates
use Rattle.bl_selection.specs.Fate.{fate_of, member_of_key, kept_count, zero_of}

-- the source member that target member k meets, and 0 where it meets none
abbrev pub met_member : Catalogue → ℕ → Catalogue → ℕ → ℕ → ℕ
met_member from s to t k = unwrap_or (member_of_key from s (name_of to t k).key) 0

-- its elements are as many, more or fewer, by the fate
abbrev pub CountsAgree : Fate → ℕ → ℕ → Type 0
CountsAgree fates.Kept from to = from ≡ to
CountsAgree fates.Cut from to = to < from
CountsAgree fates.Extended from to = from < to
CountsAgree fate from to = Unit {0}

-- a number modulo the size of a kind's numbers
abbrev pub cast_to : {P : Type 0} → Kind → Value P → Value P
cast_to (kinds.Whole b) (Number z) = Number (number_meant b (bits_of b.bytes z))
cast_to kind v = v

-- what a source's value becomes: a cast changes it, else it is kept
abbrev pub value_by_fate : {P : Type 0} → Fate → Kind → Value P → Value P
value_by_fate fates.Cast kind v = cast_to kind v
value_by_fate fate kind v = v

-- a member's one leaf y meets the leaf x: it clashes just where its fate is float-cast. Else all its elements are zero, or
-- the first ones become what those of x become by the fate, and the others are zero
abbrev pub LeafAgrees : {P : Type 0} → Fate → P → NamedLeaf → NamedLeaf → (ℕ → Value P) → (ℕ → Value P) → Bool → Type 0
LeafAgrees fates.Fresh null x y values carried clash = (clash ≡ false) × ((e : ℕ) → carried e ≡ zero_of null y)
LeafAgrees fates.FloatCast null x y values carried clash = clash ≡ true
LeafAgrees fate null x y values carried clash =
    (clash ≡ false)
    × CountsAgree fate x.count y.count
    × ((e : ℕ) → carried e ≡ if nat_lt e (kept_count x y) then value_by_fate fate y.kind (values e) else zero_of null y)

-- the bytes of a struct's element from where element e of its member k begins
abbrev pub bytes_within : Catalogue → Width → ℕ → ℕ → ℕ → List ℕ → List ℕ
bytes_within c w s k e bytes = drop (member_offset c w s k + e * element_size c w s k) bytes

-- the struct that a member is by value, and 0 where it is none
abbrev pub struct_within : Catalogue → ℕ → ℕ → ℕ
struct_within c s k = unwrap_or (inner_struct c s k) 0

-- the leaf y stands inside element e of a struct by value, which meets one: its elements are zero, or those that it gets
-- inside, where the source has that element. It clashes just where the source has that element and it clashes inside
abbrev pub InnerAgrees : {P : Type 0} → Fate → P → ℕ → ℕ → ℕ → NamedLeaf → (ℕ → Value P) → (ℕ → Value P) → Bool → Bool → Type 0
InnerAgrees fates.Fresh null from to e y inside carried clash_inside clash =
    (clash ≡ false) × ((i : ℕ) → carried i ≡ zero_of null y)
InnerAgrees fates.Cast null from to e y inside carried clash_inside clash = ⊥
InnerAgrees fates.FloatCast null from to e y inside carried clash_inside clash = ⊥
InnerAgrees fate null from to e y inside carried clash_inside clash =
    (clash ≡ (nat_lt e from && clash_inside))
    × CountsAgree fate from to
    × ((i : ℕ) → carried i ≡ if nat_lt e from then inside i else zero_of null y)

-- ---- all members on the way to a leaf

-- the fate of a target's member as it is printed: its struct meets the one of its name
abbrev pub printed_fate : Catalogue → Width → Catalogue → Width → ℕ → ℕ → Fate
printed_fate from v to w t k = fate_of from v (struct_number from (struct_name to t)) to w t k

-- how many elements the source's member has that it meets there
abbrev pub met_count : Catalogue → Catalogue → ℕ → ℕ → ℕ
met_count from to t k =
    let s = struct_number from (struct_name to t) in
    (name_of from s (met_member from s to t k)).count

-- by its fate a float would become another number
abbrev pub is_float_cast : Fate → Bool
is_float_cast fates.FloatCast = true
is_float_cast fate = false

-- by its fate a member meets one
abbrev pub is_met : Fate → Bool
is_met fates.Fresh = false
is_met fate = true

-- the printed fates on the way to a leaf say that it clashes: that of the last member is float-cast, and each struct by value
-- before it meets one, at an element that the source has
abbrev pub clash_by_fates : Catalogue → Width → Catalogue → Width → List MemberStep → Bool
clash_by_fates from v to w [] = false
clash_by_fates from v to w (step ∷ []) = is_float_cast (printed_fate from v to w step.s step.member)
clash_by_fates from v to w (step ∷ next ∷ steps) =
    is_met (printed_fate from v to w step.s step.member)
    && nat_lt step.element (met_count from to step.s step.member)
    && clash_by_fates from v to w (next ∷ steps)

-- a member of struct t is printed as float-cast, or one inside a struct by value there which meets one
pub data HasFloatCast (from : Catalogue) (v : Width) (to : Catalogue) (w : Width) : ℕ → Type 0 where
  directly : (t k : ℕ) → k < member_count to t → printed_fate from v to w t k ≡ fates.FloatCast → HasFloatCast from v to w t
  inside : (t k u : ℕ) → k < member_count to t → inner_struct to t k ≡ Some u → is_met (printed_fate from v to w t k) ≡ true
      → HasFloatCast from v to w u → HasFloatCast from v to w t
