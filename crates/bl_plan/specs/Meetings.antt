-- What becomes of two leaves that meet, and how steps are joined: what the code of plans computes. This project's own.
use Rattle.std.specs.Prelude.{ℕ, ◌+◌, ◌*◌, ◌^◌, ◌==◌, ◌&&◌, nat_lt, Bool, true, false, if◌then◌else◌, List, [], ◌∷◌, get_or, Option, Some, None}
use Rattle.bl_num.specs.declared.number.Whole.{Whole}
use Rattle.bl_num.specs.declared.number.Width.{Width}
use Rattle.bl_format.specs.declared.layout.Kind.{Kind}
use Rattle.bl_format.specs.declared.layout.Kind.TheVariants as kinds
use Rattle.bl_format.specs.declared.layout.Leaf.{Leaf}
use Rattle.bl_format.specs.Layout.{NamedLeaf, named_leaves, no_leaf, leaf_of}
use Rattle.bl_selection.specs.Fate.{kept_count, same_type}
use Rattle.bl_layout.specs.LaidOut.{LaidOut}
use Rattle.bl_plan.specs.declared.steps.Carry.{Carry}
use Rattle.bl_plan.specs.declared.steps.Carry.TheVariants.{Kept, Cast, Pointers}
use Rattle.bl_plan.specs.declared.steps.Step.{Step}
use Rattle.bl_plan.specs.declared.meeting.Meeting.{Meeting}
use Rattle.bl_plan.specs.declared.meeting.Meeting.TheVariants.{Fresh, Carried, Clash}

-- leaf i of struct s of a layout, with its names
abbrev pub leaf_at : LaidOut → ℕ → ℕ → NamedLeaf
leaf_at layout s i = get_or (named_leaves layout.catalogue layout.width s) i no_leaf

-- ---- two leaves

-- the first n elements of a leaf, carried over to another
abbrev pub step_between : Leaf → Leaf → ℕ → Carry → Step
step_between x y n carry = record { from = x.offset; to = y.offset; count = n; carry = carry }

-- whole numbers of one length have the same bits, and others are cast
unfoldable pub whole_carry : Whole → Whole → Carry
whole_carry a b = if a.bytes == b.bytes then Kept a.bytes else Cast a b

-- what two leaves by their kinds come to, where n elements are kept; alike says that opaque ones are of one type
unfoldable pub meeting_by : Width → Width → Leaf → Leaf → ℕ → Bool → Kind → Kind → Meeting
meeting_by v w x y n alike (kinds.Pointer a s) (kinds.Pointer b t) = Carried (step_between x y n (Pointers v w))
meeting_by v w x y n alike (kinds.Whole a) (kinds.Whole b) = Carried (step_between x y n (whole_carry a b))
meeting_by v w x y n alike (kinds.Bits a) (kinds.Bits b) =
    if a == b then Carried (step_between x y n (Kept a)) else Clash
meeting_by v w x y n alike (kinds.Bits a) (kinds.Whole b) = Clash
meeting_by v w x y n alike (kinds.Whole a) (kinds.Bits b) = Clash
meeting_by v w x y n alike kinds.Opaque kinds.Opaque =
    if alike then Carried (step_between x y (n * x.size) (Kept 1)) else Fresh
meeting_by v w x y n alike _ _ = Fresh

-- a leaf holds opaque bytes
abbrev pub is_opaque : Kind → Bool
is_opaque kinds.Opaque = true
is_opaque k = false

-- two leaves hold opaque bytes of one type and length
abbrev pub are_alike : NamedLeaf → NamedLeaf → Bool
are_alike x y = is_opaque x.kind && is_opaque y.kind && x.size == y.size && same_type x y

-- what two leaves that meet come to
unfoldable pub meeting_at : Width → Width → NamedLeaf → NamedLeaf → Meeting
meeting_at v w x y = meeting_by v w (leaf_of x) (leaf_of y) (kept_count x y) (are_alike x y) x.kind y.kind

-- what becomes of a leaf that meets the one at a place among others, or none
unfoldable pub meeting_of : Width → Width → List NamedLeaf → Option ℕ → NamedLeaf → Meeting
meeting_of v w xs None y = Fresh
meeting_of v w xs (Some j) y = meeting_at v w (get_or xs j no_leaf) y

-- ---- joined steps

-- a second step keeps elements of the same size as a first one, and reads and writes just behind it; and 32 bits can
-- count the elements of both
abbrev pub continues_by : Step → Step → Carry → Carry → Bool
continues_by a b (Kept m) (Kept n) =
    m == n && (a.from + a.count * m) == b.from && (a.to + a.count * m) == b.to && nat_lt (a.count + b.count) (2 ^ 32)
continues_by a b _ _ = false

-- the same by how they carry elements
abbrev pub continues : Step → Step → Bool
continues a b = continues_by a b a.carry b.carry

-- both as one
abbrev pub joined : Step → Step → Step
joined a b = record a { count = a.count + b.count }

-- two steps, or one that does what both do
abbrev pub one_or_two : Step → Step → List Step
one_or_two a b = if continues a b then joined a b ∷ [] else a ∷ b ∷ []

-- some steps and one more, which is joined with the last one where that is possible
unfoldable pub with_step : List Step → Step → List Step
with_step [] b = b ∷ []
with_step (a ∷ []) b = one_or_two a b
with_step (a ∷ x ∷ xs) b = a ∷ with_step (x ∷ xs) b
