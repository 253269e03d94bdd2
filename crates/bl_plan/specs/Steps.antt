-- What the steps of a plan make of an element of the source's struct, and when they fit. This project's own.
use Rattle.std.specs.Prelude.{ℕ, ◌+◌, ◌-◌, ◌*◌, ◌≤◌, List, [], ◌∷◌, ◌++◌, All, flat_map}
use Rattle.bl_num.specs.declared.number.Order.{Order}
use Rattle.bl_num.specs.Numbers.{IsWholeLength, pointer_bytes, number_of, bytes_of, cast_of}
use Rattle.bl_format.specs.Words.{part, zeros, numbers_below}
use Rattle.bl_format.specs.Graph.{Target, Naming}
use Rattle.bl_selection.specs.Written.{address_of}
use Rattle.bl_plan.specs.declared.steps.Carry.{Carry}
use Rattle.bl_plan.specs.declared.steps.Carry.TheVariants.{Kept, Cast, Pointers}
use Rattle.bl_plan.specs.declared.steps.Plan.{Plan}
use Rattle.bl_plan.specs.declared.steps.Step.{Step}

-- the bytes of one element in the source
abbrev pub source_size : Carry → ℕ
source_size (Kept size) = size
source_size (Cast source target) = source.bytes
source_size (Pointers source target) = pointer_bytes source

-- the bytes of one element in the target
abbrev pub target_size : Carry → ℕ
target_size (Kept size) = size
target_size (Cast source target) = target.bytes
target_size (Pointers source target) = pointer_bytes target

-- the number that the one in an element of the source becomes
abbrev pub number_carried : Naming Target → Carry → ℕ → ℕ
number_carried names (Kept size) v = v
number_carried names (Cast source target) v = cast_of v source target
number_carried names (Pointers source target) v = address_of (names v)

-- the bytes of an element of the source, as one of the target
abbrev pub element_carried : Naming Target → Order → Order → Carry → List ℕ → List ℕ
element_carried names from to carry bytes =
    bytes_of to (target_size carry) (number_carried names carry (number_of from (source_size carry) bytes))

-- element k of those of a step, in the bytes of the source
abbrev pub source_part : Step → List ℕ → ℕ → List ℕ
source_part x src k = part src (x.from + k * source_size x.carry) (source_size x.carry)

-- what a step writes: each element as it is carried over
unfoldable pub step_written : Naming Target → Order → Order → List ℕ → Step → List ℕ
step_written names from to src x =
    flat_map (λ k. element_carried names from to x.carry (source_part x src k)) (numbers_below x.count)

-- the place behind what a step writes
abbrev pub step_end : Step → ℕ
step_end x = x.to + x.count * target_size x.carry

-- the bytes from one place up to another: what each step writes at its place, and zeros between
unfoldable pub steps_written : Naming Target → Order → Order → List ℕ → ℕ → ℕ → List Step → List ℕ
steps_written names from to src end at [] = zeros (end - at)
steps_written names from to src end at (x ∷ xs) =
    zeros (x.to - at) ++ (step_written names from to src x ++ steps_written names from to src end (step_end x) xs)

-- an element of the source's struct by a plan, as one of so many bytes
abbrev pub applied : Plan → Naming Target → Order → Order → List ℕ → ℕ → List ℕ
applied plan names from to src length = steps_written names from to src length 0 plan.steps

-- what a step reads stands in so many bytes, and its elements are as long as numbers
pub record StepFits (n : ℕ) (x : Step) : Type 0 where
  pub inside : x.from + x.count * source_size x.carry ≤ n
  pub source : IsWholeLength (source_size x.carry)
  pub target : IsWholeLength (target_size x.carry)

-- from one place up to another, what some steps write stands one behind another
abbrev pub AreInOrder : ℕ → List Step → ℕ → Type 0
AreInOrder at [] end = at ≤ end
AreInOrder at (x ∷ xs) end = (at ≤ x.to) × AreInOrder (step_end x) xs end

-- the steps of a plan read n bytes, and write in m bytes, in order
pub record PlanFits (n m : ℕ) (plan : Plan) : Type 0 where
  pub steps : All (StepFits n) plan.steps
  pub apart : AreInOrder 0 plan.steps m
