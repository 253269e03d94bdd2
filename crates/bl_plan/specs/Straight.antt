-- Plans between forms of one order of bytes, in which no number turns: numbers that are kept are bytes that are kept,
-- whatever their size, and so more steps are joined. This project's own.
use Rattle.std.specs.Prelude.{ℕ, ◌*◌, ◌^◌, ◌==◌, ◌&&◌, nat_lt, Bool, false, if◌then◌else◌, length, List, [], ◌∷◌}
use Rattle.std.specs.List.{fold}
use Rattle.bl_plan.specs.declared.steps.Carry.{Carry}
use Rattle.bl_plan.specs.declared.steps.Carry.TheVariants.{Kept}
use Rattle.bl_plan.specs.declared.steps.Plan.{Plan}
use Rattle.bl_plan.specs.declared.steps.Step.{Step}
use Rattle.bl_plan.specs.Meetings.{with_step}

-- ---- joined over sizes

-- a step by how it carries elements: if it keeps them, it keeps their bytes, where 32 bits can count these
abbrev pub bytewise_by : Step → Carry → Step
bytewise_by x (Kept n) = if nat_lt (x.count * n) (2 ^ 32) then record x { count = x.count * n; carry = Kept 1 } else x
bytewise_by x _ = x

-- the same of the way in which it does
abbrev pub bytewise : Step → Step
bytewise x = bytewise_by x x.carry

-- some steps and one more, by its bytes, which is joined with the last one where that is possible
abbrev pub with_straight : List Step → Step → List Step
with_straight xs x = with_step xs (bytewise x)

-- steps by their bytes, joined where that is possible
abbrev pub straight : List Step → List Step
straight xs = fold with_straight [] xs

-- ---- copied whole

-- a step keeps the first n bytes at their place, by how it carries elements
abbrev pub keeps_first_by : ℕ → Step → Carry → Bool
keeps_first_by n x (Kept size) = x.from == 0 && x.to == 0 && x.count * size == n
keeps_first_by n x _ = false

-- the same of the way in which it does
abbrev pub keeps_first : ℕ → Step → Bool
keeps_first n x = keeps_first_by n x x.carry

-- steps keep the first n bytes at their place, at once
abbrev pub keep_first : ℕ → List Step → Bool
keep_first n [] = n == 0
keep_first n (x ∷ xs) = length xs == 0 && keeps_first n x

-- a plan keeps all bytes at their place at once, where elements have so many bytes, and so many
abbrev pub copies_whole : ℕ → ℕ → Plan → Bool
copies_whole from to plan = from == to && keep_first from plan.steps
