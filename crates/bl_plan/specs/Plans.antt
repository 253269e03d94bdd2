-- When a plan is that of two structs of one name. This project's own.
use Rattle.std.specs.Prelude.{◌≡◌, ◌<◌, ℕ, All, List, [], length, Some, ⊤}
use Rattle.bl_num.specs.declared.number.Order.{Order}
use Rattle.bl_num.specs.declared.number.Width.{Width}
use Rattle.bl_format.specs.declared.catalogue.Catalogue.{Catalogue}
use Rattle.bl_format.specs.Layout.{NamedLeaf, struct_length}
use Rattle.bl_format.specs.Graph.{Target, Naming}
use Rattle.bl_selection.specs.Carried.{StructForm, carried_element, struct_form}
use Rattle.bl_selection.specs.Fate.{first_clash}
use Rattle.bl_plan.specs.declared.plans.PlanFault.{PlanFault}
use Rattle.bl_plan.specs.declared.plans.PlanFault.TheVariants.{FloatCast, NoMemory}
use Rattle.bl_plan.specs.declared.steps.Plan.{Plan}
use Rattle.bl_plan.specs.Steps.{applied, PlanFits}

-- a plan is that of struct s of catalogue c at width v and struct t of d at w: it makes of an element of the one
-- just what is written of it under the other
pub record IsPlanOf (c : Catalogue) (v : Width) (s : ℕ) (d : Catalogue) (w : Width) (t : ℕ) (plan : Plan) : Type 0 where
  pub fits : PlanFits (struct_length c s) (struct_length d t) plan
  pub carries : (names : Naming Target) (from to : Order) (src : List ℕ)
      → length src ≡ struct_length c s → All (λ b. b < 256) src
      → applied plan names from to src (struct_length d t)
      ≡ carried_element names (struct_form from c v s) (struct_form to d w t) src

-- a plan carries elements over from one form of a struct to another: of each it makes just what is written of it there
pub record Carries (x y : StructForm) (plan : Plan) : Type 0 where
  pub fits : PlanFits x.size y.size plan
  pub carries : (names : Naming Target) (src : List ℕ) → length src ≡ x.size → All (λ b. b < 256) src
      → applied plan names x.order y.order src y.size ≡ carried_element names x y src

-- by a plan each element stays as it is, byte by byte
pub record CopiesWhole (x y : StructForm) (plan : Plan) : Type 0 where
  pub size : x.size ≡ y.size
  pub copies : (names : Naming Target) (src : List ℕ) → length src ≡ x.size → All (λ b. b < 256) src
      → applied plan names x.order y.order src y.size ≡ src

-- a plan of nothing
abbrev pub no_plan : Plan
no_plan = record { steps = [] }

-- a fault is that of leaves ys that would be carried over from xs: no memory, or the first of them that can't be
abbrev pub IsFaultOf : List NamedLeaf → List NamedLeaf → PlanFault → Type 0
IsFaultOf xs ys NoMemory = ⊤
IsFaultOf xs ys (FloatCast t member) = first_clash xs ys ≡ Some (t, member)
