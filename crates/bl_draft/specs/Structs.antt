-- The structs of a source under a draft's catalogue: their numbers there, the plans by which elements of those that nodes
-- have are carried over, and the first float that would become another number.
use Rattle.std.specs.Prelude.{◌≡◌, ◌≢◌, ◌<◌, ℕ, All, List, [], ◌∷◌, length, map, get_or, Some, None, ⊤}
use Rattle.bl_format.specs.declared.file.Head.{Head}
use Rattle.bl_format.specs.Layout.{struct_numbers}
use Rattle.bl_format.specs.Nodes.{File}
use Rattle.bl_selection.specs.declared.draft.Draft.{Draft}
use Rattle.bl_selection.specs.Selection.{index_under, selection_clash}
use Rattle.bl_selection.specs.Carried.{StructForm, struct_form}
use Rattle.bl_plan.specs.declared.plans.PlanFault.{PlanFault}
use Rattle.bl_plan.specs.declared.plans.PlanFault.TheVariants.{FloatCast, NoMemory}
use Rattle.bl_plan.specs.declared.steps.Plan.{Plan}
use Rattle.bl_plan.specs.Agreements.{HasFloatCast}
use Rattle.bl_plan.specs.Plans.{Carries, no_plan}
use Rattle.bl_file.specs.declared.outline.Outline.{Outline}
use Rattle.bl_draft.specs.declared.structs.TargetStructs.{TargetStructs}
use Rattle.bl_draft.specs.Own.{entry_heads, outlined}

-- the number under a draft's catalogue of a source's struct, and 0 where there is none
abbrev pub number_under : Outline → Draft → ℕ → ℕ
number_under o d s = index_under d.catalogue o.layout.catalogue s

-- how elements of a source's struct stand in the source
abbrev pub source_form : Outline → ℕ → StructForm
source_form o s = struct_form o.header.order o.layout.catalogue o.header.width s

-- how they stand under a draft's header and catalogue
abbrev pub target_form : Outline → Draft → ℕ → StructForm
target_form o d s = struct_form d.header.order d.catalogue d.header.width (number_under o d s)

-- unless a node is raw, the catalogue has its struct, whose plan carries elements over
abbrev pub CarriesNode : Outline → Draft → List Plan → Head → Type 0
CarriesNode o d plans x =
    x.index ≢ 0 → (number_under o d x.index < length d.catalogue.structs)
    × Carries (source_form o x.index) (target_form o d x.index) (get_or plans x.index no_plan)

-- the structs of a source under a draft's catalogue, which is laid out: the number of each, and a plan for each that a
-- node of the draft has
pub record AreStructsOf (o : Outline) (d : Draft) (x : TargetStructs) : Type 0 where
  pub catalogue : x.layout.now.catalogue ≡ d.catalogue
  pub width : x.layout.now.width ≡ d.header.width
  pub numbers : x.numbers.items ≡ map (number_under o d) (struct_numbers o.layout.catalogue)
  pub plans : length x.plans.items ≡ length o.layout.catalogue.structs
  pub carries : All (CarriesNode o d x.plans.items) (entry_heads o.nodes d.entries)

-- no node would carry a float to another number
abbrev pub HasNoClash : Outline → Draft → Type 0
HasNoClash o d = selection_clash (outlined o [] ∷ []) d ≡ None

-- a fault is that of memory, or the first float that would become another number
abbrev pub IsClashOf : Outline → Draft → PlanFault → Type 0
IsClashOf o d NoMemory = ⊤
IsClashOf o d (FloatCast t member) = selection_clash (outlined o [] ∷ []) d ≡ Some (t, member)

-- a node of a file isn't raw, and of its struct under a draft's catalogue a member is printed as float-cast, or one inside
abbrev pub NodeHasFloatCast : File → Draft → Head → Type 0
NodeHasFloatCast f d x =
    (x.index ≢ 0)
    × HasFloatCast f.catalogue f.header.width d.catalogue d.header.width (index_under d.catalogue f.catalogue x.index)
