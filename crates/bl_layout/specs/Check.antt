-- The checks of one struct.
use Rattle.std.specs.Prelude.{◌≡◌, ℕ, if◌then◌else◌, Option, Some, None, List, map}
use Rattle.bl_num.specs.declared.number.Width.{Width}
use Rattle.bl_format.specs.declared.catalogue.Catalogue.{Catalogue}
use Rattle.bl_format.specs.declared.layout.LayoutFault.{LayoutFault}
use Rattle.bl_format.specs.declared.layout.LayoutFault.TheVariants.{BadName, BasicLength, Overrun, Cyclic, DuplicateMember}
use Rattle.std.specs.declared.vec.Vec.{Vec}
use Rattle.std.specs.declared.alloc.Global.{Global}
use Rattle.bl_layout.specs.First.{IsFirst}
use Rattle.bl_layout.specs.Graph.{links_of}
use Rattle.bl_layout.specs.declared.check.Failed.{Failed}
use Rattle.bl_format.specs.Words.{find_map}
use Rattle.bl_format.specs.Layout.{member_count, member_numbers, struct_numbers, member_offset, member_fault, is_duplicate, leads_back, inner_struct}

-- the fault of the first check that a member fails
abbrev pub first_failed : Failed → ℕ → ℕ → Option LayoutFault
first_failed failed s k =
    if failed.name then Some (BadName s k) else
    if failed.identifier then Some (DuplicateMember s k) else
    if failed.length then Some (BasicLength s k) else
    if failed.leads_back then Some (Cyclic s k) else
    if failed.overruns then Some (Overrun s k) else
    None

-- the first fault of a member of a struct
abbrev pub struct_fault : Catalogue → Width → ℕ → Option LayoutFault
struct_fault c w s = find_map (member_fault c w s) (member_numbers c s)

-- the first member of a struct that leads back to it, or how many members there are
abbrev pub IsFirstBack : Catalogue → ℕ → ℕ → Type 0
IsFirstBack c s n = IsFirst (λ k. leads_back c s (inner_struct c s k)) (member_count c s) n

-- the first member of a struct whose identifier stood before, or how many members there are
abbrev pub IsFirstRepeat : Catalogue → ℕ → ℕ → Type 0
IsFirstRepeat c s n = IsFirst (is_duplicate c s) (member_count c s) n

-- where the members of a struct stand
abbrev pub offsets_in : Catalogue → Width → ℕ → List ℕ
offsets_in c w s = map (member_offset c w s) (member_numbers c s)

-- where the members of all structs stand
abbrev pub AreOffsets : Catalogue → Width → List (Vec ℕ Global) → Type 0
AreOffsets c w offsets = links_of offsets ≡ map (offsets_in c w) (struct_numbers c)
