-- The fault of a layout by the faults of its parts.
use Rattle.std.proofs.Common.{◌≡◌, Option, Some, None, refl}
use Rattle.std.specs.Option.{option_or}
use Rattle.bl_num.specs.declared.number.Width.{Width}
use Rattle.bl_format.specs.declared.catalogue.Catalogue.{Catalogue}
use Rattle.bl_format.specs.declared.layout.LayoutFault.{LayoutFault}
use Rattle.bl_format.specs.Layout.{first_fault, depth_fault, leaves_fault, layout_fault}

found_before : {X : Type 0} (a b d : Option X) (x : X) → option_or a b ≡ Some x → option_or a (option_or b d) ≡ Some x
found_before None None d x e = absurd cc
found_before None (Some y) d x e = e
found_before (Some y) b d x e = e

-- a fault of a member or of nesting is that of the layout
pub layout_fault-early : (c : Catalogue) (w : Width) (fault : LayoutFault) → option_or (first_fault c w) (depth_fault c) ≡ Some fault → layout_fault c w ≡ Some fault
unfolding layout_fault
layout_fault-early c w fault e = found_before (first_fault c w) (depth_fault c) (leaves_fault c w) fault e

-- where there is none, it is that of the leaves
pub layout_fault-leaves : (c : Catalogue) (w : Width) → first_fault c w ≡ None → depth_fault c ≡ None → layout_fault c w ≡ leaves_fault c w
unfolding layout_fault
layout_fault-leaves c w first depth = rw (first, depth) refl
