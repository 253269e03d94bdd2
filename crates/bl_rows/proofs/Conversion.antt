-- Files converted to other widths, orders and catalogues.
use Rattle.std.proofs.Common.{◌≡◌, ℕ, List, [], ◌∷◌, length, Option, None, Some, refl}
use Rattle.std.specs.Prelude.{map}
use Rattle.bl_num.specs.declared.number.Order.{Order}
use Rattle.bl_num.specs.declared.number.Order.TheVariants.{Big}
use Rattle.bl_num.specs.declared.number.Width.{Width}
use Rattle.bl_num.specs.declared.number.Width.TheVariants.{Four, Eight}
use Rattle.bl_format.specs.Nodes.{File}
use Rattle.bl_format.specs.Graph.{graph}
use Rattle.bl_selection.specs.Selection.{rebuilt_graph}
use Rattle.bl_selection.specs.Written.{written_form}
use Rattle.bl_selection.specs.Committed.{target_header, target_catalogue}
use Rattle.bl_rows.proofs.Evaluation.{graphs, selecting, writing, widths}
use Rattle.bl_rows.proofs.Literals.{header_8, header_4_big}
use Rattle.bl_rows.proofs.Example.{example_8, example_4, three_objects, three_objects_bytes, pointers, pointers_narrow, pointers_narrow_bytes, pointers_wide, pointers_wide_bytes, object_and_mesh, without_mesh, object_alone_bytes}
use Rattle.bl_rows.proofs.SmallFiles.{arrays, arrays_big}

-- what convert writes of a file, by the options
abbrev converted : File → Option Width → Option Order → List ℕ
converted f width order =
    let h = target_header f None width order in
    let c = target_catalogue f None width in
    written_form h c (rebuilt_graph f h c)

-- a file in written form is written as it is
as_it_is : written_form (header_8 405) example_8 (graph three_objects) ≡ three_objects_bytes
unfolding graphs writing
as_it_is = refl

-- narrower, and the highest byte first: the same graph
same_graph : rebuilt_graph three_objects (header_4_big 405) example_4 ≡ graph three_objects
unfolding selecting
same_graph = refl

narrower_length : length (converted three_objects (Some Four) (Some Big)) ≡ 1328
unfolding selecting writing widths
narrower_length = refl

-- an array of pointers gets shorter and longer with its pointers
pointers_to_four_bytes : converted pointers (Some Four) None ≡ pointers_narrow_bytes
unfolding selecting writing widths
pointers_to_four_bytes = refl

pointers_to_eight_bytes : converted pointers_narrow (Some Eight) None ≡ pointers_wide_bytes
unfolding selecting writing widths
pointers_to_eight_bytes = refl

pointers_same_graph : map graph (pointers_narrow ∷ pointers_wide ∷ []) ≡ graph pointers ∷ graph pointers ∷ []
unfolding graphs
pointers_same_graph = refl

-- numbers are turned, bytes stay, and what is left behind pointers is gone
arrays_turned : converted arrays None (Some Big) ≡ arrays_big
unfolding selecting writing widths
arrays_turned = refl

-- a mesh without a struct goes with its group, and what named it is null
mesh_dropped :
    written_form (header_8 405) without_mesh (rebuilt_graph object_and_mesh (header_8 405) without_mesh)
    ≡ object_alone_bytes
unfolding selecting writing
mesh_dropped = refl
