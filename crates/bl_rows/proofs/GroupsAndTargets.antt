-- Groups, what addresses name, and what raw nodes hold.
use Rattle.std.proofs.Common.{◌≡◌, ℕ, List, [], ◌∷◌, Option, Some, None, Bool, true, false, refl}
use Rattle.std.specs.Prelude.{codes, map}
use Rattle.bl_num.specs.declared.number.Width.TheVariants.{Four, Eight}
use Rattle.bl_format.specs.declared.raw.RawKind.{RawKind}
use Rattle.bl_format.specs.declared.raw.RawKind.TheVariants.{Bytes, Numbers, Pointers, Pair}
use Rattle.bl_format.specs.Words.{numbers_below}
use Rattle.bl_format.specs.Nodes.{File, Mark, target_of, view_of, view_of_type}
use Rattle.bl_format.specs.Graph.{Value, Target, Points, Contents, IsBytes, IsNumbers, IsPointers, IsPair, Node, Struct, Raw, raw_length, graph}
use Rattle.bl_linking.specs.References.{value_at_path, node_fields, node_in, node_group}
use Rattle.bl_rows.proofs.Evaluation.{leaves, graphs}
use Rattle.bl_rows.proofs.Literals.{catalogue}
use Rattle.bl_rows.proofs.Example.{two_meshes, odd_groups, pointers}

-- the values of some pointers of node n
abbrev values : File → ℕ → List (List ℕ) → List (Option (Value Target))
values f n names = let g = graph f in map (λ name. value_at_path (node_fields (node_in g n)) ((name, 0)
    ∷ [])) names

abbrev contents : Node → Option (RawKind × Contents)
contents (Raw code group count kind held) = Some (kind, held)
contents (Struct code name group elements) = None

-- what some nodes hold
abbrev raw_contents : File → List ℕ → List (Option (RawKind × Contents))
raw_contents f ns = let g = graph f in map (λ n. contents (node_in g n)) ns

-- ---- groups and targets

-- `DATA` before the first head is group 0; each head begins a group, a raw one too
groups : map node_group (graph odd_groups) ≡ 0 ∷ 1 ∷ 1 ∷ 1 ∷ 2 ∷ 3 ∷ 4 ∷ []
unfolding graphs
groups = refl

-- an address within a block, one of nothing, that of another group's raw block, and that of the own one
pointers_in_a_group : values two_meshes 0 (codes "index" ∷ codes "co" ∷ codes "users" ∷ codes "extra" ∷ [])
    ≡ Some (Points None) ∷ Some (Points None) ∷ Some (Points None) ∷ Some (Points (Some 1)) ∷ []
unfolding graphs
pointers_in_a_group = refl

-- the last ID with an address that other nodes have too
pointers_to_ids : values odd_groups 6 (codes "parent" ∷ codes "data" ∷ [])
    ≡ Some (Points (Some 6)) ∷ Some (Points (Some 1)) ∷ []
unfolding graphs
pointers_to_ids = refl

abbrev mark : ℕ → ℕ → Bool → Mark
mark group address id = record { group = group; address = address; is_an_id = id }

-- 0 is null, also where nodes have it; the last ID; the own group before IDs; no raw node of another group
targets : map (λ (p : ℕ × ℕ). target_of (mark 0 0 true ∷ mark 1 8 true ∷ mark 1 9 false ∷ mark 2 8 true
    ∷ mark 2 7 false ∷ mark 3 8 false ∷ []) p.0 p.1) ((0, 0) ∷ (0, 8) ∷ (1, 8) ∷ (3, 8) ∷ (0, 7) ∷ (2, 7)
    ∷ (2, 9) ∷ [])
    ≡ None ∷ Some 3 ∷ Some 1 ∷ Some 5 ∷ None ∷ Some 4 ∷ None ∷ []
unfolding target_of
targets = refl

-- ---- raw nodes

-- an array of pointers: to the mesh, to the array itself, and to the mesh; four bytes behind them are left
-- out
array_of_pointers : raw_contents pointers (1 ∷ [])
    ≡ Some (Pointers, IsPointers (Some 0 ∷ Some 1 ∷ Some 0 ∷ [])) ∷ []
unfolding graphs
array_of_pointers = refl

-- unlike pointers say bytes; `void` says nothing beside `float`; a raw `TEST` is a pair whatever names it,
-- and a short `REND` bytes
kinds : raw_contents odd_groups (2 ∷ 3 ∷ 4 ∷ 5 ∷ [])
    ≡ Some (Bytes, IsBytes (numbers_below 9)) ∷ Some (
      Numbers 4,
      IsNumbers (50462976 ∷ 117835012 ∷ []) (8
          ∷ []),
    ) ∷ Some (Pair, IsPair 50462976 117835012 (8 ∷ [])) ∷ Some (Bytes, IsBytes (numbers_below 7)) ∷ []
unfolding graphs
kinds = refl

-- one star to `char`, `short`, `int` of a wrong length, `double`, `void`, `long` of 4 and of 2 bytes, a
-- struct
one_star : map (view_of_type (catalogue [] ((codes "char", 1) ∷ (codes "short", 2) ∷ (codes "int", 8)
    ∷ (codes "double", 8) ∷ (codes "void", 3) ∷ (codes "long", 4) ∷ (codes "ulong", 2) ∷ (codes "Other", 4)
    ∷ []) []) 1) (numbers_below 8)
    ≡ Some Bytes ∷ Some (Numbers 2) ∷ Some (Numbers 4) ∷ Some (Numbers 8) ∷ None ∷ Some (Numbers 4)
    ∷ Some Bytes ∷ Some Bytes ∷ []
unfolding leaves view_of
one_star = refl

-- a pointer to a function, and one, two and three stars to `void`
stars_to_void : map (λ stars. view_of stars (Some 0)) (0 ∷ 1 ∷ 2 ∷ 3 ∷ [])
    ≡ Some Bytes ∷ None ∷ Some Pointers ∷ Some Bytes ∷ []
unfolding view_of
stars_to_void = refl

lengths_at_another_width : map (λ kind. raw_length kind 28 Eight Four) (Bytes ∷ Numbers 4 ∷ Pointers ∷ Pair
    ∷ [])
    ≡ 28 ∷ 28 ∷ 12 ∷ 28 ∷ []
lengths_at_another_width = refl
