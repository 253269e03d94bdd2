-- What becomes of members under another catalogue, and of their values.
use Rattle.std.proofs.Common.{◌≡◌, ℕ, List, [], ◌∷◌, ◌++◌, refl, pos, negsuc}
use Rattle.std.specs.Prelude.{map, flat_map, replicate, None, Some, codes}
use Rattle.std.specs.Fmt.{digits}
use Rattle.bl_num.specs.declared.number.Order.TheVariants.{Little}
use Rattle.bl_num.specs.declared.number.Width.TheVariants.{Four, Eight}
use Rattle.bl_format.specs.declared.catalogue.Catalogue.{Catalogue}
use Rattle.bl_format.specs.Words.{numbers_below}
use Rattle.bl_format.specs.Layout.{NamedLeaf, named_leaves}
use Rattle.bl_format.specs.Graph.{Value, Number, Target}
use Rattle.bl_selection.specs.Fate.{fate_of, carried_value, first_clash}
use Rattle.bl_selection.specs.Selection.{rebuilt_graph, whole_selection, selection_clash}
use Rattle.bl_selection.specs.Written.{written_form}
use Rattle.bl_answers.specs.Fates.{common_struct_line, fate_line_by, fates_text}
use Rattle.bl_rows.proofs.Evaluation.{leaves, graphs, selecting, writing}
use Rattle.bl_rows.proofs.Literals.{hex, catalogue, header_4_big}
use Rattle.bl_rows.proofs.Example.{object_and_mesh, with_float}
use Rattle.bl_rows.proofs.Shapes.{shapes, shapes_from, shapes_to, shapes_carried, shapes_fates, inner_from, inner_to, later_from, later_to, nothing_from, nothing_to, number_from, number_to}

-- the values of struct 0 of one catalogue, read from bytes, under another
abbrev carried : Catalogue → Catalogue → List ℕ → List (Value Target)
carried from to bytes = flat_map values (named_leaves to Eight 0)
  where
    values : NamedLeaf → List (Value Target)
    values y =
        let leaves = named_leaves from Eight 0 in
        map (carried_value None (λ a. None) Little leaves bytes y) (numbers_below y.count)

-- three members a, b and c of some types: 0 is `short`, 1 `int`, 2 `uchar`
abbrev three : ℕ → ℕ → ℕ → ℕ → Catalogue
three length a b c = catalogue (codes "a" ∷ codes "b" ∷ codes "c" ∷ [])
    ((codes "short", 2) ∷ (codes "int", 4) ∷ (codes "uchar", 1) ∷ (codes "S", length) ∷ [])
    ((3, (a, 0) ∷ (b, 1) ∷ (c, 2) ∷ []) ∷ [])

-- -1 of a `short` to an `int`, 70000 of an `int` to a `short`, 200 of a `uchar` to an `int`
casts : carried (three 7 0 1 2) (three 10 1 0 1) (hex "ffff70110100c8")
    ≡ Number (negsuc 0) ∷ Number (pos 4464) ∷ Number (pos 200) ∷ []
unfolding selecting
casts = refl

-- one array of so many `char`
abbrev text : List ℕ → ℕ → Catalogue
text name n = catalogue (name ∷ []) ((codes "char", 1) ∷ (codes "S", n) ∷ []) ((1, (0, 0) ∷ []) ∷ [])

letters : ℕ → ℕ → List (Value Target)
letters n c = replicate n (Number (pos c))

-- 66 letters without a zero: to 24 of them, of which the last one is a zero, and to 70
text_cut : carried (text (codes "name[66]") 66) (text (codes "name[24]") 24) (replicate 66 65)
    ≡ letters 23 65 ++ letters 1 0
unfolding selecting letters
text_cut = refl

text_extended : carried (text (codes "name[66]") 66) (text (codes "name[70]") 70) (replicate 66 65)
    ≡ letters 66 65 ++ letters 4 0
unfolding selecting letters
text_extended = refl

-- ---- members of many shapes

-- value by value
shapes_value_by_value :
    written_form (header_4_big 300) shapes_to (rebuilt_graph shapes (header_4_big 300) shapes_to)
    ≡ shapes_carried
unfolding graphs selecting writing
shapes_value_by_value = refl

-- fate by fate
shapes_fate_by_fate : fates_text shapes_from Four shapes_to Four ≡ shapes_fates
unfolding leaves fate_of common_struct_line fate_line_by fates_text digits
shapes_fate_by_fate = refl

-- ---- floats and other numbers

-- within a struct by value, in a later member, nowhere since nothing is carried, and from a number to a
-- float
first_clashes : first_clash (named_leaves inner_from Four 2) (named_leaves inner_to Four 2)
    ∷ first_clash (named_leaves later_from Four 2) (named_leaves later_to Four 2)
    ∷ first_clash (named_leaves nothing_from Four 2) (named_leaves nothing_to Four 2)
    ∷ first_clash (named_leaves number_from Four 1) (named_leaves number_to Four 1) ∷ []
    ≡ Some (2, 0) ∷ Some (1, 1) ∷ None ∷ Some (1, 0) ∷ []
unfolding leaves first_clash
first_clashes = refl

-- a float in `Mesh` where a number was: only a file with a mesh meets it
clash_with_a_mesh : selection_clash (object_and_mesh
    ∷ []) (whole_selection object_and_mesh object_and_mesh.header with_float)
    ≡ Some (4, 6)
unfolding leaves selecting first_clash selection_clash
clash_with_a_mesh = refl
