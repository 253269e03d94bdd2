-- Where nothing is overridden, the cells of a source entry are those to which the elements of its node are carried.
use Rattle.std.proofs.Common.{◌≡◌, ℕ, ◌+◌, List, [], ◌∷◌, None, refl, ap}
use Rattle.std.specs.Prelude.{map}
use Rattle.std.specs.List.{enumerate_from}
use Rattle.std.proofs.Math.Path.{fun_ext}
use Rattle.bl_format.specs.declared.file.Head.{Head}
use Rattle.bl_format.specs.Layout.{NamedLeaf, named_leaves}
use Rattle.bl_format.specs.Nodes.{File}
use Rattle.bl_format.specs.Graph.{Target, Value, cells, node_elements}
use Rattle.bl_selection.specs.declared.draft.Draft.{Draft}
use Rattle.bl_selection.specs.Fate.{carried_value}
use Rattle.bl_selection.specs.Selection.{file_at, node_at, index_under, entry_names, given_or, override_at, overridden_cells, source_cells}
use Rattle.bl_selection.specs.Carried.{StructForm, struct_form, carried_cells}
use Rattle.bl_selection.proofs.SourcesFit.{given_or-none, no_override}

each_element : {X Y : Type 0} (f : ℕ → X → Y) (g : X → Y) (q : ℕ) (xs : List X) → ((p : ℕ) (x : X) → f p x ≡ g x)
    → map (λ (p : ℕ × X). f p.0 p.1) (enumerate_from q xs) ≡ map g xs
each_element f g q [] same = refl
each_element f g q (x ∷ xs) same =
    let first = same q x in
    let later = each_element f g (q + 1) xs same in
    λ i. first i ∷ later i

module _ (files : List File) (d : Draft) (e i n : ℕ) (none : d.overrides ≡ []) where
  abbrev f : File
  f = file_at files i

  abbrev x : Head
  x = node_at files i n

  -- the number of the struct in the output's catalogue
  abbrev t : ℕ
  t = index_under d.catalogue f.catalogue x.index

  -- the form of an element in the source, and its leaves in the output
  abbrev from : StructForm
  from = struct_form f.header.order f.catalogue f.header.width x.index

  abbrev to : List NamedLeaf
  to = named_leaves d.catalogue d.header.width t

  element_cells : (p : ℕ) (bytes : List ℕ)
      → overridden_cells d e p t (λ (j : ℕ). carried_value None (entry_names files d e i n) f.header.order from.leaves bytes)
      ≡ carried_cells (entry_names files d e i n) from to bytes
  element_cells p bytes =
      let value : NamedLeaf → ℕ → Value Target = carried_value None (entry_names files d e i n) f.header.order from.leaves bytes in
      let given : ℕ → NamedLeaf → ℕ → Value Target = λ j y k. given_or y (value y k) (override_at d e p j k) in
      let same : given ≡ (λ j. value) = fun_ext (λ j. fun_ext (λ y. fun_ext (λ k. given_or-none y (value y k) (override_at d e p j k) (no_override d e p j k none)))) in
      ap (λ (by : ℕ → NamedLeaf → ℕ → Value Target). cells by to) same

  -- the cells of a source entry are those of its node's elements, carried over
  pub source_cells-carried : source_cells files d e i n ≡ map (carried_cells (entry_names files d e i n) from to) (node_elements f x)
  source_cells-carried =
      each_element (λ p bytes. overridden_cells d e p t (λ (j : ℕ). carried_value None (entry_names files d e i n) f.header.order from.leaves bytes))
      (carried_cells (entry_names files d e i n) from to) 0 (node_elements f x) element_cells
