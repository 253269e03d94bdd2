use Rattle.std.proofs.Common.{◌++◌, List, ap, sym, ◌∙◌}
use Rattle.std.proofs.lemmas.List.{append-nil}
use Rattle.bl_format.specs.declared.layout.Leaf.{Leaf}
use Rattle.bl_layout.proofs.BuildLemmas.{no-leaves}
use Rattle.bl_layout.proofs.leaves.push_elements.Goals as goal

pub returns-then-is_empty : goal.returns-then-is_empty
returns-then-is_empty c =
    let none = no-leaves c.args.part c.args.inside.now c.args.part.count (sym c.is_empty.ensures ∙ c.if-is_empty.true) in
    sym (ap (λ (xs : List Leaf). c.args.leaves.now.items ++ xs) none ∙ append-nil c.args.leaves.now.items)
