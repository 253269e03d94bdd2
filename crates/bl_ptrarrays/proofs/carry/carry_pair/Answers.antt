use Rattle.std.proofs.Common.{◌++◌, List, ℕ, take, ap, ◌∙◌}
use Rattle.std.proofs.lemmas.List.{take_rest}
use Rattle.bl_ptrarrays.specs.Carried.{numbers_carried}
use Rattle.bl_ptrarrays.proofs.NumbersCarried.{below_256, numbers-pair}
use Rattle.bl_ptrarrays.proofs.carry.carry_pair.Goals as goal

pub returns : goal.returns
returns c =
    let src = c.args.src.now in
    ap (λ (ys : List ℕ). ys ++ c.copy_from_slice.new.self) c.carry_numbers.ensures
    ∙ ap (λ (ys : List ℕ). numbers_carried 4 c.args.from c.args.to (take 8 src) ++ ys) (c.copy_from_slice.ensures.after ∙ take_rest src 8)
    ∙ numbers-pair src (below_256 src c.type_inv.src) c.args.from c.args.to c.requires.src
