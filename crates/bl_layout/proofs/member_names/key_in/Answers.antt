use Rattle.std.proofs.Common.{ℕ, take, ap, ◌∙◌, arith}
use Rattle.std.proofs.lemmas.List.{length-take}
use Rattle.bl_layout.specs.declared.member_names.NameShape.{NameShape}
use Rattle.bl_layout.proofs.KeyLemmas.{key_begins, key_inside}
use Rattle.bl_layout.proofs.member_names.key_in.Goals as goal

pub slice_bounds-result-end : goal.slice_bounds-result-end
slice_bounds-result-end c =
    let name = c.args.name.now in
    omega (arith, ap (λ (x : NameShape). x.key_len) c.requires, key_inside name, length-take c.args.shape.key_len name)

pub returns : goal.returns
returns c =
    let len = ap (λ (x : NameShape). x.key_len) c.requires in
    ap (λ (n : ℕ). take n c.args.name.now) len ∙ key_begins c.args.name.now
