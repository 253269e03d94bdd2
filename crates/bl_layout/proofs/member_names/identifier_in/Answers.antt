use Rattle.std.proofs.Common.{◌≡◌, ◌≤◌, ◌+◌, ◌-◌, length, arith, rules, subst, sym}
use Rattle.bl_layout.proofs.NameLemmas.{IsShapeIn, entry_shape}
use Rattle.bl_layout.proofs.member_names.identifier_in.Goals as goal

pub overflow_add-result : goal.overflow_add-result
overflow_add-result c =
    let s = subst (IsShapeIn c.args.name.now) (sym c.requires) (entry_shape c.args.name.now) in
    omega (arith, s.inside)

pub slice_bounds-result-end : goal.slice_bounds-result-end
slice_bounds-result-end c =
    let s = subst (IsShapeIn c.args.name.now) (sym c.requires) (entry_shape c.args.name.now) in
    let inside : c.args.shape.identifier_at + c.args.shape.identifier_len ≤ length c.args.name.now = s.inside in
    search rules

pub returns : goal.returns
returns c =
    let s = subst (IsShapeIn c.args.name.now) (sym c.requires) (entry_shape c.args.name.now) in
    let len : c.args.shape.identifier_at + c.args.shape.identifier_len - c.args.shape.identifier_at ≡ c.args.shape.identifier_len = omega arith in
    rw len s.same
