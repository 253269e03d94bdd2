use Rattle.std.proofs.Common.{◌≡◌, ◌≤◌, ◌⊎◌, true, false, sym, ap, ◌∙◌, inl, inr}
use Rattle.bl_ptrarrays.specs.Pieces.{turned_pieces}
use Rattle.bl_ptrarrays.specs.Carried.{is_other}
use Rattle.bl_ptrarrays.proofs.NumbersCarried.{below_256, numbers-turned}
use Rattle.bl_rebuild.proofs.RunLaws.{numbers-kept}
use Rattle.bl_rebuild.proofs.numbers.keep_numbers.Goals as goal

pub returns-then-size-gt1 : goal.returns-then-size-gt1
returns-then-size-gt1 c =
    let src = c.args.src.now in
    c.turn.ensures ∙ ap (turned_pieces c.args.size) c.copy_from_slice.ensures.after
    ∙ numbers-turned src (below_256 src c.type_inv.src) c.args.size c.args.from c.args.to (sym c.is_other.ensures ∙ c.if-is_other.true)

pub returns-else-is_other : goal.returns-else-is_other
returns-else-is_other c =
    let src = c.args.src.now in
    let left : ((is_other c.args.from c.args.to ≡ true) × (c.args.size ≤ 1)) ⊎ (is_other c.args.from c.args.to ≡ false) =
    elim c.else-is_other.either [ inl h ↦ inl (sym c.is_other.ensures ∙ h.0, h.1) | inr h ↦ inr (sym c.is_other.ensures ∙ h) ] in
    c.copy_from_slice.ensures.after
    ∙ numbers-kept c.args.size c.args.from c.args.to src c.requires.size (below_256 src c.type_inv.src) left
