use Rattle.std.proofs.Common.{◌≡◌, ◌<◌, length, get_or, Option, Some, None, ℕ, ap, ◌∙◌, arith}
use Rattle.std.specs.Option.{option_or}
use Rattle.std.proofs.lemmas.List.{get_or_default}
use Rattle.bl_layout.proofs.TableLemmas.{struct_push}
use Rattle.bl_layout.proofs.types.struct_numbers.Goals as goal

pub loop-i-preserved : goal.loop-i-preserved
loop-i-preserved c =
    let s = c.index-structs-i.result in
    let inside : s.type_number < c.args.types = rw (← c.index-structs-i.is) at (c.requires.inside c.loop-i.i s c.loop-i-test.true) in
    let fits : s.type_number < length c.loop-i.numbers.items = omega (arith, c.loop-i.invariant.len) in
    let was : c.or.result ≡ option_or (get_or c.loop-i.numbers.items s.type_number None) (Some c.loop-i.i) =
    c.or.ensures ∙ ap (λ (o : Option ℕ). option_or o (Some c.loop-i.i)) (c.index.ensures ∙ get_or_default c.loop-i.numbers.items s.type_number c.index.result.now None fits) in
    rw was (struct_push c.args.types c.loop-i.i c.args.structs.now c.loop-i.numbers.items s c.loop-i.invariant c.loop-i-test.true c.index-structs-i.is inside)
