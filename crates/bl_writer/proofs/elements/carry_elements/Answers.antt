use Rattle.std.proofs.Common.{◌∙◌, ◌*◌, ℕ, List, length, ap, arith}
use Rattle.bl_format.specs.Words.{part}
use Rattle.bl_plan.specs.Steps.{applied}
use Rattle.bl_writer.proofs.ElementPieces.{carried_none, carried_more, cut_is, element_within}
use Rattle.bl_writer.proofs.elements.carry_elements.Goals as goal

pub loop-e-init : goal.loop-e-init
loop-e-init g c = carried_none (g.I.Images.names c.args.images.now) c.args.elements.now c.args.src.now c.args.dst.now

pub loop-e-preserved : goal.loop-e-preserved
loop-e-preserved g c =
    let names = g.I.Images.names c.args.images.now in
    let x = c.args.elements.now in
    let own = part c.args.src.now (c.loop-e.e * x.len) x.len in
    let inside = element_within c.loop-e.e x.count x.len (omega (arith, c.loop-e-test.true)) in
    let rest = c.split_at_mut-rest.ensures in
    let to = c.split_at_mut-to.ensures in
    carried_more names x c.args.src.now c.args.dst.now c.loop-e.dst c.split_at_mut-rest.result.0.now c.split_at_mut-rest.result.1.now
    c.split_at_mut-to.result.0.now c.apply.new.dst c.split_at_mut-to.result.1.now c.loop-e.e
    rest.front_len rest.front rest.back_len to.front_len to.back_len c.apply.ensures.length
    (c.apply.ensures.applied
    ∙ ap (λ (bytes : List ℕ). applied x.plan.now names x.from x.to bytes (length c.split_at_mut-to.result.0.now)) (cut_is c.args.src.now (c.loop-e.e * x.len) x.len (omega (arith, inside, c.requires.src)))
    ∙ ap (λ (n : ℕ). applied x.plan.now names x.from x.to own n) to.front_len) c.loop-e.invariant
