use Rattle.std.proofs.Common.{ℕ, ◌*◌, take, ap, ◌∙◌}
use Rattle.std.proofs.lemmas.List.{take_rest}
use Rattle.bl_format.specs.Words.{part}
use Rattle.bl_rebuild.proofs.RunLaws.{step_put}
use Rattle.bl_rebuild.proofs.element.put_step.Goals as goal

pub returns-clause-put : goal.returns-clause-put
returns-clause-put g c =
    let names = g.I.Images.names c.args.images.now in
    let src = c.args.src.now in
    let x = c.args.step in
    step_put names c.args.from c.args.to src c.args.dst.now x c.split_at_mut-rest.result.0.now c.split_at_mut-rest.result.1.now c.write_run.new.dst c.split_at_mut-own_dst.result.1.now _ _
    (ap (take (x.count * c.source_size.result)) (take_rest src x.from) ∙ ap (λ (n : ℕ). part src x.from (x.count * n)) c.source_size.ensures)
    c.split_at_mut-rest.ensures.front c.split_at_mut-rest.ensures.back c.split_at_mut-own_dst.ensures.back
    (ap (λ (n : ℕ). x.count * n) c.target_size.ensures) c.write_run.ensures
