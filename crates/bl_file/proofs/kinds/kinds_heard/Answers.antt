use Rattle.std.proofs.Common.{◌≡◌, ap, ◌∙◌}
use Rattle.std.proofs.lemmas.Result.{IfOk-weaker}
use Rattle.bl_file.specs.Views.{kinds_by}
use Rattle.bl_file.proofs.ReadLemmas.{held_so}
use Rattle.bl_file.proofs.KindLaws.{kinds_of_said}
use Rattle.bl_file.proofs.CallLemmas.{counts_of_memory}
use Rattle.bl_file.proofs.kinds.kinds_heard.Goals as goal

pub returns-in-Ok-clause-kinds : goal.returns-in-Ok-clause-kinds
returns-in-Ok-clause-kinds g c =
    let n = g.P.Payload.file_size c.args.payload.now in
    let names = g.T.Targets.names c.args.targets.now in
    let s = c.args.sight.now in
    IfOk-weaker c.kinds_by.result (λ kinds. kinds.items ≡ kinds_by s.nodes.now c.deref.result.now) _
    (λ kinds are. held_so (g.S.Shelf.told c.args.shelf.now) (g.P.Payload.file_name c.args.payload.now) _ _ c.in-Ok.ensures.said
    (λ b said. kinds_of_said names s n b c.new-seen.result.items c.nodes_said.new.seen.items kinds.items c.requires.sight
    c.new-seen.ensures.items said (are ∙ ap (kinds_by s.nodes.now) c.deref.ensures.value)))
    c.kinds_by.ensures.kinds

pub returns-in-Ok-clause-cause : goal.returns-in-Ok-clause-cause
returns-in-Ok-clause-cause g c = counts_of_memory g.S.Shelf _ _ c.kinds_by.result c.in-Ok.ensures.cause c.kinds_by.ensures.fault
