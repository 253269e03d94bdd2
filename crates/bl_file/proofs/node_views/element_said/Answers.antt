use Rattle.bl_file.proofs.ViewLemmas.{speakers_inside}
use Rattle.bl_file.proofs.node_views.element_said.Goals as goal

pub returns-in-Ok-speakers_views-clause-inside : goal.returns-in-Ok-speakers_views-clause-inside
returns-in-Ok-speakers_views-clause-inside g c =
    let s = c.args.node.now.sight.now in
    speakers_inside s.nodes.now (g.T.Targets.names c.args.targets.now c.args.node.now.number) s.header.now.order c.copy_out.new.dst c.args.node.now.speakers.now
    c.args.seen.now.items c.speakers_views.new.seen.items c.requires.seen c.in-Ok-speakers_views.ensures
