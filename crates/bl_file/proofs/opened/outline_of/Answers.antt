use Rattle.bl_file.proofs.Steps.{outline_stands, file_passes}
use Rattle.bl_file.proofs.opened.outline_of.Goals as goal

pub returns-in-Ok-clause-stands : goal.returns-in-Ok-clause-stands
returns-in-Ok-clause-stands g c =
    let p = c.args.payload.now in
    outline_stands (g.S.Shelf.told c.args.shelf.now) (g.P.Payload.file_name p) (g.P.Payload.agrees p) c.args.header c.args.layout c.args.nodes.items c.from_vec.result c.deref-4.result.now
    c.from_vec-in-Ok.result c.in_ok-table.table c.from_vec-in-Ok-2.result c.in-Ok.kinds.items c.args.size
    c.from_vec.ensures c.deref-4.ensures.value c.from_vec-in-Ok-2.ensures
    c.requires.held (λ b agrees. g.met.P.Payload.agreed_bytes p b agrees) (λ b agrees. rw (← c.requires.size) (g.met.P.Payload.agreed_size p b agrees)) c.requires.read c.in-Ok.ensures.kinds

pub returns-in-Ok-clause-passes : goal.returns-in-Ok-clause-passes
returns-in-Ok-clause-passes g c = file_passes _ _ c.args.header c.args.layout.catalogue c.args.nodes.items c.requires.read
