use Rattle.bl_draft.proofs.AllNodes.{nodes-known}
use Rattle.bl_writer.proofs.rendering.render_nodes.Goals as goal

pub checked_structs-requires-clause-heads : goal.checked_structs-requires-clause-heads
checked_structs-requires-clause-heads g c =
    nodes-known c.args.outline.now c.args.draft.now c.as_slice-heads.result.now c.requires.all c.as_slice-heads.ensures

pub render_with_file_ids-requires-clause-prepared : goal.render_with_file_ids-requires-clause-prepared
render_with_file_ids-requires-clause-prepared g c = record {
  source = c.requires.source;
  structs = c.in_ok-structs.ensures.made;
  heads = nodes-known c.args.outline.now c.args.draft.now c.as_slice-heads.result.now c.requires.all c.as_slice-heads.ensures;
}

pub render_entries-requires-clause-prepared : goal.render_entries-requires-clause-prepared
render_entries-requires-clause-prepared g c = record {
  source = c.requires.source;
  structs = c.in_ok-structs.ensures.made;
  heads = nodes-known c.args.outline.now c.args.draft.now c.as_slice-heads.result.now c.requires.all c.as_slice-heads.ensures;
}
