use Rattle.bl_file.proofs.Steps.{blocks_why, frame_sound, file_read, node_why}
use Rattle.bl_file.proofs.opened.read_outline_behind.Goals as goal

pub returns-in-Err-clause-fault : goal.returns-in-Err-clause-fault
returns-in-Err-clause-fault g c = blocks_why _ _ c.args.header c.in-Err.fault c.requires.read c.in-Err.ensures.fault

pub outline_of-requires-clause-frame : goal.outline_of-requires-clause-frame
outline_of-requires-clause-frame g c =
    let read = c.in-Ok.ensures in
    let layout = c.in-Ok-read_layout.ensures in
    frame_sound c.args.header c.in-Ok-read_layout.layout c.in-Ok.blocks.items _ c.deref-2.result.now c.args.size c.requires.version layout.width layout.has_layout layout.short read.few read.spaced c.requires.small read.sound
    c.keep_nodes.ensures c.deref-2.ensures.value c.in-None.ensures

pub outline_of-requires-clause-read : goal.outline_of-requires-clause-read
outline_of-requires-clause-read g c =
    let layout = c.in-Ok-read_layout.ensures in
    file_read _ _ _ _ c.args.header c.in-Ok.blocks.items c.deref.result.now _ c.deref-2.result.now c.in-Ok-read_layout.layout.catalogue layout.stays.shelf.told layout.stays.name c.deref.ensures.value c.keep_nodes.ensures c.deref-2.ensures.value layout.read c.in-None.ensures

pub returns-in-Some-clause-fault : goal.returns-in-Some-clause-fault
returns-in-Some-clause-fault g c =
    let read = c.in-Ok.ensures in
    node_why _ _ _ _ c.args.header c.in-Ok.blocks.items c.deref.result.now _ c.deref-2.result.now c.in-Ok-read_layout.layout.catalogue read.stays.shelf.told read.stays.name c.deref.ensures.value c.keep_nodes.ensures c.deref-2.ensures.value c.in-Some.fault
    c.in-Ok-read_layout.ensures.read c.in-Some.ensures
