use Rattle.std.proofs.Common.{length, ap, arith}
use Rattle.bl_file.proofs.Steps.{place_in, catalogues_why, catalogue_why, layout_why}
use Rattle.bl_file.proofs.layout.read_layout.Goals as goal

pub returns-in-Err-clause-fault : goal.returns-in-Err-clause-fault
returns-in-Err-clause-fault g c = catalogues_why _ _ c.args.header.now c.args.blocks.now c.requires.read c.in-Err.fault c.in-Err.ensures.fault

pub read_payload-requires-clause-inside : goal.read_payload-requires-clause-inside
read_payload-requires-clause-inside g c = (place_in c.args.header.now _ c.args.blocks.now c.in-Ok.place c.requires.sound c.in-Ok.ensures.one).fits

pub catalogue_of-requires : goal.catalogue_of-requires
catalogue_of-requires g c =
    let short = (place_in c.args.header.now _ c.args.blocks.now c.in-Ok.place c.requires.sound c.in-Ok.ensures.one).len in
    omega (arith, short, ap length c.deref.ensures.value, c.in-Ok-read_payload.ensures.len)

pub returns-in-Err-catalogue_of-clause-fault : goal.returns-in-Err-catalogue_of-clause-fault
returns-in-Err-catalogue_of-clause-fault g c =
    catalogue_why _ _ c.args.header.now c.args.blocks.now c.requires.read c.in-Ok.place c.in-Ok-read_payload.bytes.items c.in-Ok.ensures.one c.in-Ok-read_payload.ensures.bytes c.in-Err-catalogue_of.fault
    (rw (← c.deref.ensures.value) c.in-Err-catalogue_of.ensures.fault)

pub returns-clause-fault : goal.returns-clause-fault
returns-clause-fault g c =
    layout_why _ _ c.args.header.now c.args.blocks.now c.requires.read c.in-Ok.place c.in-Ok-read_payload.bytes.items c.in-Ok.ensures.one c.in-Ok-read_payload.ensures.bytes c.in-Ok-catalogue_of.catalogue c.in-Err-layout_of.fault
    (rw (← c.deref.ensures.value) c.in-Ok-catalogue_of.ensures.read) c.in-Err-layout_of.ensures.fault
