use Rattle.std.proofs.Common.{◌≡◌, ◌≤◌, ◌-◌, ◌+◌, length, min, arith}
use Rattle.bl_format.specs.Blocks.{head_size, step_in}
use Rattle.bl_file.specs.declared.fault.OpenFault.TheVariants.{Block as InBlock}
use Rattle.bl_file.specs.Reading.{IsOfBlocks}
use Rattle.bl_file.proofs.CallLemmas.{copied_part}
use Rattle.bl_file.proofs.Readings.{each_fault, step_read, step_fault, step_sound, window_length, windowed}
use Rattle.bl_file.proofs.reading.read_step.Goals as goal

pub returns-in-Ok-clause-sound : goal.returns-in-Ok-clause-sound
returns-in-Ok-clause-sound g c =
    let part = c.copy_out.new.dst in
    let least = c.min.ensures in
    let head = c.head_size.ensures.size in
    let len : length part ≡ c.min.result = window_length c.min.result _ part c.copy_out.auto.dst (windowed c.args.header.now c.min.result (c.args.size - c.args.at) c.head_size.result least head) in
    let fits : min (head_size c.args.header.now) (c.args.size - c.args.at) ≤ length part = omega (arith, len, least, head) in
    let inside : c.args.at + length part ≤ c.args.size = let within = c.requires.inside in omega (arith, len, least, head, within) in
    step_sound (g.S.Shelf.told c.args.shelf.now) (g.P.Payload.file_name c.args.payload.now) c.args.header.now c.args.size c.args.at part c.step_in.result c.step_in.ensures.bytes fits c.step_in.ensures.step
    c.requires.behind inside

pub returns-in-Ok-clause-read : goal.returns-in-Ok-clause-read
returns-in-Ok-clause-read g c =
    let part = c.copy_out.new.dst in
    let least = c.min.ensures in
    let head = c.head_size.ensures.size in
    let len : length part ≡ c.min.result = window_length c.min.result _ part c.copy_out.auto.dst (windowed c.args.header.now c.min.result (c.args.size - c.args.at) c.head_size.result least head) in
    let fits : min (head_size c.args.header.now) (c.args.size - c.args.at) ≤ length part = omega (arith, len, least, head) in
    step_read (g.S.Shelf.told c.args.shelf.now) (g.P.Payload.file_name c.args.payload.now) c.args.header.now c.args.size c.args.at part c.step_in.result c.step_in.ensures.bytes fits c.step_in.ensures.step
    (copied_part g.S.Shelf g.P.Payload c.args.shelf.now c.args.payload.now g.met.P.Payload.agreed_size c.requires.held c.args.size c.args.at part c.requires.size c.in-Ok.ensures.bytes)

pub returns-in-Ok-clause-fault : goal.returns-in-Ok-clause-fault
returns-in-Ok-clause-fault g c =
    let part = c.copy_out.new.dst in
    let least = c.min.ensures in
    let head = c.head_size.ensures.size in
    let len : length part ≡ c.min.result = window_length c.min.result _ part c.copy_out.auto.dst (windowed c.args.header.now c.min.result (c.args.size - c.args.at) c.head_size.result least head) in
    let fits : min (head_size c.args.header.now) (c.args.size - c.args.at) ≤ length part = omega (arith, len, least, head) in
    step_fault (g.S.Shelf.told c.args.shelf.now) (g.P.Payload.file_name c.args.payload.now) c.args.header.now c.args.size c.args.at part c.step_in.result c.step_in.ensures.bytes fits c.step_in.ensures.step
    (copied_part g.S.Shelf g.P.Payload c.args.shelf.now c.args.payload.now g.met.P.Payload.agreed_size c.requires.held c.args.size c.args.at part c.requires.size c.in-Ok.ensures.bytes)

pub returns-in-Ok-clause-kind : goal.returns-in-Ok-clause-kind
returns-in-Ok-clause-kind g c =
    each_fault InBlock (step_in c.args.header.now c.copy_out.new.dst c.args.at c.args.size) c.step_in.result IsOfBlocks c.step_in.ensures.step (λ fault. tt)
