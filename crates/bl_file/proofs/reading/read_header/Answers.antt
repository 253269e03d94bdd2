use Rattle.std.proofs.Common.{◌≡◌, length, min, ◌∙◌, arith}
use Rattle.bl_format.specs.Blocks.{header_of}
use Rattle.bl_file.specs.declared.fault.OpenFault.TheVariants.{Head as InHead}
use Rattle.bl_file.specs.Reading.{IsOfHeader}
use Rattle.bl_file.proofs.CallLemmas.{copied_part}
use Rattle.bl_file.proofs.Readings.{each_fault, header_read, header_fault, header_version, header_whole, window_length}
use Rattle.bl_file.proofs.reading.read_header.Goals as goal

pub returns-in-Ok-clause-version : goal.returns-in-Ok-clause-version
returns-in-Ok-clause-version g c =
    let part = c.copy_out.new.dst in
    let fits : length part ≡ min c.args.size 12 = let least = c.min.ensures in window_length c.min.result _ part c.copy_out.auto.dst (omega (arith, least)) ∙ least in
    header_version (g.S.Shelf.told c.args.shelf.now) (g.P.Payload.file_name c.args.payload.now) c.args.size part c.header_in.result fits c.header_in.ensures

pub returns-in-Ok-clause-whole : goal.returns-in-Ok-clause-whole
returns-in-Ok-clause-whole g c =
    let part = c.copy_out.new.dst in
    let fits : length part ≡ min c.args.size 12 = let least = c.min.ensures in window_length c.min.result _ part c.copy_out.auto.dst (omega (arith, least)) ∙ least in
    header_whole (g.S.Shelf.told c.args.shelf.now) (g.P.Payload.file_name c.args.payload.now) c.args.size part c.header_in.result fits c.header_in.ensures

pub returns-in-Ok-clause-read : goal.returns-in-Ok-clause-read
returns-in-Ok-clause-read g c =
    let part = c.copy_out.new.dst in
    let fits : length part ≡ min c.args.size 12 = let least = c.min.ensures in window_length c.min.result _ part c.copy_out.auto.dst (omega (arith, least)) ∙ least in
    header_read (g.S.Shelf.told c.args.shelf.now) (g.P.Payload.file_name c.args.payload.now) c.args.size part c.header_in.result fits c.header_in.ensures
    (copied_part g.S.Shelf g.P.Payload c.args.shelf.now c.args.payload.now g.met.P.Payload.agreed_size c.requires.held c.args.size 0 part c.requires.size c.in-Ok.ensures.bytes)

pub returns-in-Ok-clause-fault : goal.returns-in-Ok-clause-fault
returns-in-Ok-clause-fault g c =
    let part = c.copy_out.new.dst in
    let fits : length part ≡ min c.args.size 12 = let least = c.min.ensures in window_length c.min.result _ part c.copy_out.auto.dst (omega (arith, least)) ∙ least in
    header_fault (g.S.Shelf.told c.args.shelf.now) (g.P.Payload.file_name c.args.payload.now) c.args.size part c.header_in.result fits c.header_in.ensures
    (copied_part g.S.Shelf g.P.Payload c.args.shelf.now c.args.payload.now g.met.P.Payload.agreed_size c.requires.held c.args.size 0 part c.requires.size c.in-Ok.ensures.bytes)

pub returns-in-Ok-clause-kind : goal.returns-in-Ok-clause-kind
returns-in-Ok-clause-kind g c = each_fault InHead (header_of c.copy_out.new.dst) c.header_in.result IsOfHeader c.header_in.ensures (λ fault. tt)
