use Rattle.std.proofs.Common.{sym, ap, ◌∙◌}
use Rattle.bl_ptrarrays.specs.Carried.{header_with}
use Rattle.bl_ptrarrays.proofs.ContentsCarried.{carried, carried-bytes, carried-numbers, carried-pointers, carried-pair}
use Rattle.bl_ptrarrays.proofs.carry.carry_raw.Goals as goal

pub returns-in-Bytes : goal.returns-in-Bytes
returns-in-Bytes g c =
    let names = g.I.Images.names c.args.images.now in
    c.copy_from_slice.ensures.after
    ∙ sym (ap (carried (header_with c.args.to) names c.args.from c.args.src.now) c.in-Bytes.is
    ∙ carried-bytes (header_with c.args.to) names c.args.from c.args.src.now)

pub returns-in-Numbers : goal.returns-in-Numbers
returns-in-Numbers g c =
    let names = g.I.Images.names c.args.images.now in
    c.carry_numbers.ensures
    ∙ sym (ap (carried (header_with c.args.to) names c.args.from c.args.src.now) c.in-Numbers.is
    ∙ carried-numbers (header_with c.args.to) names c.args.from c.args.src.now c.in-Numbers.n)

pub returns-in-Pointers : goal.returns-in-Pointers
returns-in-Pointers g c =
    let names = g.I.Images.names c.args.images.now in
    c.carry_pointers.ensures
    ∙ sym (ap (carried (header_with c.args.to) names c.args.from c.args.src.now) c.in-Pointers.is
    ∙ carried-pointers (header_with c.args.to) names c.args.from c.args.src.now)

pub returns-in-Pair : goal.returns-in-Pair
returns-in-Pair g c =
    let names = g.I.Images.names c.args.images.now in
    c.carry_pair.ensures
    ∙ sym (ap (carried (header_with c.args.to) names c.args.from c.args.src.now) c.in-Pair.is
    ∙ carried-pair (header_with c.args.to) names c.args.from c.args.src.now)
