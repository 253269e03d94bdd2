use Rattle.std.proofs.Common.{◌∙◌, arith}
use Rattle.bl_writer.proofs.NodeFacts.{number_at, numbers_long}
use Rattle.bl_writer.proofs.nodes.number_in.Goals as goal

pub index-requires : goal.index-requires
index-requires c =
    let numbers = c.args.output.now.structs.now.numbers in
    let lt = numbers_long c.args.output.now c.args.s numbers.items c.requires.numbers (c.requires.s c.if-s-eq0.false) in
    omega (arith, lt, numbers.ok)

pub returns : goal.returns
returns c = c.index.ensures ∙ number_at c.args.output.now c.args.s _ _ c.requires.numbers (c.requires.s c.if-s-eq0.false)
