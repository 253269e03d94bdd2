use Rattle.std.proofs.Common.{sym, ◌∙◌, arith}
use Rattle.bl_cli.proofs.SecondGroup.{codes_are}
use Rattle.bl_cli.proofs.tests.outputs.are_two_groups.Goals as goal

pub returns : goal.returns
returns c = λ is.
    codes_are c.args.nodes.now _ _ _ (omega (arith, c.if-nodes-ne3.false)) (sym c.if-not-has_code.ensures) (sym c.if-not-has_code-2.ensures)
    (sym c.has_code-3.ensures ∙ is)
