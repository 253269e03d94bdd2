use Rattle.std.proofs.Common.{◌≡◌, ℕ, subst, arith}
use Rattle.bl_layout.specs.Leaves.{StandBelow, lists_of}
use Rattle.bl_layout.proofs.LevelLemmas.{nestings-len, length-lists_of, Below-none, Below-all}
use Rattle.bl_layout.proofs.leaf_levels.leaf_table.Goals as goal

pub loop-nesting-init : goal.loop-nesting-init
loop-nesting-init c =
    let cat = c.args.catalogue.now in
    let held = c.args.layout_tables.now.nestings in
    Below-none cat c.args.width (lists_of c.in_ok-table.table.items)
    (omega (arith, length-lists_of c.in_ok-table.table.items, c.in_ok-table.ensures, c.len.ensures, nestings-len cat held.items c.requires.layout_tables.nestings, held.ok))
    c.requires.members

pub returns : goal.returns
returns c =
    let cat = c.args.catalogue.now in
    let w = c.args.width in
    let all : c.loop-nesting.nesting ≡ 33 = omega (arith, c.loop-nesting-test.false, c.loop-nesting.auto.nesting-end (omega arith)) in
    Below-all cat w (lists_of c.loop-nesting.table.items)
    (subst (λ (n : ℕ). StandBelow cat w n (lists_of c.loop-nesting.table.items)) all c.loop-nesting.invariant) c.requires.depth
